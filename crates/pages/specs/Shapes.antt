-- What nodes show, and what holds of them.
use Rattle.std.specs.Prelude.{◌≡◌, ℕ, ◌+◌, ◌<◌, ◌≤◌, Option, Some, None, List, [], map, length}
use Rattle.std.specs.Arc.{arc_value}
use Rattle.std.specs.declared.sync.Arc.{Arc}
use Rattle.std.proofs.Common.{Global}
use Rattle.value.specs.declared.values.Value.{Value}
use Rattle.pages.specs.declared.nodes.Shape.{Shape}
use Rattle.pages.specs.declared.nodes.Shape.TheVariants.{Leaf, Inner}
use Rattle.pages.specs.Reach.{AreInOrder}
use Rattle.pages.specs.Levels.{Tree, entries_of, highest}
use Rattle.pages.specs.Parts.{AreBelow, AreFilled}

module _ {V : Type 0} where
  -- a page and a node over others, by what they hold
  abbrev pub page_tree : List (Value × V) → Tree V
  page_tree page = ((0, length page), page)

  abbrev pub tree_over : List (Tree V) → Tree V
  tree_over ts = ((highest ts + 1, length ts), entries_of ts)

  -- a node's height, its width and its entries
  abbrev pub tree_of : Shape V → Tree V
  tree_of (Leaf page) = page_tree page.items
  tree_of (Inner count seps nodes) = tree_over (map arc_value nodes.items)

  -- a page has at most 15 entries, and they ascend
  pub record IsPage (page : List (Value × V)) : Type 0 where
    pub most : length page ≤ 15
    pub order : AreInOrder page

  -- an inner node knows how many entries there are below it, and has no empty node beside another
  pub record IsOver (number : ℕ) (seps : List Value) (ts : List (Tree V)) : Type 0 where
    pub count : number ≡ length (entries_of ts)
    pub below : AreBelow seps ts
    pub filled : AreFilled ts

  abbrev pub IsWhole : Shape V → Type 0
  IsWhole (Leaf page) = IsPage page.items
  IsWhole (Inner count seps nodes) = IsOver count (arc_value seps).items (map arc_value nodes.items)

  -- a node takes what is to come: something only where it has room
  abbrev pub HasRoom : Option V → Tree V → Type 0
  HasRoom None t = Unit {0}
  HasRoom (Some v) t = t.0.1 < 15

  -- the entries below a root, if there is one
  abbrev pub entries_in : Option (Arc (Tree V) Global) → List (Value × V)
  entries_in None = []
  entries_in (Some root) = (arc_value root).1
