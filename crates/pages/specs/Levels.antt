-- Nodes beside each other, each seen as its height, its width and its entries.
use Rattle.std.specs.Prelude.{◌≡◌, ◌<◌, ℕ, zero, suc, max, List, [], ◌∷◌, ◌++◌, length}
use Rattle.value.specs.declared.values.Value.{Value}

-- a node's height, 0 of a page, and its width, how many entries or nodes it holds; and the entries below it
abbrev pub Tree : Type 0 → Type 0
Tree V = (ℕ × ℕ) × List (Value × V)

module _ {V : Type 0} where
  -- the entries below the nodes, in order
  abbrev pub entries_of : List (Tree V) → List (Value × V)
  entries_of [] = []
  entries_of (node ∷ nodes) = node.1 ++ entries_of nodes

  -- the entries below the node at a place
  abbrev pub entries_at : List (Tree V) → ℕ → List (Value × V)
  entries_at [] at = []
  entries_at (node ∷ nodes) zero = node.1
  entries_at (node ∷ nodes) (suc at) = entries_at nodes at

  -- the height of the highest
  abbrev pub highest : List (Tree V) → ℕ
  highest [] = 0
  highest (node ∷ nodes) = max node.0.0 (highest nodes)

  -- each node has this height
  abbrev pub HaveHeight : ℕ → List (Tree V) → Type 0
  HaveHeight height [] = Unit {0}
  HaveHeight height (node ∷ nodes) = (node.0.0 ≡ height) × HaveHeight height nodes

  -- each node has entries
  abbrev pub HaveEntries : List (Tree V) → Type 0
  HaveEntries [] = Unit {0}
  HaveEntries (node ∷ nodes) = (0 < length node.1) × HaveEntries nodes

  -- each node but the one at a place has entries
  abbrev pub HaveEntriesBut : ℕ → List (Tree V) → Type 0
  HaveEntriesBut at [] = Unit {0}
  HaveEntriesBut zero (node ∷ nodes) = HaveEntries nodes
  HaveEntriesBut (suc at) (node ∷ nodes) = (0 < length node.1) × HaveEntriesBut at nodes

  -- the node at a place is so
  abbrev pub IsSoAt : (Tree V → Type 0) → List (Tree V) → ℕ → Type 0
  IsSoAt P [] at = ⊥
  IsSoAt P (node ∷ nodes) zero = P node
  IsSoAt P (node ∷ nodes) (suc at) = IsSoAt P nodes at

  -- a node holds several entries or nodes, or takes one more
  abbrev pub IsWide : Tree V → Type 0
  IsWide node = 1 < node.0.1

  abbrev pub IsNarrow : Tree V → Type 0
  IsNarrow node = node.0.1 < 15
