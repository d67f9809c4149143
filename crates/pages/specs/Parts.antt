-- How separators part the nodes below a node, and which of them a key belongs to.
use Rattle.std.specs.Prelude.{◌≡◌, ◌<◌, ◌≤◌, ◌-◌, ℕ, zero, suc, min, false, List, [], ◌∷◌, length}
use Rattle.std.specs.List.{remove}
use Rattle.std.specs.Ordering.{is_lt, is_gt}
use Rattle.std.specs.declared.cmp.Ordering.TheVariants.{Less}
use Rattle.value.specs.declared.values.Value.{Value}
use Rattle.value.specs.ValueOrder.{value_cmp}
use Rattle.value.specs.Ordered.{IsAscending}
use Rattle.pages.specs.Reach.{key_of, reaches, AreInOrder}
use Rattle.pages.specs.Levels.{Tree, entries_of, highest, HaveHeight, HaveEntries, HaveEntriesBut}

-- a separator is its own key
abbrev pub own : Value → Value
own separator = separator

-- the separators go up
abbrev pub AreRising : List Value → Type 0
AreRising seps = IsAscending value_cmp own seps

-- the key belongs to the node at a place: the first separator above it stands there, or none is above it
abbrev pub Leads : Value → List Value → ℕ → Type 0
Leads k [] at = at ≡ 0
Leads k (s ∷ seps) zero = value_cmp k s ≡ Less
Leads k (s ∷ seps) (suc at) = (is_lt (value_cmp k s) ≡ false) × Leads k seps at

-- what is left of the separators without that behind the node at a place, or before it where it is the last of several
pub record AreWithout (at : ℕ) (seps left : List Value) : Type 0 where
  pub several : 0 < length seps
  pub items : left ≡ remove seps (min at (length seps - 1))

module _ {V : Type 0} where
  -- no entry is below the key
  abbrev pub AreFrom : Value → List (Value × V) → Type 0
  AreFrom s [] = Unit {0}
  AreFrom s (x ∷ xs) = (is_gt (value_cmp s (key_of x)) ≡ false) × AreFrom s xs

  -- between two nodes stands a separator: above all entries before it, and above none behind it
  abbrev pub Parted : List Value → List (Tree V) → Type 0
  Parted [] [] = ⊥
  Parted [] (t ∷ []) = Unit {0}
  Parted [] (t ∷ u ∷ ts) = ⊥
  Parted (s ∷ seps) [] = ⊥
  Parted (s ∷ seps) (t ∷ ts) = (reaches s t.1 ≡ false) × (AreFrom s (entries_of ts) × Parted seps ts)

  -- nodes below a node: at most 15, of one height, in order, and parted by separators that go up
  pub record AreBelow (seps : List Value) (ts : List (Tree V)) : Type 0 where
    pub most : length ts ≤ 15
    pub level : HaveHeight (highest ts) ts
    pub order : AreInOrder (entries_of ts)
    pub rising : AreRising seps
    pub parted : Parted seps ts

  -- where there are several nodes, each has entries
  abbrev pub AreFilled : List (Tree V) → Type 0
  AreFilled ts = 1 < length ts → HaveEntries ts

  -- or each but the one at a place
  abbrev pub AreFilledBut : ℕ → List (Tree V) → Type 0
  AreFilledBut at ts = 1 < length ts → HaveEntriesBut at ts

  -- the same entries, otherwise parted
  pub record AreSame (seps newer : List Value) (ts us : List (Tree V)) : Type 0 where
    pub items : entries_of us ≡ entries_of ts
    pub height : highest us ≡ highest ts
    pub below : AreBelow newer us
    pub filled : AreFilled us
