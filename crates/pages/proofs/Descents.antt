-- From a node to one below it.
use Rattle.std.proofs.Common.{◌≡◌, ℕ, ◌+◌, ◌<◌, List, length, map, sym, ◌∙◌, ap, arith, slice_index_or, Global}
use Rattle.std.specs.Arc.{arc_value}
use Rattle.std.specs.declared.sync.Arc.{Arc}
use Rattle.pages.specs.Levels.{Tree, entries_at, highest, IsSoAt}
use Rattle.pages.proofs.Orders.{shared_there}
use Rattle.pages.proofs.Trees.{entries_at-is, is_lower, so_back, so_there}

module _ {V : Type 0} where
  pub child_entries : (nodes : List (Arc (Tree V) Global)) (r : ℕ) (x : Arc (Tree V) Global) (child : Tree V) → r < length nodes → x ≡ slice_index_or nodes r x → child ≡ arc_value x → child.1 ≡ entries_at (map arc_value nodes) r
  child_entries nodes r x child h e f =
      let there = shared_there nodes r x child h e f in
      ap (λ (t : Tree V). t.1) there.is ∙ sym (entries_at-is (map arc_value nodes) r child there.within)

  pub child_lower : (nodes : List (Arc (Tree V) Global)) (r : ℕ) (x : Arc (Tree V) Global) (child : Tree V) → r < length nodes → x ≡ slice_index_or nodes r x → child ≡ arc_value x → child.0.0 < highest (map arc_value nodes) + 1
  child_lower nodes r x child h e f =
      let there = shared_there nodes r x child h e f in
      omega (arith, ap (λ (t : Tree V). t.0.0) there.is, is_lower (map arc_value nodes) r child there.within)

  -- a node that is so, and its place
  pub child_so : (P : Tree V → Type 0) (nodes : List (Arc (Tree V) Global)) (r : ℕ) (x : Arc (Tree V) Global) (child : Tree V) → r < length nodes → x ≡ slice_index_or nodes r x → child ≡ arc_value x → IsSoAt P (map arc_value nodes) r → P child
  child_so P nodes r x child h e f s = so_back P (map arc_value nodes) r child (shared_there nodes r x child h e f).is s

  pub so_at_child : (P : Tree V → Type 0) (nodes : List (Arc (Tree V) Global)) (r : ℕ) (x : Arc (Tree V) Global) (child : Tree V) → r < length nodes → x ≡ slice_index_or nodes r x → child ≡ arc_value x → P child → IsSoAt P (map arc_value nodes) r
  so_at_child P nodes r x child h e f p =
      let there = shared_there nodes r x child h e f in
      so_there P (map arc_value nodes) r child there.within there.is p
