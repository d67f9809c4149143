-- Lists of keys, some among others.
use Rattle.std.proofs.Common.{◌≡◌, true, List, [], ◌∷◌, refl, subst, inl, inr}
use Rattle.std.specs.Prelude.{Contains}
use Rattle.std.specs.List.{list_any}
use Rattle.std.proofs.lemmas.Bool.{and_parts, and_from, or_cases}
use Rattle.siread.specs.declared.keys.LockKey.{LockKey}
use Rattle.siread.specs.Keys.{same_key, are_among}
use Rattle.siread.proofs.KeyOrder.{same_key-true, same_key-refl}
use Rattle.siread.proofs.Members.{in_head, in_tail, in_cases, not_in_nil}
use Rattle.alone.proofs.Members.{any_from}

any_in : (key : LockKey) (those : List LockKey) → list_any (same_key key) those ≡ true → Contains those key
any_in key [] h = let no : ⊥ = cc in absurd no
any_in key (other ∷ rest) h = elim (or_cases (same_key key other) (list_any (same_key key) rest) h) [
  | inl same ↦ subst (λ k. Contains (k ∷ rest) key) (same_key-true key other same) (in_head key rest)
  | inr there ↦ in_tail other rest key (any_in key rest there)
]

pub among : (these those : List LockKey) → are_among these those ≡ true → (key : LockKey) → Contains these key → Contains those key
among [] those h key m = absurd (not_in_nil key m)
among (first ∷ rest) those h key m =
    let p = and_parts (list_any (same_key first) those) (are_among rest those) h in
    elim (in_cases first rest key m) [
      | inl same ↦ subst (Contains those) same (any_in first those p.0)
      | inr there ↦ among rest those p.1 key there
    ]

pub among_from : (these those : List LockKey) → ((key : LockKey) → Contains these key → Contains those key) → are_among these those ≡ true
among_from [] those h = refl
among_from (first ∷ rest) those h =
    and_from (list_any (same_key first) those) (are_among rest those) (any_from (same_key first) those first (h first (in_head first rest)) (same_key-refl first))
    (among_from rest those (λ key m. h key (in_tail first rest key m)))
