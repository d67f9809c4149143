use Rattle.std.proofs.Common.{◌≡◌, ◌⊎◌, ℕ, zero, suc, List, [], ◌∷◌, get_or, map, take, add-one, ◌∙◌, subst, inl, inr}
use Rattle.std.specs.Prelude.{Contains}
use Rattle.table.specs.declared.rows.Change.{Change}
use Rattle.siread.specs.declared.keys.Place.{Place}
use Rattle.siread.specs.Keys.{place_of}
use Rattle.siread.proofs.Members.{in_head, in_tail, in_cases, not_in_nil}
use Rattle.changes.specs.Nets.{HasPlace}
use Rattle.changes.proofs.touched.TouchedRows.make_room.Goals as goal

-- a place of the first changes is one of those before the last, or that of the last
in_taken : (changes : List Change) (i : ℕ) (place : Place) → Contains (map place_of (take (suc i) changes)) place
    → Contains (map place_of (take i changes)) place ⊎ ((d : Change) → place_of (get_or changes i d) ≡ place)
in_taken [] i place m = absurd (not_in_nil place m)
in_taken (change ∷ rest) zero place m = elim (in_cases (place_of change) [] place m) [ inl same ↦ inr (λ d. same) | inr there ↦ absurd (not_in_nil place there) ]
in_taken (change ∷ rest) (suc i) place m = elim (in_cases (place_of change) (map place_of (take (suc i) rest)) place m) [
  | inl same ↦ inl (subst (λ q. Contains (place_of change ∷ map place_of (take i rest)) q) same (in_head (place_of change) (map place_of (take i rest))))
  | inr there ↦ elim (in_taken rest i place there) [ inl before ↦ inl (in_tail (place_of change) (map place_of (take i rest)) place before) | inr here ↦ inr here ]
]

pub loop-change-preserved : goal.loop-change-preserved
loop-change-preserved c = (
  λ place. c.make_place.ensures.same place ∙ c.loop-change.invariant.0 place,
  λ place m. elim (in_taken c.args.changes.now c.loop-change.change-index place (rw (← add-one) m)) [
    | inl before ↦ c.make_place.ensures.kept place (c.loop-change.invariant.1 place before)
    | inr here ↦
        subst (HasPlace c.make_place.new.self) (here _)
        (subst (λ (change : Change). HasPlace c.make_place.new.self (place_of change)) c.change-item.is c.in_ok-make_place.ensures.room)
  ],
)
