-- The equations of a condition's truth, a variant at a time.
use Rattle.std.proofs.Common.{◌≡◌, ℕ, ◌+◌, ◌<◌, List, map, drop, get_or, length, ◌≤◌, refl, sym, ◌∙◌, ap}
use Rattle.std.proofs.lemmas.List.{drop_all}
use Rattle.value.specs.declared.truths.Truth.{Truth}
use Rattle.value.specs.declared.truths.Truth.TheVariants.{True, False, Unknown}
use Rattle.value.specs.Truths.{and_of, or_of}
use Rattle.table.specs.Rows.{RowValues}
use Rattle.value.specs.declared.values.Value.{Value}
use Rattle.value.proofs.Lists.{drop_item}
use Rattle.table.specs.declared.slots.SlotKind.{SlotKind}
use Rattle.table.specs.declared.conds.Cond.{Cond}
use Rattle.table.specs.declared.conds.Cond.TheOpen.{Cond-F}
use Rattle.table.specs.declared.conds.Cond.TheFolds.{fold-roll-Cond}
use Rattle.table.specs.declared.conds.Cond.TheViews.{And, Or}
use Rattle.table.specs.declared.conds.Cond.TheVariants.{rolls-And, rolls-Or}
use Rattle.std.specs.Prelude.{IsTrue}
use Rattle.std.proofs.lemmas.Bool.{and_parts}
use Rattle.table.specs.Bounds.{is_bounded, all_true}
use Rattle.table.specs.Eval.{cond_step, truth}
use Rattle.table.specs.Values.{all_of, any_of}

module _ (row : RowValues) (slots : List Value) where
  pub truth-And : (parts : List Cond) → truth row slots (And parts) ≡ all_of (map (truth row slots) parts)
  truth-And parts = ap (truth row slots) (sym (rolls-And parts)) ∙ fold-roll-Cond Truth (cond_step row slots) (Cond-F.And parts)

  pub truth-Or : (parts : List Cond) → truth row slots (Or parts) ≡ any_of (map (truth row slots) parts)
  truth-Or parts = ap (truth row slots) (sym (rolls-Or parts)) ∙ fold-roll-Cond Truth (cond_step row slots) (Cond-F.Or parts)

and_true : (t : Truth) → and_of t True ≡ t
and_true True = refl
and_true False = refl
and_true Unknown = refl

or_false : (t : Truth) → or_of t False ≡ t
or_false True = refl
or_false False = refl
or_false Unknown = refl

-- where no part is left, what was found is the whole's
pub all_done : (f : Cond → Truth) (parts : List Cond) (i : ℕ) (t : Truth) → length parts ≤ i → and_of t (all_of (map f (drop i parts))) ≡ all_of (map f parts) → t ≡ all_of (map f parts)
all_done f parts i t h e = sym (and_true t) ∙ (rw (drop_all i parts h) at e)

pub any_done : (f : Cond → Truth) (parts : List Cond) (i : ℕ) (t : Truth) → length parts ≤ i → or_of t (any_of (map f (drop i parts))) ≡ any_of (map f parts) → t ≡ any_of (map f parts)
any_done f parts i t h e = sym (or_false t) ∙ (rw (drop_all i parts h) at e)

and_assoc : (a b c : Truth) → and_of (and_of a b) c ≡ and_of a (and_of b c)
and_assoc True b c = refl
and_assoc False b c = refl
and_assoc Unknown True c = refl
and_assoc Unknown False c = refl
and_assoc Unknown Unknown True = refl
and_assoc Unknown Unknown False = refl
and_assoc Unknown Unknown Unknown = refl

or_assoc : (a b c : Truth) → or_of (or_of a b) c ≡ or_of a (or_of b c)
or_assoc True b c = refl
or_assoc False b c = refl
or_assoc Unknown True c = refl
or_assoc Unknown False c = refl
or_assoc Unknown Unknown True = refl
or_assoc Unknown Unknown False = refl
or_assoc Unknown Unknown Unknown = refl

-- one part more
pub all_more : (f : Cond → Truth) (parts : List Cond) (i : ℕ) (part : Cond) (t : Truth) → i < length parts → part ≡ get_or parts i part → and_of t (all_of (map f (drop i parts))) ≡ all_of (map f parts) → and_of (and_of t (f part)) (all_of (map f (drop (i + 1) parts))) ≡ all_of (map f parts)
all_more f parts i part t h is e = and_assoc t (f part) (all_of (map f (drop (i + 1) parts))) ∙ ap (λ (ps : List Cond). and_of t (all_of (map f ps))) (sym (drop_item parts i part h is)) ∙ e

pub any_more : (f : Cond → Truth) (parts : List Cond) (i : ℕ) (part : Cond) (t : Truth) → i < length parts → part ≡ get_or parts i part → or_of t (any_of (map f (drop i parts))) ≡ any_of (map f parts) → or_of (or_of t (f part)) (any_of (map f (drop (i + 1) parts))) ≡ any_of (map f parts)
any_more f parts i part t h is e = or_assoc t (f part) (any_of (map f (drop (i + 1) parts))) ∙ ap (λ (ps : List Cond). or_of t (any_of (map f ps))) (sym (drop_item parts i part h is)) ∙ e

pub bounded_more : (kinds : List SlotKind) (parts : List Cond) (i : ℕ) (part : Cond) → i < length parts → part ≡ get_or parts i part → IsTrue (all_true (map (is_bounded kinds) (drop i parts))) → IsTrue (all_true (map (is_bounded kinds) (drop (i + 1) parts)))
bounded_more kinds parts i part h is b = (and_parts (is_bounded kinds part) (all_true (map (is_bounded kinds) (drop (i + 1) parts))) (rw (drop_item parts i part h is) at b)).1
