use Rattle.std.proofs.Common.{◌+◌, Some, None, refl, sym, ap, ◌∙◌, subst}
use Rattle.std.specs.Prelude.{IsSome}
use Rattle.siread.specs.Families.{changed_value, readers_of}
use Rattle.siread.specs.Locks.{in_family, readers_at, changed_at, AreAscending, AreBelow}
use Rattle.siread.specs.Readers.{with_last}
use Rattle.siread.proofs.Ascending.{put_ascends}
use Rattle.siread.proofs.Lookups.{family_is, after_in, changed_same, left_same, on_err}
use Rattle.siread.proofs.locks.LockTable.put_one.Goals as goal

pub returns-in_err-put-in-Some-clause-unchanged : goal.returns-in_err-put-in-Some-clause-unchanged
returns-in_err-put-in-Some-clause-unchanged c =
    let old = c.self.inside.families in
    let family = c.parts-family.result.0 in
    let value = c.parts-family.result.1.now in
    let w = c.put.new.self in
    let there = family_is old family (Some c.in-Some.readers.now) c.in-Some.ensures.value in
    let updates = (c.get_mut.follows.holds w).3 (subst IsSome c.in-Some.ensures.value refl) in
    on_err _ _ (after_in old (c.get_mut.follows.lender w) c.args.key.now family value c.parts-family.ensures.family c.parts-family.ensures.value (Some w) (λ xs. xs) updates.0
    (c.in_err-put-in-Some.ensures.unchanged ∙ ap readers_of there ∙ sym (changed_same value (λ xs. xs) (readers_of (in_family old.entries family)) refl))
    ∙ left_same c.args.key.now (λ xs. xs) (readers_at old.entries) refl
    ∙ ap readers_at c.self.view_is)

pub returns-in-Some-clause-put : goal.returns-in-Some-clause-put
returns-in-Some-clause-put c =
    let old = c.self.inside.families in
    let family = c.parts-family.result.0 in
    let value = c.parts-family.result.1.now in
    let w = c.put.new.self in
    let there = family_is old family (Some c.in-Some.readers.now) c.in-Some.ensures.value in
    let updates = (c.get_mut.follows.holds w).3 (subst IsSome c.in-Some.ensures.value refl) in
    after_in old (c.get_mut.follows.lender w) c.args.key.now family value c.parts-family.ensures.family c.parts-family.ensures.value (Some w) (with_last c.args.number) updates.0
    (c.in_ok-put-in-Some.ensures.put ∙ ap (λ readers. changed_value value (with_last c.args.number) (readers_of readers)) there)
    ∙ ap (λ es. changed_at c.args.key.now (with_last c.args.number) (readers_at es)) c.self.view_is

pub returns-clause-put : goal.returns-clause-put
returns-clause-put c =
    let old = c.self.inside.families in
    let was = c.get_mut.follows.lender-at-none in
    let family = c.parts-family.result.0 in
    let value = c.parts-family.result.1.now in
    let w = c.put-in-None.new.self in
    let none = family_is old family None c.in-None.ensures.value ∙ ap (λ m. in_family m.entries family) (sym c.get_mut.follows.holds-at-none) in
    after_in was c.insert.new.self c.args.key.now family value c.parts-family.ensures.family c.parts-family.ensures.value (Some w) (with_last c.args.number) c.in_ok-insert-in-None.ensures.updates.0
    (c.in_ok-put-in-None.ensures.put ∙ ap (changed_value value (with_last c.args.number)) (c.new-readers.ensures ∙ ap readers_of none))
    ∙ ap (λ m. changed_at c.args.key.now (with_last c.args.number) (readers_at m.entries)) c.get_mut.follows.holds-at-none
    ∙ ap (λ es. changed_at c.args.key.now (with_last c.args.number) (readers_at es)) c.self.view_is

-- on each way out the readers of each key ascend
pub invariant_of-self : goal.invariant_of-self
invariant_of-self c =
    let old = c.self.inside.families in
    let family = c.parts-family.result.0 in
    let value = c.parts-family.result.1.now in
    let w = c.put.new.self in
    let there = family_is old family (Some c.in-Some.readers.now) c.in-Some.ensures.value in
    let updates = (c.get_mut.follows.holds w).3 (subst IsSome c.in-Some.ensures.value refl) in
    subst AreAscending
    (sym (after_in old (c.get_mut.follows.lender w) c.args.key.now family value c.parts-family.ensures.family c.parts-family.ensures.value (Some w) (λ xs. xs) updates.0
    (c.in_err-put-in-Some.ensures.unchanged ∙ ap readers_of there ∙ sym (changed_same value (λ xs. xs) (readers_of (in_family old.entries family)) refl))
    ∙ left_same c.args.key.now (λ xs. xs) (readers_at old.entries) refl))
    c.self.invariant

pub invariant_of-self-in-Some : goal.invariant_of-self-in-Some
invariant_of-self-in-Some c =
    let old = c.self.inside.families in
    let family = c.parts-family.result.0 in
    let value = c.parts-family.result.1.now in
    let w = c.put.new.self in
    let there = family_is old family (Some c.in-Some.readers.now) c.in-Some.ensures.value in
    let updates = (c.get_mut.follows.holds w).3 (subst IsSome c.in-Some.ensures.value refl) in
    subst AreAscending
    (sym (after_in old (c.get_mut.follows.lender w) c.args.key.now family value c.parts-family.ensures.family c.parts-family.ensures.value (Some w) (with_last c.args.number) updates.0
    (c.in_ok-put-in-Some.ensures.put ∙ ap (λ readers. changed_value value (with_last c.args.number) (readers_of readers)) there)))
    (put_ascends c.args.number c.args.key.now (readers_at old.entries) c.self.invariant (subst (λ es. AreBelow (c.args.number + 1) (readers_at es)) (sym c.self.view_is) c.requires))

pub invariant_of-self-in-None : goal.invariant_of-self-in-None
invariant_of-self-in-None c =
    let old = c.self.inside.families in
    let was = c.get_mut.follows.lender-at-none in
    let family = c.parts-family.result.0 in
    let value = c.parts-family.result.1.now in
    let w = c.put-in-None.new.self in
    let none = family_is old family None c.in-None.ensures.value ∙ ap (λ m. in_family m.entries family) (sym c.get_mut.follows.holds-at-none) in
    subst AreAscending
    (sym (after_in was c.insert.new.self c.args.key.now family value c.parts-family.ensures.family c.parts-family.ensures.value (Some w) (with_last c.args.number) c.in_ok-insert-in-None.ensures.updates.0
    (c.in_ok-put-in-None.ensures.put ∙ ap (changed_value value (with_last c.args.number)) (c.new-readers.ensures ∙ ap readers_of none))
    ∙ ap (λ m. changed_at c.args.key.now (with_last c.args.number) (readers_at m.entries)) c.get_mut.follows.holds-at-none))
    (put_ascends c.args.number c.args.key.now (readers_at old.entries) c.self.invariant (subst (λ es. AreBelow (c.args.number + 1) (readers_at es)) (sym c.self.view_is) c.requires))
