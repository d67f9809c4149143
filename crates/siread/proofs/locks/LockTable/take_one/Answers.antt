use Rattle.std.proofs.Common.{Some, None, refl, sym, ap, ◌∙◌, subst}
use Rattle.std.specs.Prelude.{IsSome}
use Rattle.siread.specs.Families.{changed_value, readers_of}
use Rattle.siread.specs.Locks.{readers_at, changed_at, AreAscending}
use Rattle.siread.specs.Readers.{left_out}
use Rattle.siread.proofs.Ascending.{taken_ascends}
use Rattle.siread.proofs.Lookups.{family_is, after_in, left_same, none_there}
use Rattle.siread.proofs.locks.LockTable.take_one.Goals as goal

pub returns-in-Some : goal.returns-in-Some
returns-in-Some c =
    let old = c.self.inside.families in
    let family = c.parts-family.result.0 in
    let value = c.parts-family.result.1.now in
    let w = c.take.new.self in
    let there = family_is old family (Some c.in-Some.readers.now) c.in-Some.ensures.value in
    let updates = (c.get_mut.follows.holds w).3 (subst IsSome c.in-Some.ensures.value refl) in
    after_in old (c.get_mut.follows.lender w) c.args.key.now family value c.parts-family.ensures.family c.parts-family.ensures.value (Some w) (left_out c.args.number) updates.0
    (c.take.ensures ∙ ap (λ readers. changed_value value (left_out c.args.number) (readers_of readers)) there)
    ∙ ap (λ es. changed_at c.args.key.now (left_out c.args.number) (readers_at es)) c.self.view_is

pub returns : goal.returns
returns c =
    let old = c.self.inside.families in
    let family = c.parts-family.result.0 in
    let none = none_there old c.args.key.now family c.parts-family.ensures.family (family_is old family None c.in_default.ensures.value) in
    ap (λ m. readers_at m.entries) c.get_mut.follows.holds-at-none
    ∙ sym (left_same c.args.key.now (left_out c.args.number) (readers_at old.entries) (ap (left_out c.args.number) (sym none) ∙ none))
    ∙ ap (λ es. changed_at c.args.key.now (left_out c.args.number) (readers_at es)) c.self.view_is

pub invariant_of-self : goal.invariant_of-self
invariant_of-self c =
    let old = c.self.inside.families in
    let family = c.parts-family.result.0 in
    let value = c.parts-family.result.1.now in
    let w = c.take.new.self in
    let there = family_is old family (Some c.in-Some.readers.now) c.in-Some.ensures.value in
    let updates = (c.get_mut.follows.holds w).3 (subst IsSome c.in-Some.ensures.value refl) in
    subst AreAscending
    (sym (after_in old (c.get_mut.follows.lender w) c.args.key.now family value c.parts-family.ensures.family c.parts-family.ensures.value (Some w) (left_out c.args.number) updates.0
    (c.take.ensures ∙ ap (λ readers. changed_value value (left_out c.args.number) (readers_of readers)) there)))
    (taken_ascends c.args.number c.args.key.now (readers_at old.entries) c.self.invariant)
