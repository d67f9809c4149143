use Rattle.std.proofs.Common.{Some, None, refl, sym, ap, ◌∙◌, subst}
use Rattle.std.specs.Prelude.{IsSome}
use Rattle.siread.specs.Families.{changed_value, readers_of}
use Rattle.siread.specs.Readers.{with_last}
use Rattle.siread.proofs.Lookups.{readers_are, after, changed_same, on_err}
use Rattle.siread.proofs.by_value.ByValue.put.Goals as goal

pub returns-in_err-put_last-in-Some-clause-unchanged : goal.returns-in_err-put_last-in-Some-clause-unchanged
returns-in_err-put_last-in-Some-clause-unchanged c =
    let old = c.self.inside.readers in
    let w = c.put_last.new.self in
    let there = readers_are old c.args.value.now (Some c.in-Some.readers.now) c.in-Some.ensures.value in
    let updates = (c.get_mut.follows.holds w).3 (subst IsSome c.in-Some.ensures.value refl) in
    on_err _ _ (after old (c.get_mut.follows.lender w) c.args.value.now (Some w) (λ xs. xs) updates.0 (c.in_err-put_last-in-Some.ensures.unchanged ∙ there)
    ∙ changed_same c.args.value.now (λ xs. xs) (readers_of old.entries) (λ i. readers_of old.entries c.args.value.now)
    ∙ ap readers_of c.self.view_is)

pub returns-in_ok-put_last-in-Some-clause-put : goal.returns-in_ok-put_last-in-Some-clause-put
returns-in_ok-put_last-in-Some-clause-put c =
    let old = c.self.inside.readers in
    let w = c.put_last.new.self in
    let there = readers_are old c.args.value.now (Some c.in-Some.readers.now) c.in-Some.ensures.value in
    let updates = (c.get_mut.follows.holds w).3 (subst IsSome c.in-Some.ensures.value refl) in
    after old (c.get_mut.follows.lender w) c.args.value.now (Some w) (with_last c.args.number) updates.0 (c.in_ok-put_last-in-Some.ensures.put ∙ ap (with_last c.args.number) there)
    ∙ ap (λ es. changed_value c.args.value.now (with_last c.args.number) (readers_of es)) c.self.view_is

pub returns-in_ok-insert-in-None-clause-put : goal.returns-in_ok-insert-in-None-clause-put
returns-in_ok-insert-in-None-clause-put c =
    let old = c.self.inside.readers in
    let was = c.get_mut.follows.lender-at-none in
    let copied = c.in_ok-copy-in-None.field-0 in
    let readers = c.in_ok-readers-in-None.readers in
    let none = readers_are old c.args.value.now None c.in-None.ensures.value in
    let there = none ∙ ap (λ m. readers_of m.entries c.args.value.now) (sym c.get_mut.follows.holds-at-none) ∙ ap (readers_of was.entries) (sym c.in_ok-copy-in-None.ensures) in
    after was c.insert.new.self copied (Some readers) (with_last c.args.number) c.in_ok-insert-in-None.ensures.updates.0 (c.in_ok-readers-in-None.ensures ∙ ap (with_last c.args.number) there)
    ∙ ap (λ k. changed_value k (with_last c.args.number) (readers_of was.entries)) c.in_ok-copy-in-None.ensures
    ∙ ap (λ m. changed_value c.args.value.now (with_last c.args.number) (readers_of m.entries)) c.get_mut.follows.holds-at-none
    ∙ ap (λ es. changed_value c.args.value.now (with_last c.args.number) (readers_of es)) c.self.view_is
