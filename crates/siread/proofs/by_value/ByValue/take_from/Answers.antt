use Rattle.std.proofs.Common.{Some, None, refl, sym, ap, ◌∙◌, subst}
use Rattle.std.specs.Prelude.{IsSome}
use Rattle.siread.specs.Families.{changed_value, readers_of}
use Rattle.siread.specs.Readers.{left_out}
use Rattle.siread.proofs.Lookups.{readers_are, after, changed_same, changed_there, none_is_empty}
use Rattle.siread.proofs.by_value.ByValue.take_from.Goals as goal

pub returns-in_default-clause-taken : goal.returns-in_default-clause-taken
returns-in_default-clause-taken c =
    let old = c.self.inside.readers in
    let none = readers_are old c.args.value.now None c.in_default.ensures.value in
    ap (λ m. readers_of m.entries) c.get_mut.follows.holds-at-none
    ∙ sym (changed_same c.args.value.now (left_out c.args.number) (readers_of old.entries) (ap (left_out c.args.number) (sym none) ∙ none))
    ∙ ap (λ es. changed_value c.args.value.now (left_out c.args.number) (readers_of es)) c.self.view_is

pub returns-clause-taken : goal.returns-clause-taken
returns-clause-taken c =
    let old = c.self.inside.readers in
    let w = c.leave_out.new.self in
    let there = readers_are old c.args.value.now (Some c.in-Some.readers.now) c.in-Some.ensures.value in
    let updates = (c.get_mut.follows.holds w).3 (subst IsSome c.in-Some.ensures.value refl) in
    after old (c.get_mut.follows.lender w) c.args.value.now (Some w) (left_out c.args.number) updates.0 (c.leave_out.ensures ∙ ap (left_out c.args.number) there)
    ∙ ap (λ es. changed_value c.args.value.now (left_out c.args.number) (readers_of es)) c.self.view_is

pub returns-clause-left : goal.returns-clause-left
returns-clause-left c = λ e.
    let old = c.self.inside.readers in
    let w = c.leave_out.new.self in
    let key = c.args.value.now in
    let f = left_out c.args.number in
    let there = readers_are old key (Some c.in-Some.readers.now) c.in-Some.ensures.value in
    let updates = (c.get_mut.follows.holds w).3 (subst IsSome c.in-Some.ensures.value refl) in
    let left = c.leave_out.ensures ∙ ap f there in
    ap (λ reads. reads key) (after old (c.get_mut.follows.lender w) key (Some w) f updates.0 left)
    ∙ changed_there key f (readers_of old.entries)
    ∙ sym left
    ∙ none_is_empty w (sym c.is_empty.ensures ∙ e)
