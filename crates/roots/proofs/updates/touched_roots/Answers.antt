use Rattle.std.proofs.Common.{◌∙◌, ◌++◌, List, ap, subst, sym}
use Rattle.std.specs.Prelude.{All}
use Rattle.value.specs.declared.values.Root.{Root}
use Rattle.assertion.specs.Candidates.{candidates}
use Rattle.assertion.specs.Meaning.{State}
use Rattle.roots.specs.Bad.{KeepOthers}
use Rattle.roots.specs.Maintained.{IsSmallRoot}
use Rattle.roots.proofs.TurnedLemmas.{keep_turned}
use Rattle.roots.proofs.UpdateLemmas.{candidates_keep, candidates_small}
use Rattle.roots.proofs.updates.touched_roots.Goals as goal

pub returns-then-are_all_around-clause-small : goal.returns-then-are_all_around-clause-small
returns-then-are_all_around-clause-small c = λ k d h. rw c.in-ByRow.is tt

pub returns-then-are_all_around-clause-others : goal.returns-then-are_all_around-clause-others
returns-then-are_all_around-clause-others c = λ before in_order is now.
    keep_turned c.args.schemas.now c.args.change.now before c.args.tables.now c.args.form.now c.in-ByRow.table c.in-ByRow.condition c.in-ByRow.queries c.args.turned.items c.push_own_key.new.roots.items
    c.in-ByRow.is in_order is now (c.are_all_around.ensures c.if-are_all_around.true) c.requires.turned c.in_ok-push_own_key-in-ByRow.ensures

pub returns-clause-small : goal.returns-clause-small
returns-clause-small c =
    let e = c.in_ok-push_candidates.ensures ∙ ap (λ (rs : List Root). rs ++ candidates c.args.schemas.now c.args.tables.now c.args.change.now c.args.form.now) c.new-touched.ensures.items in
    subst (λ (rs : List Root). All (IsSmallRoot c.args.form.now) rs) (sym e) (candidates_small c.args.schemas.now c.args.tables.now c.args.change.now c.args.form.now c.requires.old_small c.requires.new_small)

pub returns-clause-others : goal.returns-clause-others
returns-clause-others c = λ before in_order is now.
    let layouts = c.args.schemas.now in
    let form = c.args.form.now in
    let change = c.args.change.now in
    let e = c.in_ok-push_candidates.ensures ∙ ap (λ (rs : List Root). rs ++ candidates layouts c.args.tables.now change form) c.new-touched.ensures.items in
    subst (λ (rs : List Root). KeepOthers layouts form before c.args.tables.now rs) (sym e)
    (subst (λ (t : State). KeepOthers layouts form before t (candidates layouts t change form)) (sym now) (candidates_keep layouts change before form is in_order))
