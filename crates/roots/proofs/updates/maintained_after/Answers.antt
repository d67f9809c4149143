use Rattle.std.proofs.Common.{◌∙◌, ◌++◌, List, ap, subst, sym}
use Rattle.std.specs.Prelude.{All}
use Rattle.value.specs.declared.values.Root.{Root}
use Rattle.roots.specs.Bad.{AreUpdated}
use Rattle.roots.specs.Maintained.{IsSmallRoot}
use Rattle.roots.specs.Summaries.{summaries_of}
use Rattle.roots.specs.Turned.{turned_roots}
use Rattle.roots.proofs.UpdateLemmas.{AreBad-after}
use Rattle.roots.proofs.updates.maintained_after.Goals as goal

pub touched_roots-requires-clause-turned : goal.touched_roots-requires-clause-turned
touched_roots-requires-clause-turned c =
    c.in_ok-made.ensures.turned ∙ ap (λ (rs : List Root). rs ++ turned_roots c.args.after.now c.args.change.now (summaries_of c.args.schemas.now c.args.form.now)) c.new-turned.ensures.items

pub roots_after_update-requires-clause-totals : goal.roots_after_update-requires-clause-totals
roots_after_update-requires-clause-totals c = rw c.deref.ensures.value c.in_ok-made.ensures.totals

pub roots_after_update-requires-clause-roots_small : goal.roots_after_update-requires-clause-roots_small
roots_after_update-requires-clause-roots_small c =
    subst (λ (rs : List Root). All (IsSmallRoot c.args.form.now) rs) (sym c.deref-2.ensures.value) c.in_ok-touched.ensures.small

pub returns-clause-bad : goal.returns-clause-bad
returns-clause-bad c =
    let step = c.requires.step in
    AreBad-after c.args.schemas.now c.args.before.now c.args.after.now c.args.form.now c.args.bad.now c.in_ok-bad.bad c.in_ok-touched.touched.items c.requires.bad
    (c.in_ok-touched.ensures.others c.args.before.now step.in_order step.is step.changed)
    (subst (λ (rs : List Root). AreUpdated c.args.schemas.now c.args.form.now c.args.after.now rs c.args.bad.now c.in_ok-bad.bad) c.deref-2.ensures.value (c.in_ok-bad.ensures c.requires.bad.in_order))
