use Rattle.std.proofs.Common.{refl}
use Rattle.assertion.specs.Roots.{is_bad_root}
use Rattle.roots.proofs.UpdateLemmas.{AreUpdated-again, AreUpdated-more}
use Rattle.roots.proofs.updates.roots_after_update.Goals as goal

pub loop-index-preserved-then-is_repeated : goal.loop-index-preserved-then-is_repeated
loop-index-preserved-then-is_repeated c = λ asc.
    AreUpdated-again c.args.schemas.now c.args.form.now c.args.tables.now c.args.bad.now c.args.touched.now c.loop-index.index c.loop-index.made c.loop-index-test.true
    (c.is_repeated.ensures c.if-is_repeated.true) (c.loop-index.invariant asc)

pub loop-index-preserved : goal.loop-index-preserved
loop-index-preserved c = λ asc.
    let q = c.index-touched-index.result in
    AreUpdated-more c.args.schemas.now c.args.form.now c.args.tables.now c.args.bad.now c.args.touched.now c.loop-index.index q (is_bad_root c.args.schemas.now c.args.form.now c.args.tables.now q) c.loop-index.made c.in_ok-made-2.made
    c.loop-index-test.true c.index-touched-index.is refl c.in_ok-made-2.ensures (c.loop-index.invariant asc)
