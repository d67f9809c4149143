use Rattle.std.proofs.Common.{◌+◌, ◌∙◌, ap, arith, sym}
use Rattle.changes.specs.Keyed.{compare_keyed}
use Rattle.changes.proofs.Runs.{last_run}
use Rattle.changes.proofs.groupings.run_length.Goals as goal

pub returns : goal.returns
returns c =
    let i = c.loop-last.last in
    let within = c.loop-last.invariant.within in
    let last = c.loop-last-test.false in
    ap (λ n. i + n) (sym (last_run compare_keyed c.args.keyed.now i within (omega (arith, last)))) ∙ sym c.loop-last.invariant.run
