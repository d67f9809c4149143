use Rattle.std.proofs.Common.{◌∙◌, arith, ap, drop, length, map, sym, take}
use Rattle.alone.specs.Groups.{runs}
use Rattle.changes.specs.Keyed.{compare_keyed, row_of, run_length}
use Rattle.changes.proofs.Runs.{run_from, run_within, runs_more}
use Rattle.changes.proofs.groupings.runs.Goals as goal

pub split_at-requires-in-loop-from : goal.split_at-requires-in-loop-from
split_at-requires-in-loop-from c =
    let within = run_within compare_keyed c.split_at.result.1.now in
    let is = c.run_length.ensures in
    omega (arith, within, is)

pub loop-from-smaller : goal.loop-from-smaller
loop-from-smaller c =
    let some = (run_from compare_keyed c.args.keyed.now c.loop-from.from c.loop-from-test.true).0 in
    let is = c.run_length.ensures ∙ ap (run_length compare_keyed) c.split_at.ensures.back in
    let long = c.split_at-in-loop-from.ensures.front_len in
    let more = c.loop-from-test.true in
    omega (arith, some, is, long, more)

pub loop-from-preserved : goal.loop-from-preserved
loop-from-preserved c =
    let keyed = c.args.keyed.now in
    let i = c.loop-from.from in
    let is = c.run_length.ensures ∙ ap (run_length compare_keyed) c.split_at.ensures.back in
    let long = c.split_at-in-loop-from.ensures.front_len ∙ is in
    let end = (run_from compare_keyed keyed i c.loop-from-test.true).1 in
    record {
      groups = runs_more compare_keyed row_of (λ group. map (λ row. row.now) group.items) keyed i (length c.split_at-in-loop-from.result.0.now) c.loop-from.groups.items c.push.new.self.items c.in_ok-rows_of.field-0
          (map (map row_of) (runs compare_keyed keyed)) c.loop-from-test.true long c.in_ok-push.ensures.items
          (c.in_ok-rows_of.ensures ∙ ap (map row_of) (c.split_at-in-loop-from.ensures.front ∙ ap (λ left. take c.run_length.result left) c.split_at.ensures.back ∙ ap (λ n. take n (drop i keyed)) (sym c.split_at-in-loop-from.ensures.front_len)))
          c.loop-from.invariant.groups;
      within = omega (arith, long, end);
    }
