use Rattle.std.proofs.Common.{◌≡◌, ◌+◌, ◌-◌, ◌∙◌, arith, ap, drop, map}
use Rattle.std.specs.Prelude.{unwrap_or}
use Rattle.value.specs.Ordered.{least}
use Rattle.value.specs.declared.values.Value.TheVariants.{Null}
use Rattle.table.specs.Aggregates.{values_in}
use Rattle.changes.specs.Extremes.{toward}
use Rattle.changes.proofs.LeastValues.{row_more}
use Rattle.changes.proofs.extremes.extreme.Goals as goal

pub loop-from-preserved : goal.loop-from-preserved
loop-from-preserved c =
    let from = c.loop-from.from in
    let rows = c.args.rows.now in
    let some = c.loop-from-test.true in
    let within = c.loop-from.invariant.within in
    let next : from ≡ from - 1 + 1 = omega (arith, some) in
    let behind = c.loop-from.invariant.extreme ∙ ap (λ k. unwrap_or (least (toward c.args.is_greatest) (values_in c.args.column (map (λ row. row.now) (drop k rows)))) Null) next in
    record {
      extreme = row_more (toward c.args.is_greatest) (λ row. row.now) c.args.column rows (from - 1) c.index-rows-from.result c.in_ok-value.value c.loop-from.extreme c.further-extreme.result
          (omega (arith, some, within)) c.index-rows-from.is c.in_ok-value.ensures behind c.further-extreme.ensures;
      within = omega (arith, within);
    }
