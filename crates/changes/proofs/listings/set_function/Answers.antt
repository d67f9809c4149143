use Rattle.std.proofs.Common.{◌≤◌, ◌^◌, ◌∙◌, arith, map, subst, sym}
use Rattle.table.specs.Slots.{magnitude}
use Rattle.changes.specs.Extremes.{toward}
use Rattle.std.specs.Prelude.{false, true}
use Rattle.changes.proofs.LeastValues.{least_small}
use Rattle.changes.proofs.listings.set_function.Goals as goal

pub returns-in_ok-extreme-in-Min-clause-within : goal.returns-in_ok-extreme-in-Min-clause-within
returns-in_ok-extreme-in-Min-clause-within c =
    let small = subst (λ value. magnitude value ≤ 1000000000000000) (sym c.in_ok-extreme-in-Min.ensures) (least_small (toward false) c.in-Min.column (map (λ row. row.now) c.args.rows.now) c.requires.small) in
    omega (arith, small)

pub returns-in_ok-extreme-in-Max-clause-within : goal.returns-in_ok-extreme-in-Max-clause-within
returns-in_ok-extreme-in-Max-clause-within c =
    let small = subst (λ value. magnitude value ≤ 1000000000000000) (sym c.in_ok-extreme-in-Max.ensures) (least_small (toward true) c.in-Max.column (map (λ row. row.now) c.args.rows.now) c.requires.small) in
    omega (arith, small)
