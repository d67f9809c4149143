-- A row that fits the columns of its table has only small numbers, for callers of `eval`.
use Rattle.std.proofs.Common.{◌≤◌, ◌^◌, [], ◌∷◌, List, arith}
use Rattle.std.proofs.lemmas.List.Elements.{All-nil, All-cons}
use Rattle.value.specs.declared.values.Value.{Value}
use Rattle.value.specs.declared.values.Value.TheVariants.{Null, Int, Text}
use Rattle.table.specs.declared.schemas.Column.{Column}
use Rattle.table.specs.Rows.{RowValues, FitsColumn, FitsColumns}
use Rattle.table.specs.Slots.{magnitude}
use Rattle.table.specs.Bounds.{IsSmallRow}

value_small : (c : Column) (v : Value) → FitsColumn c v → magnitude v ≤ 10 ^ 15
value_small c Null f = omega arith
value_small c (Int n) f = f.1
value_small c (Text t) f = omega arith

pub IsSmallRow-fits : (cs : List Column) (vs : RowValues) → FitsColumns cs vs → IsSmallRow vs
IsSmallRow-fits [] [] f = All-nil (λ (v : Value). magnitude v ≤ 10 ^ 15)
IsSmallRow-fits [] (v ∷ vs) f = absurd f
IsSmallRow-fits (c ∷ cs) [] f = absurd f
IsSmallRow-fits (c ∷ cs) (v ∷ vs) f = All-cons (λ (w : Value). magnitude w ≤ 10 ^ 15) v vs (value_small c v f.0) (IsSmallRow-fits cs vs f.1)
