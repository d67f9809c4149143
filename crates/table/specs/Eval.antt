-- What an expression and a condition give on a row, with a value for each slot (ISO/IEC 9075:1992, 6.12 and 8.12).
use Rattle.std.specs.Prelude.{pos, ◌+ℤ◌, ◌*ℤ◌, Bool, List, slice_index_or}
use Rattle.value.specs.declared.values.Value.{Value}
use Rattle.value.specs.declared.values.Value.TheVariants.{Null, Int}
use Rattle.value.specs.declared.comparisons.Comparison.TheVariants.{Greater}
use Rattle.value.specs.declared.truths.Truth.{Truth}
use Rattle.value.specs.declared.truths.Truth.TheVariants.{True}
use Rattle.value.specs.Truths.{not_of, is_of, truth_of_bool}
use Rattle.table.specs.Rows.{RowValues, value_in}
use Rattle.table.specs.Values.{negative_of, total, comparison_truth, is_null, all_of, any_of}
use Rattle.table.specs.declared.exprs.Expr.{Expr}
use Rattle.table.specs.declared.exprs.Expr.TheOpen.{Expr-F}
use Rattle.table.specs.declared.exprs.Expr.TheFolds.{fold-Expr}
use Rattle.table.specs.declared.conds.Cond.{Cond}
use Rattle.table.specs.declared.conds.Cond.TheOpen.{Cond-F}
use Rattle.table.specs.declared.conds.Cond.TheFolds.{fold-Cond}

-- one expression, with the value of each part in its place
abbrev pub expr_step : RowValues → List Value → Expr-F Value → Value
expr_step row slots (Expr-F.Literal v) = v
expr_step row slots (Expr-F.Column column) = value_in column row
expr_step row slots (Expr-F.Slot slot) = slice_index_or slots slot Null
expr_step row slots (Expr-F.Negation part) = negative_of part
expr_step row slots (Expr-F.Sum parts) = total (λ m n. m +ℤ n) (Int (pos 0)) parts
expr_step row slots (Expr-F.Product parts) = total (λ m n. m *ℤ n) (Int (pos 1)) parts

-- what an expression gives
abbrev pub answer : RowValues → List Value → Expr → Value
answer row slots = fold-Expr Value (expr_step row slots)

-- EXISTS by the count of the subquery's rows, which is never unknown
abbrev pub exists_some : Value → Truth
exists_some count = truth_of_bool (is_of (comparison_truth Greater count (Int (pos 0))) True)

-- one condition, with the truth of each part in its place
abbrev pub cond_step : RowValues → List Value → Cond-F Truth → Truth
cond_step row slots (Cond-F.Compare comparison a b) =
    comparison_truth comparison (answer row slots a) (answer row slots b)
cond_step row slots (Cond-F.IsNull a) = is_null (answer row slots a)
cond_step row slots (Cond-F.Exists slot) = exists_some (slice_index_or slots slot Null)
cond_step row slots (Cond-F.Is part wanted) = truth_of_bool (is_of part wanted)
cond_step row slots (Cond-F.Not part) = not_of part
cond_step row slots (Cond-F.And parts) = all_of parts
cond_step row slots (Cond-F.Or parts) = any_of parts

-- the truth of a condition on a row
abbrev pub truth : RowValues → List Value → Cond → Truth
truth row slots = fold-Cond Truth (cond_step row slots)

-- WHERE and HAVING keep a row only where the condition is true
abbrev pub keeps : RowValues → List Value → Cond → Bool
keeps row slots cond = is_of (truth row slots cond) True
