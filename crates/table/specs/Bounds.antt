-- How large the numbers of an expression can be.
use Rattle.std.specs.Prelude.{ℕ, ◌+◌, ◌*◌, ◌^◌, ◌≤◌, nat_le, List, [], ◌∷◌, All, map, slice_index_or, Option, Some, None, if◌then◌else◌, Bool, true, ◌&&◌, is_some}
use Rattle.table.specs.Rows.{RowValues}
use Rattle.table.specs.declared.slots.SlotKind.{SlotKind}
use Rattle.table.specs.declared.exprs.Expr.{Expr}
use Rattle.table.specs.declared.exprs.Expr.TheOpen.{Expr-F}
use Rattle.table.specs.declared.exprs.Expr.TheFolds.{fold-Expr}
use Rattle.table.specs.declared.conds.Cond.{Cond}
use Rattle.table.specs.declared.conds.Cond.TheOpen.{Cond-F}
use Rattle.table.specs.declared.conds.Cond.TheFolds.{fold-Cond}
use Rattle.table.specs.Slots.{magnitude, limit}

-- each number of a row is within 10^15, as it is in every column
abbrev pub IsSmallRow : RowValues → Type 0
IsSmallRow row = All (λ v. magnitude v ≤ 10 ^ 15) row

-- the bound of what a column holds
abbrev pub column_limit : ℕ
column_limit = 2 ^ 50

-- The slots of a WHERE within a row, by their kinds. Each holds a value of the row around it: none is listed, since
-- what isn't listed is bounded as a column is.
abbrev pub slots_around : List SlotKind
slots_around = []

-- the bound of a slot; one that isn't listed holds what a column of the row around holds, or NULL
abbrev pub limit_at : List SlotKind → ℕ → ℕ
limit_at kinds slot = slice_index_or (map limit kinds) slot column_limit

-- the bounds of parts joined by an operation, from the left; none where one is missing or a step passes 2^126
abbrev pub joined_bound : (ℕ → ℕ → ℕ) → ℕ → List (Option ℕ) → Option ℕ
joined_bound f so_far [] = Some so_far
joined_bound f so_far (None ∷ rest) = None
joined_bound f so_far (Some b ∷ rest) = if nat_le (f so_far b) (2 ^ 126) then joined_bound f (f so_far b) rest else None

-- one expression, with the bound of each part in its place
abbrev pub bound_step : List SlotKind → Expr-F (Option ℕ) → Option ℕ
bound_step kinds (Expr-F.Literal v) = Some (magnitude v)
bound_step kinds (Expr-F.Column column) = Some column_limit
bound_step kinds (Expr-F.Slot slot) = Some (limit_at kinds slot)
bound_step kinds (Expr-F.Negation part) = part
bound_step kinds (Expr-F.Sum parts) = joined_bound (λ a b. a + b) 0 parts
bound_step kinds (Expr-F.Product parts) = joined_bound (λ a b. a * b) 1 parts

-- the bound of an expression, if no part and no partial result passes 2^126
abbrev pub bound_of : List SlotKind → Expr → Option ℕ
bound_of kinds = fold-Expr (Option ℕ) (bound_step kinds)

-- whether all of a list are true
abbrev pub all_true : List Bool → Bool
all_true [] = true
all_true (b ∷ bs) = b && all_true bs

-- one condition, with whether each part is bounded in its place
abbrev pub bounded_step : List SlotKind → Cond-F Bool → Bool
bounded_step kinds (Cond-F.Compare c a b) = is_some (bound_of kinds a) && is_some (bound_of kinds b)
bounded_step kinds (Cond-F.IsNull a) = is_some (bound_of kinds a)
bounded_step kinds (Cond-F.Exists slot) = true
bounded_step kinds (Cond-F.Is part truth) = part
bounded_step kinds (Cond-F.Not part) = part
bounded_step kinds (Cond-F.And parts) = all_true parts
bounded_step kinds (Cond-F.Or parts) = all_true parts

-- whether each expression of a condition has a bound
abbrev pub is_bounded : List SlotKind → Cond → Bool
is_bounded kinds = fold-Cond Bool (bounded_step kinds)
