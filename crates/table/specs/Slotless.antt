-- Which expressions and conditions have a slot.
use Rattle.std.specs.Prelude.{Bool, true, false, ◌||◌, List, [], ◌∷◌}
use Rattle.table.specs.declared.exprs.Expr.{Expr}
use Rattle.table.specs.declared.exprs.Expr.TheOpen.{Expr-F}
use Rattle.table.specs.declared.exprs.Expr.TheFolds.{fold-Expr}
use Rattle.table.specs.declared.conds.Cond.{Cond}
use Rattle.table.specs.declared.conds.Cond.TheOpen.{Cond-F}
use Rattle.table.specs.declared.conds.Cond.TheFolds.{fold-Cond}

-- whether one of a list is true
abbrev pub some_true : List Bool → Bool
some_true [] = false
some_true (b ∷ bs) = b || some_true bs

-- one expression, with whether each part has a slot in its place
abbrev pub slots_step : Expr-F Bool → Bool
slots_step (Expr-F.Literal v) = false
slots_step (Expr-F.Column column) = false
slots_step (Expr-F.Slot slot) = true
slots_step (Expr-F.Negation part) = part
slots_step (Expr-F.Sum parts) = some_true parts
slots_step (Expr-F.Product parts) = some_true parts

-- whether an expression has a slot
abbrev pub expression_has_slots : Expr → Bool
expression_has_slots = fold-Expr Bool slots_step

-- one condition, likewise
abbrev pub condition_slots_step : Cond-F Bool → Bool
condition_slots_step (Cond-F.Compare comparison a b) = expression_has_slots a || expression_has_slots b
condition_slots_step (Cond-F.IsNull a) = expression_has_slots a
condition_slots_step (Cond-F.Exists slot) = true
condition_slots_step (Cond-F.Is part wanted) = part
condition_slots_step (Cond-F.Not part) = part
condition_slots_step (Cond-F.And parts) = some_true parts
condition_slots_step (Cond-F.Or parts) = some_true parts

-- whether a condition has a slot
abbrev pub has_slots : Cond → Bool
has_slots = fold-Cond Bool condition_slots_step
