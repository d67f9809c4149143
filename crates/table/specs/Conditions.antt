-- BETWEEN and IN, as the conditions that they abbreviate (SQL-92, between predicate and in predicate).
use Rattle.std.specs.Prelude.{List, [], ◌∷◌, map}
use Rattle.value.specs.declared.comparisons.Comparison.TheVariants.{Equal, AtMost, AtLeast}
use Rattle.table.specs.declared.exprs.Expr.{Expr}
use Rattle.table.specs.declared.conds.Cond.{Cond}
use Rattle.table.specs.declared.conds.Cond.TheVariants.{Compare}
use Rattle.table.specs.declared.conds.Cond.TheViews.{And, Or}

-- x BETWEEN low AND high: x >= low AND x <= high
abbrev pub between_of : Expr → Expr → Expr → Cond
between_of x low high = And (Compare AtLeast x low ∷ Compare AtMost x high ∷ [])

-- x IN (a, b, ..): x = a OR x = b OR ..
abbrev pub in_of : Expr → List Expr → Cond
in_of x values = Or (map (λ value. Compare Equal x value) values)
