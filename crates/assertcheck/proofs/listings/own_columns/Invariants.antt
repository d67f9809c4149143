use Rattle.std.proofs.Common.{◌≡◌, ◌++◌, drop, length, map}
use Rattle.table.specs.declared.exprs.Expr.TheVariants as expr_of
use Rattle.assertcheck.specs.Statements.{places_from}
use Rattle.assertcheck.proofs.listings.own_columns.Given as goal

-- the columns so far with those from here on are all
abbrev pub invariant-loop-column : goal.invariant-loop-column
invariant-loop-column l =
    l.made.items ++ map expr_of.Column (places_from (length l.made.items) (drop l._column-index l.columns))
    ≡ map expr_of.Column (places_from 0 l.columns)
