use Rattle.std.proofs.Common.{◌≡◌, drop}
use Rattle.value.specs.Results.{each, behind}
use Rattle.assertcheck.specs.Statements.{typed_row}
use Rattle.assertcheck.proofs.inserts.typed_rows.Given as goal

-- the rows so far with those that are left are all
abbrev pub invariant-loop-values : goal.invariant-loop-values
invariant-loop-values l =
    behind l.typed.items (each (typed_row l.schema.columns l.places) (drop l.values-index l.rows))
    ≡ each (typed_row l.schema.columns l.places) l.rows
