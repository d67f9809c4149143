use Rattle.std.proofs.Common.{◌≡◌, ◌++◌, drop}
use Rattle.definitions.specs.Tables.{defined_columns, defined_from}
use Rattle.definitions.proofs.tables.schema_columns.Given as goal

-- the columns made so far, and those that are made of the others
abbrev pub invariant-loop-place : goal.invariant-loop-place
invariant-loop-place l =
    l.made.items ++ defined_from l.place (drop l.place l.columns) l.key ≡ defined_columns l.columns l.key
