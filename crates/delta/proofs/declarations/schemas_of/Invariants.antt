use Rattle.std.proofs.Common.{◌≡◌, take}
use Rattle.table.specs.Rows.{layouts_of}
use Rattle.delta.proofs.declarations.schemas_of.Given as goal

-- the schemas so far are those of the first tables
abbrev pub invariant-loop-table : goal.invariant-loop-table
invariant-loop-table l = l.schemas.items ≡ take l.table (layouts_of l.catalog)
