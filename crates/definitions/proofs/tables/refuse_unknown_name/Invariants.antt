use Rattle.std.proofs.Common.{◌≡◌, drop}
use Rattle.definitions.specs.Tables.{unknown_name}
use Rattle.definitions.proofs.tables.refuse_unknown_name.Given as goal

-- each name so far is a column's
abbrev pub invariant-loop-name : goal.invariant-loop-name
invariant-loop-name l = unknown_name l.columns (drop l.name-index l.names) ≡ unknown_name l.columns l.names
