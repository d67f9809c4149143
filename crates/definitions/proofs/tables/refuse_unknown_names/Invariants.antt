use Rattle.std.proofs.Common.{◌≡◌, drop}
use Rattle.std.specs.List.{flat_map}
use Rattle.definitions.specs.Tables.{unknown_name}
use Rattle.definitions.proofs.tables.refuse_unknown_names.Given as goal

-- each key so far has columns' names
abbrev pub invariant-loop-names : goal.invariant-loop-names
invariant-loop-names l = unknown_name l.columns (flat_map (λ names. names) (drop l.names-index l.keys)) ≡ unknown_name l.columns (flat_map (λ names. names) l.keys)
