use Rattle.std.proofs.Common.{◌≡◌, ◌++◌, drop}
use Rattle.std.specs.Prelude.{flat_map}
use Rattle.syntax.specs.SchemaGrammar.{key_by}
use Rattle.parse.proofs.tables.push_keys.Given as goal

-- what was pushed and what is to come is the whole
abbrev pub invariant-loop-constraint : goal.invariant-loop-constraint
invariant-loop-constraint l =
    l.keys ++ flat_map (key_by l.column) (drop l.constraint-index l.constraints) ≡ l.initial.keys ++ flat_map (key_by l.column) l.constraints
