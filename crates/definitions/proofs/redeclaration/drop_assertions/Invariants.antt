use Rattle.std.proofs.Common.{◌≡◌, drop}
use Rattle.definitions.specs.Redeclaration.{without_names}
use Rattle.definitions.proofs.redeclaration.drop_assertions.Given as goal

-- what is left so far leads through the other names to what is left of all
abbrev pub invariant-loop-name : goal.invariant-loop-name
invariant-loop-name l = without_names (drop l.name-index l.names) l.left ≡ without_names l.names l.view
