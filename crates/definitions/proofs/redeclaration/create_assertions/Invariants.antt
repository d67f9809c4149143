use Rattle.std.proofs.Common.{◌≡◌, drop}
use Rattle.definitions.specs.Redeclaration.{with_new}
use Rattle.definitions.proofs.redeclaration.create_assertions.Given as goal

-- what is made so far leads through the other new assertions to all
abbrev pub invariant-loop-new : goal.invariant-loop-new
invariant-loop-new l = with_new (drop l.new-index l.created) l.made ≡ with_new l.created l.fn.left
