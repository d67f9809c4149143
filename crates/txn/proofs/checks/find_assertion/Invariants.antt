use Rattle.std.proofs.Common.{◌≡◌, drop}
use Rattle.alone.specs.Modes.{assertion_of}
use Rattle.txn.proofs.checks.find_assertion.Given as goal

-- no assertion so far has the name
abbrev pub invariant-loop-place : goal.invariant-loop-place
invariant-loop-place l = assertion_of l.name (drop l.place l.assertions) ≡ assertion_of l.name l.assertions
