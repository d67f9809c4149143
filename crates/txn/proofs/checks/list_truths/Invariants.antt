use Rattle.std.proofs.Common.{◌≡◌, ◌++◌, drop, map}
use Rattle.assertion.specs.declared.assertions.Assertion.{Assertion}
use Rattle.assertion.specs.Declarations.{layouts_in}
use Rattle.assertion.specs.Meaning.{verdict_of}
use Rattle.txn.specs.Transactions.{truths_on}
use Rattle.txn.proofs.checks.list_truths.Given as goal

-- the truths so far, and those of the assertions that are left
abbrev pub invariant-loop-place : goal.invariant-loop-place
invariant-loop-place l =
    l.found.items ++ map (λ (a : Assertion). verdict_of (layouts_in l.view.declared) a.form l.view.state) (drop l.place l.view.declared.assertions)
    ≡ truths_on l.view
