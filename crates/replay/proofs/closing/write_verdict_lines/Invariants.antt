use Rattle.std.proofs.Common.{drop, map}
use Rattle.assertion.specs.declared.assertions.Assertion.{Assertion}
use Rattle.assertion.specs.Declarations.{layouts_in}
use Rattle.assertion.specs.Meaning.{verdict_of}
use Rattle.report.specs.Closing.{verdict_lines}
use Rattle.report.proofs.Chains.{GoesOn}
use Rattle.txn.specs.Transactions.{truths_on}
use Rattle.replay.proofs.closing.write_verdict_lines.Given as goal

-- what is written so far, and the lines of the assertions that are left
abbrev pub invariant-loop-place : goal.invariant-loop-place
invariant-loop-place g l =
    GoesOn (g.W.Write.contents l.initial.out) (g.W.Write.contents l.out)
    (verdict_lines (drop l.place l.tables.declared.assertions)
    (map (λ (a : Assertion). verdict_of (layouts_in l.tables.declared) a.form l.tables.state) (drop l.place l.tables.declared.assertions)))
    (verdict_lines l.tables.declared.assertions (truths_on l.tables))
