use Rattle.std.proofs.Common.{drop}
use Rattle.std.specs.List.{AllByRecursion}
use Rattle.journal.specs.Fitting.{FitsChange}
use Rattle.durable.proofs.batches.fit.Given as goal

-- where those that are left fit, all do
abbrev pub invariant-loop-change : goal.invariant-loop-change
invariant-loop-change l = AllByRecursion FitsChange (drop l.change-index l.changes) → AllByRecursion FitsChange l.changes
