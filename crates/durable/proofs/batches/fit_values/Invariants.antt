use Rattle.std.proofs.Common.{drop}
use Rattle.std.specs.List.{AllByRecursion}
use Rattle.journal.specs.Fitting.{FitsValue}
use Rattle.durable.proofs.batches.fit_values.Given as goal

-- where those that are left fit, all do
abbrev pub invariant-loop-value : goal.invariant-loop-value
invariant-loop-value l = AllByRecursion FitsValue (drop l.value-index l.values) → AllByRecursion FitsValue l.values
