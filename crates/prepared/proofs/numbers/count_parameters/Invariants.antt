use Rattle.std.proofs.Common.{◌≡◌, ◌+◌, ◌≤◌, drop}
use Rattle.prepared.specs.Numbers.{parameter_count}
use Rattle.prepared.proofs.numbers.count_parameters.Given as goal

abbrev pub invariant-loop-number : goal.invariant-loop-number
invariant-loop-number l = record {
  all : l.count + parameter_count (drop l.number-index l.numbers) ≡ parameter_count l.numbers;
  few : l.count ≤ l.number-index;
}
