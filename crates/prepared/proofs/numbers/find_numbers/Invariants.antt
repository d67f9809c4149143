use Rattle.std.proofs.Common.{◌≡◌, ◌≤◌, ◌++◌, drop}
use Rattle.prepared.specs.Numbers.{numbers_from}
use Rattle.prepared.proofs.numbers.find_numbers.Given as goal

-- the numbers so far, and those from here on, are all
abbrev pub invariant-loop-token : goal.invariant-loop-token
invariant-loop-token l = record {
  all : l.numbers.items ++ numbers_from l.text l.count (drop l.token-index l.tokens) ≡ numbers_from l.text 0 l.tokens;
  few : l.count ≤ l.token-index;
}
