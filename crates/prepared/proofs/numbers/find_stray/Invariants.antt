use Rattle.std.proofs.Common.{◌≡◌, false, drop}
use Rattle.prepared.specs.Numbers.{stray_from}
use Rattle.prepared.proofs.numbers.find_stray.Given as goal

-- none so far
abbrev pub invariant-loop-token : goal.invariant-loop-token
invariant-loop-token l = stray_from l.text l.behind_operand l.behind_sign (drop l.token-index l.tokens) ≡ stray_from l.text false false l.tokens
