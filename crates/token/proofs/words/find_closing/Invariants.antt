use Rattle.std.proofs.Common.{◌≡◌, false, drop}
use Rattle.token.specs.Lexer as spec
use Rattle.token.proofs.words.find_closing.Given as goal

abbrev pub invariant-loop-at : goal.invariant-loop-at
invariant-loop-at l = spec.more l.at (spec.closing l.closed (drop l.at l.text)) ≡ spec.closing false l.text
