use Rattle.std.proofs.Common.{◌-◌, List, ◌++◌, length}
use Rattle.token.specs.declared.spans.Token.{Token}
use Rattle.token.specs.Lexer.{IsTokens}
use Rattle.token.proofs.nexts.read_tokens.Given as goal

abbrev pub invariant-loop-token : goal.invariant-loop-token
invariant-loop-token l = (ts : List Token) → IsTokens l.text l.from ts → IsTokens l.text 0 (l.found.items ++ ts)

abbrev pub decreases-loop-token : goal.decreases-loop-token
decreases-loop-token l = length l.text - l.from
