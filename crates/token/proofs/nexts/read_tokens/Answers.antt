use Rattle.std.proofs.Common.{[], sym, ◌∙◌, append-nil, arith}
use Rattle.token.proofs.All.{tokens_of-only, IsTokens-apart}
use Rattle.token.proofs.Answers.{IsTokens-rules}
use Rattle.token.proofs.nexts.read_tokens.Goals as goal

pub returns-clause-one_by_one : goal.returns-clause-one_by_one
returns-clause-one_by_one c = rw append-nil at (c.loop-token.invariant [] (sym c.token_from.ensures.value ∙ c.in_default.is))

pub returns-clause-all : goal.returns-clause-all
returns-clause-all c = tokens_of-only c.args.text.now c.loop-token.found.items (returns-clause-one_by_one c)

pub returns-clause-apart : goal.returns-clause-apart
returns-clause-apart c = IsTokens-apart c.args.text.now 0 c.loop-token.found.items (omega arith) (returns-clause-one_by_one c)

pub returns-clause-rules : goal.returns-clause-rules
returns-clause-rules c = IsTokens-rules c.args.text.now 0 c.loop-token.found.items (returns-clause-one_by_one c)
