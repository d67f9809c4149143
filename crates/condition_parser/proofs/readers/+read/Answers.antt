use Rattle.std.proofs.Common.{sym, subst}
use Rattle.leaf_parser.specs.Reads.{Reads}
use Rattle.condition_parser.proofs.Inner.{read_level}
use Rattle.condition_parser.proofs.readers.+read.Goals as goal

pub returns : goal.returns
returns t c = subst (λ p. Reads (p c.args.cursor.now) c.parse_wanted.result c.parse_wanted.new.cursor) (sym (read_level c.args.depth c.args.wanted)) c.parse_wanted.ensures
