use Rattle.std.proofs.Common.{sym, ◌∙◌}
use Rattle.session.proofs.book.receipt_at.Goals as goal

pub new-requires : goal.new-requires
new-requires g c = c.requires.each c.args.number c.in-Some.token (sym c.find_token.ensures ∙ c.in-Some.is)
