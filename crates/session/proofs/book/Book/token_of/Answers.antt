use Rattle.std.proofs.Common.{rules, ◌≡◌, Some}
use Rattle.std.specs.List.{slice_get}
use Rattle.session.proofs.book.Book.token_of.Goals as goal

pub returns-clause-is : goal.returns-clause-is
returns-clause-is g c =
    let at : slice_get c.self.inside.tokens.items c.args.number ≡ Some c.token_at.result = search rules in
    rw (← c.self.view_is) (c.self.invariant.tokens.each _ _ at)
