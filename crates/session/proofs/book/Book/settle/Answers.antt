use Rattle.std.proofs.Common.{arith}
use Rattle.std.proofs.lemmas.Option.{slice_get_within}
use Rattle.session.proofs.book.Book.settle.Goals as goal

pub returns-clause-within : goal.returns-clause-within
returns-clause-within g c =
    let own = c.requires.owned.token in
    let within = slice_get_within c.args.self.now.tokens c.args.one.snapshot own.token own.at in
    omega (arith, within, c.token_of-mine.ensures.count)
