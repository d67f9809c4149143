use Rattle.std.proofs.Common.{subst}
use Rattle.session.specs.Books.{IsOver}
use Rattle.session.proofs.Tokens.{begun_over}
use Rattle.session.proofs.book.Book.recall_loaded.Goals as goal

pub returns : goal.returns
returns g c =
    subst (λ n. IsOver c.args.self.now.core c.args.loaded.now.value.view (g.N.Named.limits n).commits) c.requires.from.book_id
    (begun_over _ _ c.args.self.now c.token_of-mine.result c.args.loaded.now c.count-count.ensures.book c.count-count.ensures.log
    c.count-count.ensures.within c.token_of-mine.ensures.is c.recall_agreement.ensures)
