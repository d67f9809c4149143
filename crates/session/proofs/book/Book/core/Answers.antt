use Rattle.std.proofs.Common.{◌≤◌, length, subst}
use Rattle.session.proofs.book.Book.core.Goals as goal

pub returns-clause-within : goal.returns-clause-within
returns-clause-within g c =
    rw (← c.self.view_is) (subst (λ n. length c.self.inside.core.records ≤ n) c.self.invariant.commits c.recall_limit.ensures)
