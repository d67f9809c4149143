use Rattle.std.proofs.Common.{ap}
use Rattle.session.specs.Books.{TicketedTransaction}
use Rattle.session.proofs.Committing.{by_number}
use Rattle.session.proofs.manager.Manager.commit.Goals as goal

pub returns-in-Ok-clause-commit : goal.returns-in-Ok-clause-commit
returns-in-Ok-clause-commit g c =
    by_number c.deref_mut.result.now.core c.args.session.now.name c.in-Ok.closed.inner c.args.txn.inner (ap (λ (x : TicketedTransaction). x.inner) c.in-Ok.ensures.closed) c.commit-answered.result c.commit-answered.ensures.commit c.commit-answered.ensures.answer
