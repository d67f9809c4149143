use Rattle.std.proofs.Common.{refl}
use Rattle.session.proofs.Committing.{by_number}
use Rattle.session.proofs.manager.Manager.commit_kept.Goals as goal

pub returns-clause-commit : goal.returns-clause-commit
returns-clause-commit g c =
    by_number c.deref_mut.result.now.core c.args.session.now.name c.args.closed.inner c.args.closed.inner refl c.commit_kept-answered.result c.commit_kept-answered.ensures.commit c.commit_kept-answered.ensures.answer
