use Rattle.std.proofs.Common.{sym, subst}
use Rattle.std.specs.Prelude.{All}
use Rattle.assertion.specs.Declarations.{layouts_in}
use Rattle.delta.specs.Views.{IsFitting}
use Rattle.txn.specs.Transactions.{OpenTransaction}
use Rattle.txn.proofs.Fits.{net_fits}
use Rattle.txn.proofs.closed.ClosedTransaction.changes.Goals as goal

pub returns-clause-fit : goal.returns-clause-fit
returns-clause-fit c =
    rw (c.as_slice.ensures.value)
    (subst (λ (t : OpenTransaction). All (IsFitting (layouts_in t.declared)) c.self.inside.changes.items) c.self.view_is
    (subst (All (IsFitting (layouts_in c.self.inside.txn.declared))) (sym c.self.invariant.changes_are)
    (net_fits (layouts_in c.self.inside.txn.declared) c.self.inside.txn.start _
    (λ table. ((rw (c.own.ensures) at c.catalog.ensures.tables).each table).fitting))))
