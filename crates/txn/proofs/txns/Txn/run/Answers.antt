use Rattle.std.proofs.Common.{sym, ◌≡◌, true, subst, Ok, Err}
use Rattle.std.specs.Prelude.{IfOk, IfErr, ◌≢◌}
use Rattle.value.specs.declared.refusals.Refusal.TheVariants.{NoMemory}
use Rattle.alone.specs.Resolve.{is_read_only}
use Rattle.txn.specs.Transactions.{OpenTransaction, step_of}
use Rattle.txn.specs.contracts.txns.Txn as txn
use Rattle.txn.proofs.Holding.{held_after, never, reply_err, reply_from, reply_ok}
use Rattle.txn.proofs.txns.Txn.run.Goals as goal

pub invariant_of-self-2 : goal.invariant_of-self-2
invariant_of-self-2 c =
    rw (c.settle.ensures, c.settle_modes.ensures, c.push_reserved.ensures.items, c.note.ensures.trace)
    (held_after (txn.the_view c.self.inside)
    c.self.inside.own c.self.inside.modes c.self.inside.touched c.note.new.touched c.self.inside.reads.items c.note.new.reads.items c.args.statement c.in-Ok.done c.runs_are_joined.ensures c.self.invariant
    c.recall_order.ensures c.in-Ok.ensures.done c.in-Ok.ensures.of c.in-Ok.ensures.changes c.in_default.ensures.noted c.in_default.ensures.read
    (subst (λ (t : OpenTransaction). t.read_only ≡ true → is_read_only c.args.statement ≡ true) (sym c.self.view_is) c.requires.may_run))

pub returns-clause-replied : goal.returns-clause-replied
returns-clause-replied c =
    subst (λ t. IfOk c.in-Ok.done.reply (λ reply. (step_of t c.args.statement).reply ≡ Ok reply)) c.self.view_is
    (reply_ok c.in-Ok.done.reply (step_of (txn.the_view c.self.inside) c.args.statement)
    (reply_from (txn.the_view c.self.inside) c.self.inside.own c.self.inside.modes c.args.statement c.in-Ok.done c.self.invariant c.recall_order.ensures c.in-Ok.ensures.done))

pub returns-clause-refused : goal.returns-clause-refused
returns-clause-refused c =
    subst (λ t. IfErr c.in-Ok.done.reply (λ refusal. refusal ≢ NoMemory → (step_of t c.args.statement).reply ≡ Err refusal)) c.self.view_is
    (reply_err c.in-Ok.done.reply (step_of (txn.the_view c.self.inside) c.args.statement)
    (reply_from (txn.the_view c.self.inside) c.self.inside.own c.self.inside.modes c.args.statement c.in-Ok.done c.self.invariant c.recall_order.ensures c.in-Ok.ensures.done))

pub returns-clause-same : goal.returns-clause-same
returns-clause-same c = never _ c.in-Ok.done.reply c.in-Ok.ensures.known
