use Rattle.std.proofs.Common.{◌+◌, ap, sym, subst, ◌∙◌, take}
use Rattle.siread.specs.Locks.{readers_at, changed_at, with_reader, AreBelow, IsPartlyPut}
use Rattle.siread.specs.Readers.{with_last}
use Rattle.siread.proofs.Lookups.{on_err}
use Rattle.siread.proofs.Steps.{below_after, put_step, one_more, all_taken}
use Rattle.siread.proofs.locks.LockTable.put_each.Goals as goal

pub returns-in_err-put_one-clause-part : goal.returns-in_err-put_one-clause-part
returns-in_err-put_one-clause-part c =
    let part : IsPartlyPut c.args.number c.args.keys.now (readers_at c.args.self.now) (readers_at c.put_one.new.self)
    = (c.loop-key.key-index, c.in_err-put_one.ensures.unchanged ∙ c.loop-key.invariant) in
    on_err _ _ part

pub loop-key-preserved : goal.loop-key-preserved
loop-key-preserved c =
    let keys = c.args.keys.now in
    let done = take c.loop-key.key-index keys in
    c.in_ok-put_one.ensures.put
    ∙ ap (changed_at c.key-item.result (with_last c.args.number)) c.loop-key.invariant
    ∙ put_step c.args.number done c.key-item.result (readers_at c.args.self.now) c.requires
    ∙ ap (λ those. with_reader c.args.number those (readers_at c.args.self.now)) (one_more keys c.loop-key.key-index c.key-item.result c.loop-key-test.true c.key-item.is)

pub returns-clause-put : goal.returns-clause-put
returns-clause-put c =
    c.loop-key.invariant ∙ ap (λ those. with_reader c.args.number those (readers_at c.args.self.now)) (all_taken c.args.keys.now c.loop-key.key-index c.loop-key-test.false)

pub put_one-requires : goal.put_one-requires
put_one-requires c =
    subst (AreBelow (c.args.number + 1)) (sym c.loop-key.invariant)
    (below_after c.args.number (take c.loop-key.key-index c.args.keys.now) (readers_at c.args.self.now) c.requires)
