use Rattle.std.proofs.Common.{ap, ◌∙◌, take}
use Rattle.siread.specs.Locks.{readers_at, changed_at, without_reader}
use Rattle.siread.specs.Readers.{left_out}
use Rattle.siread.proofs.Steps.{take_step, undo, one_more, all_taken}
use Rattle.siread.proofs.locks.LockTable.take_back.Goals as goal

pub loop-key-preserved : goal.loop-key-preserved
loop-key-preserved c =
    let keys = c.args.keys.now in
    let done = take c.loop-key.key-index keys in
    c.take_one.ensures
    ∙ ap (changed_at c.key-item.result (left_out c.args.number)) c.loop-key.invariant
    ∙ take_step c.args.number done c.key-item.result (readers_at c.args.self.now)
    ∙ ap (λ those. without_reader c.args.number those (readers_at c.args.self.now)) (one_more keys c.loop-key.key-index c.key-item.result c.loop-key-test.true c.key-item.is)

pub returns-clause-taken : goal.returns-clause-taken
returns-clause-taken c =
    c.loop-key.invariant ∙ ap (λ those. without_reader c.args.number those (readers_at c.args.self.now)) (all_taken c.args.keys.now c.loop-key.key-index c.loop-key-test.false)

pub returns-clause-undone : goal.returns-clause-undone
returns-clause-undone c = λ before below put.
    c.loop-key.invariant ∙ ap (λ those. without_reader c.args.number those (readers_at c.args.self.now)) (all_taken c.args.keys.now c.loop-key.key-index c.loop-key-test.false)
    ∙ ap (without_reader c.args.number c.args.keys.now) put
    ∙ undo c.args.number c.args.keys.now c.args.keys.now before below (λ q h. h)
