use Rattle.std.proofs.Common.{◌+◌, ap, sym, subst, ◌∙◌, take}
use Rattle.siread.specs.Keys.{same_key}
use Rattle.siread.specs.Locks.{readers_at, without_reader, AreBelow}
use Rattle.siread.proofs.Steps.{undo, any_take, below_after}
use Rattle.siread.proofs.locks.LockTable.put.Goals as goal

pub returns-in-Err-clause-unchanged : goal.returns-in-Err-clause-unchanged
returns-in-Err-clause-unchanged c =
    let keys = c.args.keys.now in
    let part = c.in-Err.ensures.part in
    c.take_back.ensures.taken
    ∙ ap (without_reader c.args.number keys) part.1
    ∙ undo c.args.number (take part.0 keys) keys (readers_at c.args.self.now) c.requires (λ q. any_take (same_key q) part.0 keys)

pub returns-in-Ok-clause-below : goal.returns-in-Ok-clause-below
returns-in-Ok-clause-below c =
    let keys = c.args.keys.now in
    subst (AreBelow (c.args.number + 1)) (sym c.in-Ok.ensures.put) (below_after c.args.number keys (readers_at c.args.self.now) c.requires)
