use Rattle.std.proofs.Common.{sym, ap, ◌∙◌, subst}
use Rattle.siread.specs.Locks.{reads_above, readers_at, AreAscending}
use Rattle.siread.proofs.Ascending.{trimmed_ascends}
use Rattle.siread.proofs.locks.LockTable.trim.Goals as goal

pub returns : goal.returns
returns c = c.keep_reaching.ensures ∙ ap (λ es. reads_above c.args.low c.args.reaches.now (readers_at es)) c.self.view_is

pub invariant_of-self : goal.invariant_of-self
invariant_of-self c =
    subst AreAscending (sym c.keep_reaching.ensures)
    (trimmed_ascends c.args.low c.args.reaches.now (readers_at c.self.inside.families.entries) c.self.invariant)
