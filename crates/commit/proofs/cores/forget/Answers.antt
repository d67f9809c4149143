use Rattle.std.proofs.Common.{◌≡◌, ◌∙◌, ℕ, sym, ap, arith}
use Rattle.siread.specs.Locks.{reads_above, readers_at}
use Rattle.conflict.specs.Live.{LiveState, is_other, least_writing}
use Rattle.conflict.proofs.Least.{least_grows}
use Rattle.commit.proofs.cores.forget.Goals as goal

pub returns-else-low-high-clause-locks : goal.returns-else-low-high-clause-locks
returns-else-low-high-clause-locks c =
    let grows = least_grows c.args.before c.args.newest (is_other c.args.begin_number) c.args.live.now.snapshots c.requires.later in
    let ended = ap (λ (l : LiveState). least_writing c.args.newest l.snapshots) c.end.ensures in
    let low = c.least_writing-low.ensures in
    let high = c.least_writing-high.ensures in
    let stays = c.if-low-high.false in
    let same : least_writing c.args.before c.args.live.now.snapshots ≡ least_writing c.args.newest c.end.new.self.snapshots = omega (arith, grows, ended, low, high, stays) in
    sym c.requires.kept ∙ ap (λ (n : ℕ). reads_above n c.args.reaches.now (readers_at c.args.locks.now)) same
