use Rattle.std.proofs.Common.{ℕ, arith, map, subst}
use Rattle.std.specs.Arc.{arc_value}
use Rattle.delta.specs.Maintained.{AreWatched}
use Rattle.delta.proofs.WatchLemmas.{AreWatched-more, shared_at, shared_more, watched_past, watched_for}
use Rattle.delta.proofs.versions.watches_after.Goals as goal

pub watch_after-requires-clause-watched : goal.watch_after-requires-clause-watched
watch_after-requires-clause-watched c =
    (watched_for c.args.schemas.now c.args.before.now c.args.assertions.now _ (map arc_value c.args.watches.now) c.loop-index.index (arc_value c.index-watches-index.result) c.requires.watched (omega arith) (shared_at c.args.watches.now c.loop-index.index c.index-watches-index.result c.index-watches-index.is) c.index-assertions-index.result)

pub loop-index-preserved : goal.loop-index-preserved
loop-index-preserved c =
    let made = c.in_ok-watch_after.field-0 in
    AreWatched-more c.args.schemas.now c.args.after.now c.args.assertions.now c.loop-index.index (map arc_value c.loop-index.made.items) (map arc_value c.push.new.self.items) (arc_value made)
    (shared_more c.loop-index.made.items c.push.new.self.items made c.in_ok-push.ensures.items)
    (watched_past c.args.schemas.now c.args.after.now c.args.assertions.now c.loop-index.index c.index-assertions-index.result (arc_value made) (omega arith) c.in_ok-watch_after.ensures)
    c.loop-index.invariant

pub returns : goal.returns
returns c =
    subst (λ (n : ℕ). AreWatched c.args.schemas.now c.args.after.now c.args.assertions.now n (map arc_value c.loop-index.made.items)) (omega arith)
    c.loop-index.invariant
