use Rattle.std.proofs.Common.{ℕ, arith, map, subst}
use Rattle.std.specs.Arc.{arc_value}
use Rattle.delta.specs.Maintained.{AreWatched}
use Rattle.delta.proofs.WatchLemmas.{AreWatched-more, shared_more, watched_past}
use Rattle.delta.proofs.versions.watches_of.Goals as goal

pub loop-index-preserved : goal.loop-index-preserved
loop-index-preserved c =
    let made = c.in_ok-new.field-0 in
    AreWatched-more c.args.schemas.now c.args.tables.now c.args.assertions.now c.loop-index.index (map arc_value c.loop-index.made.items) (map arc_value c.push.new.self.items) (arc_value made)
    (shared_more c.loop-index.made.items c.push.new.self.items made c.in_ok-push.ensures.items)
    (watched_past c.args.schemas.now c.args.tables.now c.args.assertions.now c.loop-index.index c.index-assertions-index.result (arc_value made) (omega arith)
    (rw c.in_ok-new.ensures.ok c.in_ok-watch.ensures))
    c.loop-index.invariant

pub returns : goal.returns
returns c =
    subst (λ (n : ℕ). AreWatched c.args.schemas.now c.args.tables.now c.args.assertions.now n (map arc_value c.loop-index.made.items)) (omega arith)
    c.loop-index.invariant
