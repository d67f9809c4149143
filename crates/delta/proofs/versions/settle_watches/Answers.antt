use Rattle.std.proofs.Common.{map, subst, sym, Global}
use Rattle.std.specs.Arc.{arc_value}
use Rattle.std.specs.declared.sync.Arc.{Arc}
use Rattle.delta.specs.declared.watches.Watch.{Watch}
use Rattle.delta.specs.Maintained.{AreAlike}
use Rattle.delta.proofs.WatchLemmas.{all_set, all_themselves}
use Rattle.delta.proofs.versions.settle_watches.Goals as goal

pub loop-at-init : goal.loop-at-init
loop-at-init c = all_themselves (map arc_value c.args.watches.now)

pub loop-at-preserved : goal.loop-at-preserved
loop-at-preserved c =
    let old = c.index-watches-at.result in
    let new = c.settle_watch.new.watch in
    all_set c.loop-at.watches (map arc_value c.args.watches.now) c.loop-at.at old new c.index-watches-at.is
    (subst (λ (w : Arc Watch Global). AreAlike (arc_value new) (arc_value w)) (sym c.index-watches-at.is) c.settle_watch.ensures) c.loop-at.invariant
