use Rattle.std.proofs.Common.{◌≡◌, ◌<◌, ◌+◌, ◌∙◌, ap, length, map, subst, sym, Some}
use Rattle.std.specs.Prelude.{vec_capacity, vec_len}
use Rattle.siread.specs.Locks.{AreBelow, readers_at}
use Rattle.conflict.specs.Live.{least_writing}
use Rattle.alone.specs.Commits.{reach}
use Rattle.conflict.proofs.Readers.{reads_below}
use Rattle.commit.specs.Cores.{reads_asked, reads_kept}
use Rattle.commit.specs.Kept.{idle_core}
use Rattle.commit.proofs.Recording.{below}
use Rattle.commit.proofs.Keeping.{kept_idle, kept_ready}
use Rattle.commit.proofs.cores.Core.cancel.Goals as goal

pub invariant_of-self-2 : goal.invariant_of-self-2
invariant_of-self-2 c =
    let now = idle_core c.self.inside.limit c.self.inside.loaded c.self.inside.records.items c.self.inside.refused.items c.self.inside.live in
    let Room : Type 0 = (vec_len c.self.inside.records < vec_capacity c.self.inside.records) × (vec_len c.self.inside.places < vec_capacity c.self.inside.places) × (vec_len c.self.inside.reaches < vec_capacity c.self.inside.reaches) × (vec_len c.self.inside.order < vec_capacity c.self.inside.order) in
    let p = c.in-Some.prepared in
    let there : c.self.inside.prepared ≡ Some p = sym c.take.ensures.value ∙ c.in-Some.is in
    let ready = kept_ready now c.self.inside.newest c.self.inside.places.items c.self.inside.reaches.items c.self.inside.order.items (readers_at c.self.inside.locks) Room p c.self.inside.prepared there c.self.invariant in
    let number : c.len.result + 1 ≡ length c.self.inside.records.items + 1 = ap (λ n. n + 1) (c.len.ensures ∙ c.self.inside.records.ok.0) in
    let closed : p.closed ≡ c.give_up-closed.result = sym c.give_up-closed.ensures in
    let low : AreBelow (c.len.result + 1) (reads_kept now) =
    subst (λ n. AreBelow n (reads_kept now)) (sym number)
    (reads_below c.self.inside.records.items (length c.self.inside.records.items + 1) (least_writing (length c.self.inside.records.items) c.self.inside.live.snapshots) (map reach c.self.inside.records.items)
    (below now c.self.invariant.0.epoch.accepted)) in
    kept_idle now c.self.inside.newest c.self.inside.places.items c.self.inside.reaches.items c.self.inside.order.items (readers_at c.take_back_reads.new.locks) Room c.take.new.self c.take.ensures.after
    c.self.invariant.0
    (c.take_back_reads.ensures (reads_kept now) low
    (ready.2 ∙ (λ i. reads_asked now.live.snapshots (closed i) (sym number i) (reads_kept now))))
