use Rattle.std.proofs.Common.{◌≡◌, ◌<◌, ◌+◌, ◌∙◌, length, map, subst, sym}
use Rattle.std.specs.Prelude.{vec_capacity, vec_len}
use Rattle.siread.specs.Locks.{AreBelow, readers_at}
use Rattle.conflict.specs.Live.{least_writing}
use Rattle.alone.specs.Commits.{reach}
use Rattle.conflict.proofs.Readers.{reads_below}
use Rattle.commit.specs.Cores.{reads_kept}
use Rattle.commit.specs.Kept.{idle_core}
use Rattle.commit.proofs.Recording.{below}
use Rattle.commit.proofs.Keeping.{is_idle, kept_idle, locks_idle, same_core}
use Rattle.commit.proofs.cores.Core.make_ready.Goals as goal

pub note_reads-requires : goal.note_reads-requires
note_reads-requires c =
    let now = idle_core c.self.inside.limit c.self.inside.loaded c.self.inside.records.items c.self.inside.refused.items c.self.inside.live in
    let Room : Type 0 = (vec_len c.self.inside.records < vec_capacity c.self.inside.records) × (vec_len c.self.inside.places < vec_capacity c.self.inside.places) × (vec_len c.self.inside.reaches < vec_capacity c.self.inside.reaches) × (vec_len c.self.inside.order < vec_capacity c.self.inside.order) in
    let idle = is_idle now c.args.self.now c.self.inside.prepared c.self.view_is c.requires.idle in
    let locks = locks_idle now c.self.inside.newest c.self.inside.places.items c.self.inside.reaches.items c.self.inside.order.items (readers_at c.self.inside.locks) Room c.self.inside.prepared idle c.self.invariant in
    subst (λ n. AreBelow (n + 1) (readers_at c.self.inside.locks)) (sym (c.len.ensures ∙ c.self.inside.records.ok.0))
    (subst (AreBelow (length c.self.inside.records.items + 1)) (sym locks)
    (reads_below c.self.inside.records.items (length c.self.inside.records.items + 1) (least_writing (length c.self.inside.records.items) c.self.inside.live.snapshots) (map reach c.self.inside.records.items)
    (below now c.self.invariant.0.epoch.accepted)))

pub invariant_of-self : goal.invariant_of-self
invariant_of-self c =
    let now = idle_core c.self.inside.limit c.self.inside.loaded c.self.inside.records.items c.self.inside.refused.items c.self.inside.live in
    let Room : Type 0 = (vec_len c.self.inside.records < vec_capacity c.self.inside.records) × (vec_len c.self.inside.places < vec_capacity c.self.inside.places) × (vec_len c.self.inside.reaches < vec_capacity c.self.inside.reaches) × (vec_len c.self.inside.order < vec_capacity c.self.inside.order) in
    let idle = is_idle now c.args.self.now c.self.inside.prepared c.self.view_is c.requires.idle in
    let locks = locks_idle now c.self.inside.newest c.self.inside.places.items c.self.inside.reaches.items c.self.inside.order.items (readers_at c.self.inside.locks) Room c.self.inside.prepared idle c.self.invariant in
    let made : now ≡ idle_core c.self.inside.limit c.self.inside.loaded c.make_room.new.records.items c.self.inside.refused.items c.self.inside.live
    = λ i. idle_core c.self.inside.limit c.self.inside.loaded (sym c.make_room.ensures.records i) c.self.inside.refused.items c.self.inside.live in
    kept_idle _ c.self.inside.newest c.make_room.new.places.items c.make_room.new.reaches.items c.make_room.new.order.items (readers_at c.self.inside.locks) _ c.self.inside.prepared idle
    (same_core now _ c.self.inside.newest c.self.inside.newest c.self.inside.places.items _ c.self.inside.reaches.items _ c.self.inside.order.items _ made (λ i. c.self.inside.newest) (sym c.make_room.ensures.places) (sym c.make_room.ensures.reaches) (sym c.make_room.ensures.order) c.self.invariant.0)
    (locks ∙ (λ i. reads_kept (made i)))

pub invariant_of-self-in-Err-note_reads : goal.invariant_of-self-in-Err-note_reads
invariant_of-self-in-Err-note_reads c =
    let now = idle_core c.self.inside.limit c.self.inside.loaded c.self.inside.records.items c.self.inside.refused.items c.self.inside.live in
    let Room : Type 0 = (vec_len c.self.inside.records < vec_capacity c.self.inside.records) × (vec_len c.self.inside.places < vec_capacity c.self.inside.places) × (vec_len c.self.inside.reaches < vec_capacity c.self.inside.reaches) × (vec_len c.self.inside.order < vec_capacity c.self.inside.order) in
    let idle = is_idle now c.args.self.now c.self.inside.prepared c.self.view_is c.requires.idle in
    let locks = locks_idle now c.self.inside.newest c.self.inside.places.items c.self.inside.reaches.items c.self.inside.order.items (readers_at c.self.inside.locks) Room c.self.inside.prepared idle c.self.invariant in
    let made : now ≡ idle_core c.self.inside.limit c.self.inside.loaded c.make_room.new.records.items c.self.inside.refused.items c.self.inside.live
    = λ i. idle_core c.self.inside.limit c.self.inside.loaded (sym c.make_room.ensures.records i) c.self.inside.refused.items c.self.inside.live in
    kept_idle _ c.self.inside.newest c.make_room.new.places.items c.make_room.new.reaches.items c.make_room.new.order.items (readers_at c.note_reads.new.locks) _ c.self.inside.prepared idle
    (same_core now _ c.self.inside.newest c.self.inside.newest c.self.inside.places.items _ c.self.inside.reaches.items _ c.self.inside.order.items _ made (λ i. c.self.inside.newest) (sym c.make_room.ensures.places) (sym c.make_room.ensures.reaches) (sym c.make_room.ensures.order) c.self.invariant.0)
    (c.in-Err-note_reads.ensures.unchanged ∙ locks ∙ (λ i. reads_kept (made i)))
