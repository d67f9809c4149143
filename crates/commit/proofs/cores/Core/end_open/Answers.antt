use Rattle.std.proofs.Common.{◌<◌, ◌∙◌, ℕ, List, ap}
use Rattle.std.specs.Prelude.{vec_capacity, vec_len}
use Rattle.siread.specs.Locks.{reads_above, readers_at}
use Rattle.conflict.specs.Live.{least_writing}
use Rattle.commit.specs.Kept.{idle_core}
use Rattle.commit.proofs.Keeping.{is_idle, kept_left, same_left}
use Rattle.commit.proofs.cores.Core.end_open.Goals as goal

pub invariant_of-self : goal.invariant_of-self
invariant_of-self c =
    let now = idle_core c.self.inside.limit c.self.inside.loaded c.self.inside.records.items c.self.inside.refused.items c.self.inside.live in
    let Room : Type 0 = (vec_len c.self.inside.records < vec_capacity c.self.inside.records) × (vec_len c.self.inside.places < vec_capacity c.self.inside.places) × (vec_len c.self.inside.reaches < vec_capacity c.self.inside.reaches) × (vec_len c.self.inside.order < vec_capacity c.self.inside.order) in
    kept_left now c.self.inside.newest c.self.inside.places.items c.self.inside.reaches.items c.self.inside.order.items (readers_at c.self.inside.locks) Room _
    c.self.inside.prepared c.args.begin_number c.forget.new.live c.self.inside.refused.items _ (readers_at c.forget.new.locks)
    (is_idle now c.args.self.now c.self.inside.prepared c.self.view_is c.requires.idle)
    c.forget.ensures.live
    (c.len-newest.ensures ∙ c.self.inside.records.ok.0)
    (c.forget.ensures.locks ∙ ap (λ (far : List ℕ). reads_above (least_writing c.len-newest.result c.forget.new.live.snapshots) far (readers_at c.self.inside.locks)) c.as_slice.ensures.value)
    c.self.invariant

pub forget-requires-clause-kept : goal.forget-requires-clause-kept
forget-requires-clause-kept c =
    let now = idle_core c.self.inside.limit c.self.inside.loaded c.self.inside.records.items c.self.inside.refused.items c.self.inside.live in
    let Room : Type 0 = (vec_len c.self.inside.records < vec_capacity c.self.inside.records) × (vec_len c.self.inside.places < vec_capacity c.self.inside.places) × (vec_len c.self.inside.reaches < vec_capacity c.self.inside.reaches) × (vec_len c.self.inside.order < vec_capacity c.self.inside.order) in
    (λ i. reads_above (least_writing c.len-newest.result c.self.inside.live.snapshots) (c.as_slice.ensures.value i) (readers_at c.self.inside.locks))
    ∙ same_left now c.self.inside.newest c.self.inside.places.items c.self.inside.reaches.items c.self.inside.order.items (readers_at c.self.inside.locks) Room
    c.self.inside.prepared c.len-newest.result (is_idle now c.args.self.now c.self.inside.prepared c.self.view_is c.requires.idle)
    (c.len-newest.ensures ∙ c.self.inside.records.ok.0) c.self.invariant
