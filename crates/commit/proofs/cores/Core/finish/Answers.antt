use Rattle.std.proofs.Common.{◌≡◌, ◌<◌, ◌+◌, ◌∙◌, ◌++◌, ◌∷◌, ℕ, List, [], ap, length, map, refl, reverse, subst, sym, Some}
use Rattle.std.specs.Prelude.{vec_capacity, vec_len}
use Rattle.std.proofs.lemmas.List.{length-append, map_push}
use Rattle.alone.specs.declared.records.Record.{Record}
use Rattle.siread.specs.Locks.{reads_above, readers_at}
use Rattle.conflict.specs.Live.{least_writing, without}
use Rattle.alone.specs.Commits.{IsLog, reach}
use Rattle.alone.specs.Order.{least_out, put_by, rank, serial_order}
use Rattle.conflict.specs.Ordered.{numbers_of}
use Rattle.txn.specs.Transactions.{OpenTransaction}
use Rattle.commit.specs.Cores.{core_after_commit, log_of, reads_kept, record_of, record_with}
use Rattle.commit.specs.Kept.{idle_core}
use Rattle.commit.proofs.Accepting.{core_next}
use Rattle.commit.proofs.Keeping.{kept_idle, kept_ready, same_core}
use Rattle.commit.proofs.Locking.{kept_committed, noted_same, reach_within}
use Rattle.commit.proofs.Recording.{below}
use Rattle.commit.proofs.cores.Core.finish.Goals as goal

pub put_in_order-requires-clause-log : goal.put_in_order-requires-clause-log
put_in_order-requires-clause-log c = subst (λ (records : List Record). IsLog (reverse records)) (sym c.as_slice-committed.ensures.value) c.self.invariant.0.epoch.accepted

pub put_in_order-requires-clause-places : goal.put_in_order-requires-clause-places
put_in_order-requires-clause-places c =
    c.as_slice-places.ensures.value ∙ c.self.invariant.0.places_are
    ∙ (λ i. map (least_out (reverse (sym c.as_slice-committed.ensures.value i))) (sym c.as_slice-committed.ensures.value i))

pub put_in_order-requires-clause-order : goal.put_in_order-requires-clause-order
put_in_order-requires-clause-order c = c.self.invariant.0.order_is ∙ ap (λ (records : List Record). numbers_of (serial_order (reverse records))) (sym c.as_slice-committed.ensures.value)

pub put_in_order-requires-clause-next : goal.put_in_order-requires-clause-next
put_in_order-requires-clause-next c =
    ap (λ (r : Record). r.number) c.into_record-record.ensures ∙ ap (λ n. n + 1) (c.len-before.ensures ∙ c.self.inside.records.ok.0)
    ∙ ap (λ (records : List Record). length records + 1) (sym c.as_slice-committed.ensures.value)

pub put_in_order-requires-clause-place : goal.put_in_order-requires-clause-place
put_in_order-requires-clause-place c =
    let now = idle_core c.self.inside.limit c.self.inside.loaded c.self.inside.records.items c.self.inside.refused.items c.self.inside.live in
    let Room : Type 0 = (vec_len c.self.inside.records < vec_capacity c.self.inside.records) × (vec_len c.self.inside.places < vec_capacity c.self.inside.places) × (vec_len c.self.inside.reaches < vec_capacity c.self.inside.reaches) × (vec_len c.self.inside.order < vec_capacity c.self.inside.order) in
    let p = c.in-Some.prepared in
    let there : c.self.inside.prepared ≡ Some p = sym c.take.ensures.value ∙ c.in-Some.is in
    let ready = kept_ready now c.self.inside.newest c.self.inside.places.items c.self.inside.reaches.items c.self.inside.order.items (readers_at c.self.inside.locks) Room p c.self.inside.prepared there c.self.invariant in
    let made : c.into_record-record.result ≡ record_of now p.session p.closed = c.into_record-record.ensures ∙ ap (λ (n : ℕ). record_with (n + 1) p.session p.closed) (c.len-before.ensures ∙ c.self.inside.records.ok.0) in
    ready.1.place_is ∙ (λ i. least_out (reverse (sym c.as_slice-committed.ensures.value i)) (sym made i))

pub invariant_of-self-2 : goal.invariant_of-self-2
invariant_of-self-2 c =
    let now = idle_core c.self.inside.limit c.self.inside.loaded c.self.inside.records.items c.self.inside.refused.items c.self.inside.live in
    let Room : Type 0 = (vec_len c.self.inside.records < vec_capacity c.self.inside.records) × (vec_len c.self.inside.places < vec_capacity c.self.inside.places) × (vec_len c.self.inside.reaches < vec_capacity c.self.inside.reaches) × (vec_len c.self.inside.order < vec_capacity c.self.inside.order) in
    let p = c.in-Some.prepared in
    let there : c.self.inside.prepared ≡ Some p = sym c.take.ensures.value ∙ c.in-Some.is in
    let ready = kept_ready now c.self.inside.newest c.self.inside.places.items c.self.inside.reaches.items c.self.inside.order.items (readers_at c.self.inside.locks) Room p c.self.inside.prepared there c.self.invariant in
    let t = p.closed in
    let long = c.len-before.ensures ∙ c.self.inside.records.ok.0 in
    let commit = record_of now p.session t in
    let made : c.into_record-record.result ≡ commit = c.into_record-record.ensures ∙ ap (λ (n : ℕ). record_with (n + 1) p.session p.closed) long in
    let records : c.push_reserved-3.new.self.items ≡ c.self.inside.records.items ++ commit ∷ []
    = c.push_reserved-3.ensures.items ∙ ap (λ (r : Record). c.self.inside.records.items ++ r ∷ []) made in
    let reaches : c.push_reserved-2.new.self.items ≡ c.self.inside.reaches.items ++ reach commit ∷ []
    = c.push_reserved-2.ensures.items ∙ ap (λ (n : ℕ). c.self.inside.reaches.items ++ n ∷ []) (c.reach.ensures ∙ ap reach made) in
    let live : c.forget.new.live ≡ without t.begin_number c.self.inside.live = c.forget.ensures.live ∙ ap (λ begin_number. without begin_number c.self.inside.live) (c.begin_number-begin_number.ensures ∙ ap (λ (t : OpenTransaction). t.begin_number) c.txn.ensures) in
    let after = core_after_commit now p.session t in
    let same : after ≡ idle_core c.self.inside.limit c.self.inside.loaded c.push_reserved-3.new.self.items c.self.inside.refused.items c.forget.new.live
    = λ i. idle_core c.self.inside.limit c.self.inside.loaded (sym records i) c.self.inside.refused.items (sym live i) in
    let order : c.put_in_order.new.order.items ≡ numbers_of (put_by (rank (log_of now)) commit (serial_order (log_of now)))
    = c.put_in_order.ensures
    ∙ (λ i. numbers_of (put_by (rank (reverse (c.as_slice-committed.ensures.value i))) (made i) (serial_order (reverse (c.as_slice-committed.ensures.value i))))) in
    let count : c.len-before.result + 1 ≡ length (c.self.inside.records.items ++ commit ∷ []) = ap (λ n. n + 1) long ∙ sym (length-append c.self.inside.records.items (commit ∷ [])) in
    let far : c.as_slice.result.now ≡ map reach (c.self.inside.records.items ++ commit ∷ [])
    = c.as_slice.ensures.value ∙ reaches ∙ ap (λ (rs : List ℕ). rs ++ reach commit ∷ []) c.self.invariant.0.reaches_are ∙ sym (map_push reach c.self.inside.records.items commit) in
    let left : readers_at c.forget.new.locks ≡ reads_kept after =
    c.forget.ensures.locks ∙ (λ i. reads_above (least_writing (count i) (live i).snapshots) (far i) (ready.2 i))
    ∙ kept_committed c.self.inside.live c.self.inside.records.items t.begin_number commit (below now c.self.invariant.0.epoch.accepted) refl (reach_within t (length c.self.inside.records.items) ready.1.live.within) in
    kept_idle _ p.tables c.push_reserved.new.self.items c.push_reserved-2.new.self.items c.put_in_order.new.order.items (readers_at c.forget.new.locks) _ c.take.new.self c.take.ensures.after
    (same_core after _ p.tables p.tables (c.self.inside.places.items ++ p.place ∷ []) _ (c.self.inside.reaches.items ++ reach commit ∷ []) _ c.put_in_order.new.order.items _ same
    (λ i. p.tables) (sym c.push_reserved.ensures.items) (sym reaches) (λ i. c.put_in_order.new.order.items)
    (core_next now c.self.inside.newest c.self.inside.places.items c.self.inside.reaches.items c.self.inside.order.items c.self.invariant.0 p.session t ready.1.live p.tables p.place c.put_in_order.new.order.items
    ready.1.satisfied ready.1.room ready.1.answer ready.1.tables_are ready.1.changes_nothing ready.1.place_is order))
    (left ∙ (λ i. reads_kept (same i)))

pub forget-requires-clause-kept : goal.forget-requires-clause-kept
forget-requires-clause-kept c =
    let now = idle_core c.self.inside.limit c.self.inside.loaded c.self.inside.records.items c.self.inside.refused.items c.self.inside.live in
    let Room : Type 0 = (vec_len c.self.inside.records < vec_capacity c.self.inside.records) × (vec_len c.self.inside.places < vec_capacity c.self.inside.places) × (vec_len c.self.inside.reaches < vec_capacity c.self.inside.reaches) × (vec_len c.self.inside.order < vec_capacity c.self.inside.order) in
    let p = c.in-Some.prepared in
    let there : c.self.inside.prepared ≡ Some p = sym c.take.ensures.value ∙ c.in-Some.is in
    let ready = kept_ready now c.self.inside.newest c.self.inside.places.items c.self.inside.reaches.items c.self.inside.order.items (readers_at c.self.inside.locks) Room p c.self.inside.prepared there c.self.invariant in
    let t = p.closed in
    let long = c.len-before.ensures ∙ c.self.inside.records.ok.0 in
    let commit = record_of now p.session t in
    let made : c.into_record-record.result ≡ commit = c.into_record-record.ensures ∙ ap (λ (n : ℕ). record_with (n + 1) p.session p.closed) long in
    let reaches : c.push_reserved-2.new.self.items ≡ c.self.inside.reaches.items ++ reach commit ∷ []
    = c.push_reserved-2.ensures.items ∙ ap (λ (n : ℕ). c.self.inside.reaches.items ++ n ∷ []) (c.reach.ensures ∙ ap reach made) in
    let far : c.as_slice.result.now ≡ map reach (c.self.inside.records.items ++ commit ∷ [])
    = c.as_slice.ensures.value ∙ reaches ∙ ap (λ (rs : List ℕ). rs ++ reach commit ∷ []) c.self.invariant.0.reaches_are ∙ sym (map_push reach c.self.inside.records.items commit) in
    (λ i. reads_above (least_writing (long i) c.self.inside.live.snapshots) (far i) (ready.2 i))
    ∙ noted_same c.self.inside.live c.self.inside.records.items t.begin_number commit (below now c.self.invariant.0.epoch.accepted) refl
    ∙ sym ready.2
