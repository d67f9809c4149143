use Rattle.std.proofs.Common.{◌≡◌, ◌<◌, ◌∙◌, length, subst, sym}
use Rattle.std.specs.Prelude.{vec_capacity, vec_len}
use Rattle.siread.specs.Locks.{readers_at}
use Rattle.conflict.specs.Live.{LiveState, with_begin}
use Rattle.txn.specs.Transactions.{reads_only, transaction_at_begin}
use Rattle.commit.specs.Cores.{CoreState, IsLive, with_begun}
use Rattle.commit.specs.Kept.{IsKept, idle_core, pending_of}
use Rattle.commit.proofs.Accepting.{begun_live}
use Rattle.commit.proofs.Keeping.{is_idle, kept_idle, locks_idle, same_commits}
use Rattle.commit.proofs.Locking.{kept_begun}
use Rattle.commit.proofs.BeginNumbers.{one_more}
use Rattle.commit.proofs.cores.Core.begin.Goals as goal

pub invariant_of-self : goal.invariant_of-self
invariant_of-self c =
    let Room : Type 0 = (vec_len c.self.inside.records < vec_capacity c.self.inside.records) × (vec_len c.self.inside.places < vec_capacity c.self.inside.places) × (vec_len c.self.inside.reaches < vec_capacity c.self.inside.reaches) × (vec_len c.self.inside.order < vec_capacity c.self.inside.order) in
    subst (λ (live : LiveState). IsKept (idle_core c.self.inside.limit c.self.inside.loaded c.self.inside.records.items c.self.inside.refused.items live) c.self.inside.newest c.self.inside.places.items c.self.inside.reaches.items c.self.inside.order.items (readers_at c.self.inside.locks) c.self.inside.prepared Room)
    (sym c.in-Err.ensures.same) c.self.invariant

pub invariant_of-self-2 : goal.invariant_of-self-2
invariant_of-self-2 c =
    let now = idle_core c.self.inside.limit c.self.inside.loaded c.self.inside.records.items c.self.inside.refused.items c.self.inside.live in
    let Room : Type 0 = (vec_len c.self.inside.records < vec_capacity c.self.inside.records) × (vec_len c.self.inside.places < vec_capacity c.self.inside.places) × (vec_len c.self.inside.reaches < vec_capacity c.self.inside.reaches) × (vec_len c.self.inside.order < vec_capacity c.self.inside.order) in
    let idle = is_idle now c.args.self.now c.self.inside.prepared (c.self.view_is ∙ c.settle.ensures) c.requires.idle in
    let locks = locks_idle now c.self.inside.newest c.self.inside.places.items c.self.inside.reaches.items c.self.inside.order.items (readers_at c.self.inside.locks) Room c.self.inside.prepared idle c.self.invariant in
    let count = c.len-snapshot.ensures ∙ c.self.inside.records.ok.0 in
    let began : c.begin-2.new.self ≡ with_begin (length c.self.inside.records.items) (reads_only c.args.access) c.self.inside.live
    = c.in_default.ensures.begun ∙ (λ i. with_begin (count i) (c.is_read_only.ensures i) c.self.inside.live) in
    subst (λ (live : LiveState). IsKept (idle_core c.self.inside.limit c.self.inside.loaded c.self.inside.records.items c.self.inside.refused.items live) c.self.inside.newest c.self.inside.places.items c.self.inside.reaches.items c.self.inside.order.items (readers_at c.self.inside.locks) c.self.inside.prepared Room)
    (sym began)
    (kept_idle (with_begun (reads_only c.args.access) now) c.self.inside.newest c.self.inside.places.items c.self.inside.reaches.items c.self.inside.order.items (readers_at c.self.inside.locks) Room c.self.inside.prepared idle
    (same_commits now c.self.inside.newest c.self.inside.places.items c.self.inside.reaches.items c.self.inside.order.items (readers_at c.self.inside.locks) Room
    (with_begin (length c.self.inside.records.items) (reads_only c.args.access) c.self.inside.live) c.self.inside.refused.items
    (one_more c.self.inside.live (length c.self.inside.records.items) (reads_only c.args.access) c.self.invariant.0.begin_numbers) c.self.invariant.0)
    (locks ∙ sym (kept_begun c.self.inside.live c.self.inside.records.items (reads_only c.args.access))))

pub returns-clause-live : goal.returns-clause-live
returns-clause-live c =
    let now = idle_core c.self.inside.limit c.self.inside.loaded c.self.inside.records.items c.self.inside.refused.items c.self.inside.live in
    let idle = is_idle now c.args.self.now c.self.inside.prepared (c.self.view_is ∙ c.settle.ensures) c.requires.idle in
    let count = c.len-snapshot.ensures ∙ c.self.inside.records.ok.0 in
    let began : c.begin-2.new.self ≡ with_begin (length c.self.inside.records.items) (reads_only c.args.access) c.self.inside.live
    = c.in_default.ensures.begun ∙ (λ i. with_begin (count i) (c.is_read_only.ensures i) c.self.inside.live) in
    let txn_is : c.in_ok-txn.txn ≡ transaction_at_begin c.self.inside.live.begun (length c.self.inside.records.items) (reads_only c.args.access) c.self.inside.newest
    = c.in_ok-txn.ensures ∙ (λ i. transaction_at_begin (c.next_begin_number-number.ensures i) (count i) (reads_only c.args.access) c.self.inside.newest) in
    subst (λ (s : CoreState). IsLive s c.in_ok-txn.txn)
    (λ i. record (idle_core c.self.inside.limit c.self.inside.loaded c.self.inside.records.items c.self.inside.refused.items (sym began i)) { prepared = pending_of (sym idle i) })
    (subst (IsLive (with_begun (reads_only c.args.access) now)) (sym txn_is) (begun_live now c.self.inside.newest c.self.inside.places.items c.self.inside.reaches.items c.self.inside.order.items c.self.invariant.0 (reads_only c.args.access)))
