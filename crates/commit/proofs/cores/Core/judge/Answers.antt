use Rattle.std.proofs.Common.{◌≡◌, ◌<◌, ◌+◌, ◌∙◌, ℕ, [], List, ap, length, map, reverse, subst, sym}
use Rattle.std.specs.Prelude.{All, slice_index_or, vec_capacity, vec_len}
use Rattle.table.specs.declared.rows.Change.{Change}
use Rattle.table.specs.Rows.{Tables, names_of}
use Rattle.siread.specs.Locks.{readers_at}
use Rattle.alone.specs.declared.records.Record.{Record}
use Rattle.alone.specs.Commits.{reach}
use Rattle.conflict.specs.declared.verdicts.Judgment.TheVariants.{Fine, Dangerous}
use Rattle.conflict.specs.Judged.{IsConflictAt, IsJudgmentOf}
use Rattle.conflict.specs.Readers.{HasReaders}
use Rattle.txn.specs.Transactions.{OpenTransaction, outcome_of}
use Rattle.commit.specs.declared.decisions.Decision.TheVariants.{Accepted, Refused}
use Rattle.commit.specs.Cores.{CoreState, IsLive, record_of}
use Rattle.commit.specs.Decisions.{IsConflictOf, IsJudgment}
use Rattle.commit.specs.Kept.{idle_core}
use Rattle.commit.proofs.Keeping.{idle_view, is_idle, locks_idle}
use Rattle.commit.proofs.Accepting.{tables_in}
use Rattle.commit.proofs.Locking.{readers_above}
use Rattle.commit.proofs.Weighing.{judged_conflict, judged_danger, judged_fine}
use Rattle.commit.proofs.cores.Core.judge.Goals as goal

pub judge-requires-clause-readers : goal.judge-requires-clause-readers
judge-requires-clause-readers c = λ writes.
    let now = idle_core c.self.inside.limit c.self.inside.loaded c.self.inside.records.items c.self.inside.refused.items c.self.inside.live in
    let Room : Type 0 = (vec_len c.self.inside.records < vec_capacity c.self.inside.records) × (vec_len c.self.inside.places < vec_capacity c.self.inside.places) × (vec_len c.self.inside.reaches < vec_capacity c.self.inside.reaches) × (vec_len c.self.inside.order < vec_capacity c.self.inside.order) in
    let idle = is_idle now c.args.self.now c.self.inside.prepared c.self.view_is c.requires.idle in
    let is : now ≡ c.args.self.now = idle_view now c.args.self.now c.self.inside.prepared c.self.view_is c.requires.idle in
    let locks = locks_idle now c.self.inside.newest c.self.inside.places.items c.self.inside.reaches.items c.self.inside.order.items (readers_at c.self.inside.locks) Room c.self.inside.prepared idle c.self.invariant in
    let live = subst (λ (s : CoreState). IsLive s c.args.closed.now) (sym is) c.requires.live in
    let known : HasReaders (readers_at c.self.inside.locks) (map reach c.self.inside.records.items) c.self.inside.records.items c.args.closed.now.snapshot =
    readers_above now c.args.closed.now (readers_at c.self.inside.locks) live (sym (c.is_read_only.ensures ∙ ap (λ (t : OpenTransaction). t.read_only) c.txn-txn.ensures) ∙ writes) locks in
    subst (λ (far : List ℕ). HasReaders (readers_at c.self.inside.locks) far c.as_slice-records.result.now c.snapshot.result) (sym (c.as_slice-2.ensures.value ∙ c.self.invariant.0.reaches_are))
    (subst (HasReaders (readers_at c.self.inside.locks) (map reach c.self.inside.records.items) c.as_slice-records.result.now) (sym (c.snapshot.ensures ∙ ap (λ (t : OpenTransaction). t.snapshot) c.txn-txn.ensures))
    (subst (λ records. HasReaders (readers_at c.self.inside.locks) (map reach c.self.inside.records.items) records c.args.closed.now.snapshot) (sym c.as_slice-records.ensures.value) known))

pub returns-in-Fine : goal.returns-in-Fine
returns-in-Fine c = λ session.
    let now = idle_core c.self.inside.limit c.self.inside.loaded c.self.inside.records.items c.self.inside.refused.items c.self.inside.live in
    let is : now ≡ c.args.self.now = idle_view now c.args.self.now c.self.inside.prepared c.self.view_is c.requires.idle in
    subst (λ (s : CoreState). IsJudgment s (record_of s session c.args.closed.now) (Accepted c.in-Fine.place)) is
    (judged_fine now session c.args.closed.now c.in-Fine.place
    (subst (λ records. IsJudgmentOf (reverse records) (record_of now session c.args.closed.now) (Fine c.in-Fine.place)) c.as_slice-records.ensures.value
    (c.in-Fine.ensures (record_of now session c.args.closed.now) (record {
      number = ap (λ (records : List Record). length records + 1) c.as_slice-records.ensures.value;
      snapshot = (c.snapshot.ensures ∙ ap (λ (t : OpenTransaction). t.snapshot) c.txn-txn.ensures);
      read_only = (c.is_read_only.ensures ∙ ap (λ (t : OpenTransaction). t.read_only) c.txn-txn.ensures);
      reads = c.reads.ensures;
      changes = c.changes-changes.ensures.net;
    }))))

pub refuse_for_writer-requires-clause-within : goal.refuse_for_writer-requires-clause-within
refuse_for_writer-requires-clause-within c =
    let now = idle_core c.self.inside.limit c.self.inside.loaded c.self.inside.records.items c.self.inside.refused.items c.self.inside.live in
    let is : now ≡ c.args.self.now = idle_view now c.args.self.now c.self.inside.prepared c.self.view_is c.requires.idle in
    let at = c.in-WriteConflict.ensures (record_of now [] c.args.closed.now) (record {
      number = ap (λ (records : List Record). length records + 1) c.as_slice-records.ensures.value;
      snapshot = (c.snapshot.ensures ∙ ap (λ (t : OpenTransaction). t.snapshot) c.txn-txn.ensures);
      read_only = (c.is_read_only.ensures ∙ ap (λ (t : OpenTransaction). t.read_only) c.txn-txn.ensures);
      reads = c.reads.ensures;
      changes = c.changes-changes.ensures.net;
    }) in
    subst (λ (changes : List Change). c.in-WriteConflict.row < length changes) (sym c.changes-changes.ensures.net) at.within

pub refuse_for_writer-requires-clause-tables : goal.refuse_for_writer-requires-clause-tables
refuse_for_writer-requires-clause-tables c =
    let now = idle_core c.self.inside.limit c.self.inside.loaded c.self.inside.records.items c.self.inside.refused.items c.self.inside.live in
    let is : now ≡ c.args.self.now = idle_view now c.args.self.now c.self.inside.prepared c.self.view_is c.requires.idle in
    let live = subst (λ (s : CoreState). IsLive s c.args.closed.now) (sym is) c.requires.live in
    subst (λ (tables : Tables). All (λ (change : Change). change.table < length (names_of tables)) c.changes-changes.result.now) (sym c.catalog.ensures.value)
    (subst (All (λ (change : Change). change.table < length (names_of c.self.inside.loaded.declared.tables))) (sym c.changes-changes.ensures.net)
    (tables_in now c.self.inside.newest c.self.inside.places.items c.self.inside.reaches.items c.self.inside.order.items c.self.invariant.0 [] c.args.closed.now live))

pub returns-in_ok-refusal-in-WriteConflict : goal.returns-in_ok-refusal-in-WriteConflict
returns-in_ok-refusal-in-WriteConflict c = λ session.
    let now = idle_core c.self.inside.limit c.self.inside.loaded c.self.inside.records.items c.self.inside.refused.items c.self.inside.live in
    let is : now ≡ c.args.self.now = idle_view now c.args.self.now c.self.inside.prepared c.self.view_is c.requires.idle in
    subst (λ (s : CoreState). IsJudgment s (record_of s session c.args.closed.now) (Refused c.in_ok-refusal-in-WriteConflict.refusal)) is
    (judged_conflict now session c.args.closed.now c.in-WriteConflict.row c.in-WriteConflict.by c.in_ok-refusal-in-WriteConflict.refusal
    (subst (λ records. IsConflictAt (reverse records) (record_of now session c.args.closed.now) c.in-WriteConflict.row c.in-WriteConflict.by) c.as_slice-records.ensures.value
    (c.in-WriteConflict.ensures (record_of now session c.args.closed.now) (record {
      number = ap (λ (records : List Record). length records + 1) c.as_slice-records.ensures.value;
      snapshot = (c.snapshot.ensures ∙ ap (λ (t : OpenTransaction). t.snapshot) c.txn-txn.ensures);
      read_only = (c.is_read_only.ensures ∙ ap (λ (t : OpenTransaction). t.read_only) c.txn-txn.ensures);
      reads = c.reads.ensures;
      changes = c.changes-changes.ensures.net;
    })))
    (λ change. subst (λ (tables : Tables). IsConflictOf tables (slice_index_or (outcome_of c.args.closed.now).changes c.in-WriteConflict.row change) c.in-WriteConflict.by c.in_ok-refusal-in-WriteConflict.refusal) c.catalog.ensures.value
    (subst (λ (changes : List Change). IsConflictOf c.catalog.result.now (slice_index_or changes c.in-WriteConflict.row change) c.in-WriteConflict.by c.in_ok-refusal-in-WriteConflict.refusal) c.changes-changes.ensures.net
    (c.in_ok-refusal-in-WriteConflict.ensures change))))

pub returns-in-Dangerous : goal.returns-in-Dangerous
returns-in-Dangerous c = λ session.
    let now = idle_core c.self.inside.limit c.self.inside.loaded c.self.inside.records.items c.self.inside.refused.items c.self.inside.live in
    let is : now ≡ c.args.self.now = idle_view now c.args.self.now c.self.inside.prepared c.self.view_is c.requires.idle in
    subst (λ (s : CoreState). IsJudgment s (record_of s session c.args.closed.now) (Refused c.refuse_for_triple.result)) is
    (judged_danger now session c.args.closed.now c.in-Dangerous.danger c.refuse_for_triple.result c.refuse_for_triple.ensures
    (subst (λ records. IsJudgmentOf (reverse records) (record_of now session c.args.closed.now) (Dangerous c.in-Dangerous.danger)) c.as_slice-records.ensures.value
    (c.in-Dangerous.ensures (record_of now session c.args.closed.now) (record {
      number = ap (λ (records : List Record). length records + 1) c.as_slice-records.ensures.value;
      snapshot = (c.snapshot.ensures ∙ ap (λ (t : OpenTransaction). t.snapshot) c.txn-txn.ensures);
      read_only = (c.is_read_only.ensures ∙ ap (λ (t : OpenTransaction). t.read_only) c.txn-txn.ensures);
      reads = c.reads.ensures;
      changes = c.changes-changes.ensures.net;
    }))))
