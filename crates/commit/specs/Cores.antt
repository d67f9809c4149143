-- The committed transactions, and what the next one is answered (Cahill, Röhm and Fekete 2008; Ports and Grittner
-- 2012; that the first of two writers of a row to commit wins is the rule of snapshot isolation: Berenson and
-- others 1995).
use Rattle.std.specs.Prelude.{◌≡◌, ◌≢◌, ◌≤◌, ◌+◌, ◌==◌, ◌++◌, ℕ, Bool, true, false, List, [], ◌∷◌, length, map, reverse, slice_get, Option, Some, None, Result, Ok, Err, Contains, IsPermutation}
use Rattle.value.specs.declared.refusals.Party.{Party}
use Rattle.value.specs.declared.refusals.Party.TheVariants.{This, Number as Numbered}
use Rattle.value.specs.declared.refusals.Refusal.{Refusal}
use Rattle.value.specs.declared.refusals.Refusal.TheVariants.{NoMemory, EpochFull, WriteConflict, Dangerous}
use Rattle.value.specs.declared.values.Value.{Value}
use Rattle.table.specs.Rows.{names_of}
use Rattle.assertion.specs.Declarations.{Declared}
use Rattle.assertion.specs.Meaning.{State}
use Rattle.alone.specs.declared.answers.RefusedCommit.{RefusedCommit}
use Rattle.delta.specs.Views.{ViewState}
use Rattle.siread.specs.declared.keys.LockKey.{LockKey}
use Rattle.siread.specs.Locks.{Reads, reads_above, with_reader}
use Rattle.conflict.specs.declared.open_snapshots.LiveSnapshot.{LiveSnapshot}
use Rattle.conflict.specs.Live.{LiveState, least_writing, may_another_ask, with_begin, without}
use Rattle.alone.specs.declared.records.Record.{Record}
use Rattle.alone.specs.Commits.{reach}
use Rattle.alone.specs.Answer.{IsAnswer, Number, WriteConflict as Overwrites, Dangerous as Triple}
use Rattle.alone.specs.Epoch.{AnswersAgain, AreRecorded, AreSound, EndsNewest, newest, state_of}
use Rattle.alone.specs.Order.{serial_order}
use Rattle.conflict.specs.Readers.{reads_of}
use Rattle.txn.specs.Transactions.{OpenTransaction, keys_of, outcome_of}

-- a transaction whose commit is prepared, and its session
pub record PendingCommit : Type 0 where
  pub session : List ℕ
  pub txn : OpenTransaction

-- what was declared and the rows to begin with, the commits in the order of their numbers, the commits that were
-- refused, the snapshots of the open transactions, and the commit that is prepared, if one is
pub record CoreState : Type 0 where
  pub limit : ℕ
  pub declared : Declared
  pub start : State
  pub records : List Record
  pub refused : List RefusedCommit
  pub live : LiveState
  pub prepared : Option PendingCommit

-- the commits, the newest first
abbrev pub log_of : CoreState → List Record
log_of c = reverse c.records

-- the tables after all commits
abbrev pub newest_tables : CoreState → ViewState
newest_tables c = record { declared = c.declared; state = newest c.declared c.start (log_of c) }

-- the numbers of the commits in their serial order
abbrev pub order_of : CoreState → List ℕ
order_of c = map (λ (r : Record). r.number) (serial_order (log_of c))

-- a transaction that began on the tables after so many commits, and has not ended
pub record IsLive (c : CoreState) (t : OpenTransaction) : Type 0 where
  pub held : Contains c.live.snapshots
      (record { begin_number = t.begin_number; snapshot = t.snapshot; read_only = t.read_only })
  pub declared_is : t.declared ≡ c.declared
  pub within : t.snapshot ≤ length c.records
  pub start_is : t.start ≡ state_of c.declared c.start (log_of c) t.snapshot

-- a transaction as the commit with a number
abbrev pub record_with : (number : ℕ) → List ℕ → OpenTransaction → Record
record_with number session t = record {
  number = number;
  snapshot = t.snapshot;
  read_only = t.read_only;
  session = session;
  trace = t.trace;
  reads = keys_of t;
  changes = (outcome_of t).changes;
}

-- a transaction as the commit that it would be
abbrev pub record_of : CoreState → List ℕ → OpenTransaction → Record
record_of c session t = record_with (length c.records + 1) session t

-- the commit is the pivot of the triple that is named, or its reader
abbrev pub IsDangerNamed : List Record → Record → Party → Party → Party → Type 0
IsDangerNamed log commit (Numbered reader) This (Numbered writer) =
    IsAnswer log commit (Triple reader commit.number writer)
IsDangerNamed log commit This (Numbered pivot) (Numbered writer) =
    IsAnswer log commit (Triple commit.number pivot writer)
IsDangerNamed log commit reader pivot writer = ⊥

-- the row of a write conflict, by the name of its table
pub record IsConflictNamed (c : CoreState) (commit : Record) (name : List ℕ) (key : Value) (by : ℕ) : Type 0 where
  pub table : ℕ
  pub named : slice_get (names_of c.declared.tables) table ≡ Some name
  pub answer : IsAnswer (log_of c) commit (Overwrites (record { table = table; key = key }) by)

-- what the commits before it make of the next: its number, or the write conflict, or the dangerous triple that it
-- would complete
abbrev pub IsJudged : CoreState → Record → Result ℕ Refusal → Type 0
IsJudged c commit (Ok number) = IsAnswer (log_of c) commit (Number number)
IsJudged c commit (Err (WriteConflict name key by)) = IsConflictNamed c commit name key by
IsJudged c commit (Err (Dangerous reader pivot writer)) = IsDangerNamed (log_of c) commit reader pivot writer
IsJudged c commit (Err refusal) = ⊥

-- the first that holds: an assertion is false on the transaction's own view, the epoch is full, or what the commits
-- before it make of it
abbrev pub IsDecided : CoreState → Record → Option Refusal → Bool → Result ℕ Refusal → Type 0
IsDecided c commit (Some refusal) full answer = answer ≡ Err refusal
IsDecided c commit None true answer = answer ≡ Err EpochFull
IsDecided c commit None false answer = IsJudged c commit answer

-- what COMMIT is answered
abbrev pub IsCommitAnswer : CoreState → List ℕ → OpenTransaction → Result ℕ Refusal → Type 0
IsCommitAnswer c session t answer =
    IsDecided c (record_of c session t) (outcome_of t).refused (length c.records == c.limit) answer

-- a transaction more that has begun, read only or not, or one less
abbrev pub with_begun : (read_only : Bool) → CoreState → CoreState
with_begun read_only c = record c { live = with_begin (length c.records) read_only c.live }

-- a transaction less among those that are live
abbrev pub core_after_end : CoreState → OpenTransaction → CoreState
core_after_end c t = record c { live = without t.begin_number c.live }

-- one commit more, or one refused commit more
abbrev pub with_commit : CoreState → Record → CoreState
with_commit c commit = record c { records = c.records ++ commit ∷ [] }

-- one refused COMMIT more
abbrev pub with_refusal : CoreState → List ℕ → Refusal → CoreState
with_refusal c session refusal =
    record c { refused = c.refused ++ record { session = session; refusal = refusal } ∷ [] }

-- a transaction is the next commit, or is refused; either ends it
abbrev pub core_after_commit : CoreState → List ℕ → OpenTransaction → CoreState
core_after_commit c session t = core_after_end (with_commit c (record_of c session t)) t

-- the COMMIT of a transaction is refused, which ends it
abbrev pub refused_to : CoreState → List ℕ → OpenTransaction → Refusal → CoreState
refused_to c session t refusal = core_after_end (with_refusal c session refusal) t

-- its commit is prepared, or none is
abbrev pub with_prepared : CoreState → List ℕ → OpenTransaction → CoreState
with_prepared c session t = record c { prepared = Some (record { session = session; txn = t }) }

-- no commit is prepared
abbrev pub without_prepared : CoreState → CoreState
without_prepared c = record c { prepared = None }

-- what is prepared is made the next commit
abbrev pub finished_by : Option PendingCommit → CoreState → CoreState
finished_by None c = c
finished_by (Some p) c = core_after_commit (without_prepared c) p.session p.txn

-- what is prepared, if a commit is, is made the next commit
abbrev pub core_after_finish : CoreState → CoreState
core_after_finish c = finished_by c.prepared c

-- or is given up, and the transaction given back
abbrev pub pending_txn : Option PendingCommit → Option OpenTransaction
pending_txn None = None
pending_txn (Some p) = Some p.txn

-- for each key the commits that read it, as far as they reach past the snapshot of an open transaction that may write
abbrev pub reads_kept : CoreState → Reads
reads_kept c =
    reads_above (least_writing (length c.records) c.live.snapshots) (map reach c.records) (reads_of c.records)

-- how far a transaction reaches as the commit with a number
abbrev pub reach_with : (number : ℕ) → OpenTransaction → ℕ
reach_with number t = reach (record_with number [] t)

-- with a commit's reads, or without them
abbrev pub reads_noted : Bool → (number : ℕ) → List LockKey → Reads → Reads
reads_noted true number keys reads = with_reader number keys reads
reads_noted false number keys reads = reads

-- with what a transaction has read, as the commit with a number, where another one that is open may ask for it
abbrev pub reads_asked : List LiveSnapshot → OpenTransaction → (number : ℕ) → Reads → Reads
reads_asked snapshots t number reads =
    reads_noted (may_another_ask t.begin_number (reach_with number t) snapshots) number (keys_of t) reads

-- and so with what the one that is prepared has read
abbrev pub reads_with : List LiveSnapshot → Option PendingCommit → (number : ℕ) → Reads → Reads
reads_with snapshots None number reads = reads
reads_with snapshots (Some p) number reads = reads_asked snapshots p.txn number reads

-- for each key the commits that read it, as far as they are kept, and the one that is prepared, as far as another open
-- transaction may ask for it
abbrev pub locks_of : CoreState → Reads
locks_of c = reads_with c.live.snapshots c.prepared (length c.records + 1) (reads_kept c)

-- a refused COMMIT gives the transaction back where it found no memory, and nothing has changed; else it has ended
-- the transaction
abbrev pub IsUncommitted : CoreState → List ℕ → OpenTransaction → Refusal → Option OpenTransaction → CoreState → Type 0
IsUncommitted c session t refusal (Some back) after = (refusal ≡ NoMemory) × (back ≡ t) × (after ≡ c)
IsUncommitted c session t refusal None after =
    (refusal ≢ NoMemory) × IsCommitAnswer c session t (Err refusal) × (after ≡ refused_to c session t refusal)

-- The serial order has each commit once. The tables after each number of commits make no assertion false. The
-- committed transactions, run alone in the serial order, answer what they were answered on their snapshots, and
-- leave the newest tables.
pub record IsSerializable (c : CoreState) : Type 0 where
  pub once : IsPermutation (log_of c) (serial_order (log_of c))
  pub sound : AreSound c.declared c.start (log_of c)
  pub again : AnswersAgain c.declared c.start (log_of c)
  pub newest : EndsNewest c.declared c.start (log_of c)
  pub recorded : AreRecorded c.declared c.start (log_of c)
