-- What each event of a session is answered, and what it leaves.
use Rattle.std.specs.Prelude.{◌≡◌, ◌⊎◌, ℕ, Bool, true, false, List, length, remove, slice_get, slice_set, Option, Some, None, is_none, is_some, Result, Ok, Err, if◌then◌else◌}
use Rattle.std.specs.List.{position}
use Rattle.std.specs.Str.{bytes_eq}
use Rattle.value.specs.declared.refusals.Refusal.{Refusal}
use Rattle.value.specs.declared.refusals.Refusal.TheVariants.{EpochFull, NoMemory, NoTransaction, TooManySessions, TransactionOpen}
use Rattle.syntax.specs.declared.statements.Statement.{Statement}
use Rattle.syntax.specs.declared.statements.ScriptLine.{ScriptLine}
use Rattle.syntax.specs.declared.statements.Event.{Event}
use Rattle.syntax.specs.declared.statements.Event.TheVariants.{Begin, BeginReadOnly, Commit, Rollback, Run}
use Rattle.alone.specs.declared.answers.Answer.{Answer}
use Rattle.alone.specs.declared.answers.Answer.TheVariants.{Begun, Committed, Refused, Replied, RolledBack}
use Rattle.alone.specs.declared.answers.Reply.{Reply}
use Rattle.alone.specs.Resolve.{resolution_of}
use Rattle.conflict.specs.Live.{AreBelow, has_begin_number}
use Rattle.txn.specs.Transactions.{OpenTransaction, transaction_at_begin, step_of, with_statement}
use Rattle.commit.specs.declared.seats.Seat.{Seat}
use Rattle.commit.specs.Cores.{CoreState, IsCommitAnswer, IsLive, core_after_commit, core_after_end, newest_tables, refused_to, with_begun}

-- the committed transactions, and the sessions with the open ones
pub record EngineState : Type 0 where
  pub core : CoreState
  pub seats : List Seat

-- the place of a session's seat
abbrev pub seat_of : List Seat → List ℕ → Option ℕ
seat_of seats session = position (λ seat. bytes_eq seat.session session) seats

-- the open transaction of a seat, if one is open
abbrev pub txn_of : Option Seat → Option OpenTransaction
txn_of None = None
txn_of (Some seat) = seat.txn

-- Each open transaction began on the tables after some number of commits, and has not ended; no two have one
-- begin number; and no commit is prepared.
pub record AreLive (core : CoreState) (seats : List Seat) : Type 0 where
  pub each : (place : ℕ) (t : OpenTransaction) → txn_of (slice_get seats place) ≡ Some t → IsLive core t
  pub apart : (place other : ℕ) (t u : OpenTransaction) → txn_of (slice_get seats place) ≡ Some t
      → txn_of (slice_get seats other) ≡ Some u → t.begin_number ≡ u.begin_number → place ≡ other
  pub begun : AreBelow core.live.begun core.live.snapshots
  pub idle : core.prepared ≡ None

-- the answer to a statement
abbrev pub answer_of : Result Reply Refusal → Answer
answer_of (Ok reply) = Replied reply
answer_of (Err refusal) = Refused refusal

-- the answer to a COMMIT
abbrev pub commit_answer : Result ℕ Refusal → Answer
commit_answer (Ok number) = Committed number
commit_answer (Err refusal) = Refused refusal

-- a COMMIT is answered as the commits before it decide
pub record IsCommitted (core : CoreState) (session : List ℕ) (t : OpenTransaction) (answer : Answer) : Type 0 where
  pub result : Result ℕ Refusal
  pub decided : IsCommitAnswer core session t result
  pub is : answer ≡ commit_answer result

-- a transaction begins on the newest tables, while there is a begin number for it
abbrev pub begin_answer : CoreState → Option OpenTransaction → Answer
begin_answer core None = if has_begin_number core.live then Begun (length core.records) else Refused EpochFull
begin_answer core (Some t) = Refused TransactionOpen

-- a statement is answered as alone in the transaction, whose trace then holds it
abbrev pub run_answer : Statement → Option OpenTransaction → Answer
run_answer statement None = Refused NoTransaction
run_answer statement (Some t) = answer_of (step_of t (resolution_of t.declared t.read_only statement)).reply

-- the transaction, if one is open, with the statement in its trace
abbrev pub txn_with : Statement → Option OpenTransaction → Option OpenTransaction
txn_with statement None = None
txn_with statement (Some t) = Some (with_statement t (resolution_of t.declared t.read_only statement))

-- what ROLLBACK is answered
abbrev pub rollback_answer : Option OpenTransaction → Answer
rollback_answer None = Refused NoTransaction
rollback_answer (Some t) = RolledBack

-- what an event is answered in a session with this transaction open, or none
abbrev pub IsReply : CoreState → List ℕ → Event → Option OpenTransaction → Answer → Type 0
IsReply core session Begin txn answer = answer ≡ begin_answer core txn
IsReply core session BeginReadOnly txn answer = answer ≡ begin_answer core txn
IsReply core session (Run statement) txn answer = answer ≡ run_answer statement txn
IsReply core session Commit None answer = answer ≡ Refused NoTransaction
IsReply core session Commit (Some t) answer = IsCommitted core session t answer
IsReply core session Rollback txn answer = answer ≡ rollback_answer txn

-- the transaction that is open then, if one is
abbrev pub txn_after_begin : CoreState → (read_only : Bool) → Option OpenTransaction → Option OpenTransaction
txn_after_begin core read_only None =
    if has_begin_number core.live
    then Some (transaction_at_begin core.live.begun (length core.records) read_only (newest_tables core))
    else None
txn_after_begin core read_only (Some t) = Some t

-- the transaction that is open after an event, if one is
abbrev pub txn_after : CoreState → Event → Option OpenTransaction → Option OpenTransaction
txn_after core Begin txn = txn_after_begin core false txn
txn_after core BeginReadOnly txn = txn_after_begin core true txn
txn_after core (Run statement) txn = txn_with statement txn
txn_after core Commit txn = None
txn_after core Rollback txn = None

-- the commits and the open transactions then
abbrev pub decided_core : CoreState → List ℕ → OpenTransaction → Answer → CoreState
decided_core core session t (Committed number) = core_after_commit core session t
decided_core core session t (Refused refusal) = refused_to core session t refusal
decided_core core session t answer = core

-- the commits after BEGIN: where no transaction was open, one more is live
abbrev pub core_after_begin : CoreState → (read_only : Bool) → Option OpenTransaction → CoreState
core_after_begin core read_only None = if has_begin_number core.live then with_begun read_only core else core
core_after_begin core read_only (Some t) = core

-- the commits after an event
abbrev pub core_after : CoreState → List ℕ → Event → Option OpenTransaction → Answer → CoreState
core_after core session Begin txn answer = core_after_begin core false txn
core_after core session BeginReadOnly txn answer = core_after_begin core true txn
core_after core session (Run statement) txn answer = core
core_after core session Commit None answer = core
core_after core session Commit (Some t) answer = decided_core core session t answer
core_after core session Rollback None answer = core
core_after core session Rollback (Some t) answer = core_after_end core t

-- the seats with this transaction in one of them, or none there
abbrev pub seats_set : List Seat → ℕ → Option OpenTransaction → Option Seat → List Seat
seats_set seats place txn None = seats
seats_set seats place txn (Some seat) = slice_set seats place (record seat { txn = txn })

-- the seats with this transaction, or none, in the one at a place
abbrev pub with_txn_at : List Seat → ℕ → Option OpenTransaction → List Seat
with_txn_at seats place txn = seats_set seats place txn (slice_get seats place)

-- the commits after a session has left: its open transaction, if it has one, is rolled back
abbrev pub core_without : CoreState → Option OpenTransaction → CoreState
core_without core None = core
core_without core (Some t) = core_after_end core t

-- what is left where the session in a seat leaves
abbrev pub without_seat : EngineState → Option ℕ → EngineState
without_seat now None = now
without_seat now (Some place) = record {
  core = core_without now.core (txn_of (slice_get now.seats place));
  seats = remove now.seats place;
}

-- what is left where a session leaves; its seat is free then for another
abbrev pub without_session : EngineState → List ℕ → EngineState
without_session now session = without_seat now (seat_of now.seats session)

-- what an event of the session in a seat is answered; a session without a seat is refused
abbrev pub IsAnsweredAt : EngineState → List ℕ → Event → Option ℕ → Answer → Type 0
IsAnsweredAt now session event None answer = answer ≡ Refused TooManySessions
IsAnsweredAt now session event (Some place) answer =
    IsReply now.core session event (txn_of (slice_get now.seats place)) answer

-- what it leaves
abbrev pub after_at : EngineState → List ℕ → Event → Option ℕ → Answer → EngineState
after_at now session event None answer = now
after_at now session event (Some place) answer = record {
  core = core_after now.core session event (txn_of (slice_get now.seats place)) answer;
  seats = with_txn_at now.seats place (txn_after now.core event (txn_of (slice_get now.seats place)));
}

-- an answer, or that there was no memory for one
abbrev pub as_answer : {E : Type 0} → Result Answer E → Answer
as_answer (Ok answer) = answer
as_answer (Err error) = Refused NoMemory

-- whether no memory was found
abbrev pub is_no_memory : Refusal → Bool
is_no_memory NoMemory = true
is_no_memory refusal = false

-- whether an event was answered that no memory was found
abbrev pub found_no_memory : Answer → Bool
found_no_memory (Refused refusal) = is_no_memory refusal
found_no_memory answer = false

-- whether an event takes memory: BEGIN outside a transaction, a statement and COMMIT inside one
abbrev pub takes_memory : Event → Option OpenTransaction → Bool
takes_memory Begin txn = is_none txn
takes_memory BeginReadOnly txn = is_none txn
takes_memory (Run statement) txn = is_some txn
takes_memory Commit txn = is_some txn
takes_memory Rollback txn = false

-- one of a session without a seat takes none
abbrev pub takes_memory_at : EngineState → Event → Option ℕ → Bool
takes_memory_at now event None = false
takes_memory_at now event (Some place) = takes_memory event (txn_of (slice_get now.seats place))

-- an event that takes memory may find none
pub record FindsNoMemory (now : EngineState) (line : ScriptLine) (answer : Answer) : Type 0 where
  pub takes : takes_memory_at now line.event (seat_of now.seats line.session) ≡ true
  pub is : answer ≡ Refused NoMemory

-- what an event of a session is answered
abbrev pub IsAnswered : EngineState → ScriptLine → Answer → Type 0
IsAnswered now line answer =
    FindsNoMemory now line answer ⊎ IsAnsweredAt now line.session line.event (seat_of now.seats line.session) answer

-- what it leaves; where it found no memory, all as it was
abbrev pub after : EngineState → ScriptLine → Answer → EngineState
after now line answer =
    if found_no_memory answer then now else after_at now line.session line.event (seat_of now.seats line.session) answer
