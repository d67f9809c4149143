-- An event more: the commits were again each accepted over those before it, and the open transactions are live. Definitions alone.
use Rattle.std.proofs.Common.{◌≡◌, ◌+◌, ◌<◌, ◌≤◌, ℕ, Bool, true, false, cond, List, [], ◌∷◌, length, get_or, Option, Some, None, Result, Ok, Err, inl, inr, refl, sym, ap, ◌∙◌, subst, arith}
use Rattle.std.specs.Prelude.{◌==◌, slice_get}
use Rattle.std.specs.List.{list_all}
use Rattle.std.specs.Str.{bytes_eq}
use Rattle.std.proofs.lemmas.Bool.{eqb-false}
use Rattle.std.proofs.lemmas.List.{length-append}
use Rattle.std.proofs.lemmas.List.Elements.{All-nil}
use Rattle.std.proofs.lemmas.List.Quantifiers.{position-Some}
use Rattle.std.proofs.lemmas.Option.{slice_get-get_or}
use Rattle.value.specs.Ordered.{HoldsOf}
use Rattle.value.specs.declared.refusals.Refusal.{Refusal}
use Rattle.syntax.specs.declared.statements.Statement.{Statement}
use Rattle.syntax.specs.declared.statements.ScriptLine.{ScriptLine}
use Rattle.syntax.specs.declared.statements.Event.{Event}
use Rattle.syntax.specs.declared.statements.Event.TheVariants.{Begin, BeginReadOnly, Commit, Rollback, Run}
use Rattle.alone.specs.declared.answers.Answer.{Answer}
use Rattle.alone.specs.declared.answers.Answer.TheVariants.{Begun, Committed, Refused, Replied, RolledBack}
use Rattle.alone.specs.Alone.{IsSound}
use Rattle.alone.specs.Resolve.{is_read_only, resolution_of}
use Rattle.alone.proofs.ReadOnly.{changes_nothing, one_more, resolved_reads}
use Rattle.delta.specs.Views.{ViewState}
use Rattle.conflict.specs.declared.open_snapshots.LiveSnapshot.{LiveSnapshot}
use Rattle.conflict.specs.Live.{has_begin_number}
use Rattle.alone.specs.Commits.{IsLog}
use Rattle.alone.specs.Epoch.{IsEpoch}
use Rattle.txn.specs.Transactions.{OpenTransaction, outcome_of, transaction_at_begin, with_statement}
use Rattle.commit.specs.declared.seats.Seat.{Seat}
use Rattle.commit.specs.Cores.{CoreState, IsCommitAnswer, IsLive, core_after_commit, log_of, newest_tables, record_of, with_begun}
use Rattle.commit.specs.Events.{AreLive, EngineState, IsAnswered, IsAnsweredAt, IsReply, IsCommitted, after, after_at, commit_answer, core_after, decided_core, found_no_memory, seat_of, seats_set, txn_after, txn_of, txn_with}
use Rattle.commit.specs.Runs.{beginning, empty_core, free_seat, led_to}
use Rattle.commit.proofs.Deciding.{Passed, passed}
use Rattle.commit.proofs.Living.{all_answered, all_free, all_seated_live, each_set, either_way}
use Rattle.commit.proofs.Recording.{begin_live, epoch_next, log_with}

-- what holds of the commits between two events
pub record AreEpoch (core : CoreState) : Type 0 where
  pub epoch : IsEpoch core.declared core.start (log_of core)
  pub within : length core.records ≤ core.limit

-- a transaction that is read only has run no statement that changes rows
abbrev ReadsOnly : OpenTransaction → Type 0
ReadsOnly t = t.read_only ≡ true → list_all is_read_only t.trace ≡ true

abbrev EachReadsOnly : List Seat → Type 0
EachReadsOnly seats = (place : ℕ) (t : OpenTransaction) → txn_of (slice_get seats place) ≡ Some t → ReadsOnly t

-- and of the open transactions
pub record IsRunning (now : EngineState) : Type 0 where
  pub commits : AreEpoch now.core
  pub live : AreLive now.core now.seats
  pub reads_only : EachReadsOnly now.seats

-- an accepted COMMIT was decided so
accepted_by : (core : CoreState) (session : List ℕ) (t : OpenTransaction) (number : ℕ) (result : Result ℕ Refusal) → IsCommitAnswer core session t result → Committed number ≡ commit_answer result
    → Passed core (record_of core session t) (outcome_of t).refused (length core.records == core.limit) number
accepted_by core session t number (Ok n) decided is =
    let same : n ≡ number = cc in
    subst (Passed core (record_of core session t) (outcome_of t).refused (length core.records == core.limit)) same
    (passed core (record_of core session t) (outcome_of t).refused (length core.records == core.limit) n decided)
accepted_by core session t number (Err refusal) decided is = let no : ⊥ = cc in absurd no

pub accepts : (core : CoreState) (session : List ℕ) (t : OpenTransaction) (number : ℕ) → IsCommitted core session t (Committed number)
    → Passed core (record_of core session t) (outcome_of t).refused (length core.records == core.limit) number
accepts core session t number h = accepted_by core session t number h.result h.decided h.is

epoch_committed : (core : CoreState) (session : List ℕ) (t : OpenTransaction) (number : ℕ) → AreEpoch core → IsLive core t → ReadsOnly t → IsCommitted core session t (Committed number) → AreEpoch (core_after_commit core session t)
epoch_committed core session t number h live reads answered =
    let p = accepts core session t number answered in
    let same : number ≡ length core.records + 1 = p.answer.0 in
    record {
      epoch = subst (IsEpoch core.declared core.start) (sym (log_with core.records (record_of core session t)))
          (epoch_next core session t live h.epoch (refl, p.answer.1, p.answer.2) p.satisfied (λ only. changes_nothing t.declared t.trace t.start (reads only)));
      within = (let within = h.within in let long = length-append core.records (record_of core session t ∷ []) in let other = eqb-false _ _ p.room in omega arith);
    }

epoch_decided : (core : CoreState) (session : List ℕ) (t : OpenTransaction) (answer : Answer) → AreEpoch core → IsLive core t → ReadsOnly t → IsCommitted core session t answer → AreEpoch (decided_core core session t answer)
epoch_decided core session t (Begun number) h live reads answered = h
epoch_decided core session t (Replied reply) h live reads answered = h
epoch_decided core session t (Committed number) h live reads answered = epoch_committed core session t number h live reads answered
epoch_decided core session t RolledBack h live reads answered = h
epoch_decided core session t (Refused refusal) h live reads answered = record { epoch = h.epoch; within = h.within }

epoch_after : (core : CoreState) (session : List ℕ) (event : Event) (txn : Option OpenTransaction) (answer : Answer) → AreEpoch core → HoldsOf (IsLive core) txn → HoldsOf ReadsOnly txn → IsReply core session event txn answer
    → AreEpoch (core_after core session event txn answer)
epoch_after core session Begin None answer h live reads reply =
    either_way AreEpoch (has_begin_number core.live) (with_begun false core) core (record { epoch = h.epoch; within = h.within }) h
epoch_after core session Begin (Some t) answer h live reads reply = h
epoch_after core session BeginReadOnly None answer h live reads reply =
    either_way AreEpoch (has_begin_number core.live) (with_begun true core) core (record { epoch = h.epoch; within = h.within }) h
epoch_after core session BeginReadOnly (Some t) answer h live reads reply = h
epoch_after core session (Run statement) txn answer h live reads reply = h
epoch_after core session Commit None answer h live reads reply = h
epoch_after core session Commit (Some t) answer h live reads reply = epoch_decided core session t answer h live reads reply
epoch_after core session Rollback None answer h live reads reply = h
epoch_after core session Rollback (Some t) answer h live reads reply = record { epoch = h.epoch; within = h.within }

-- a transaction with a statement more is live as it was
live_with : (core : CoreState) (statement : Statement) (txn : Option OpenTransaction) → HoldsOf (IsLive core) txn → HoldsOf (IsLive core) (txn_with statement txn)
live_with core statement None live = tt
live_with core statement (Some t) live = record { held = live.held; declared_is = live.declared_is; within = live.within; start_is = live.start_is }

-- a transaction that has just begun is live, and there is none where it has not
begun_or_not : (core : CoreState) → IsLog (log_of core) → (read_only : Bool) (room : Bool)
    → HoldsOf (IsLive (cond room (with_begun read_only core) core)) (cond room (Some (transaction_at_begin core.live.begun (length core.records) read_only (newest_tables core))) None)
begun_or_not core accepted read_only true = begin_live core accepted read_only
begun_or_not core accepted read_only false = tt

own_live : (core : CoreState) (session : List ℕ) (event : Event) (txn : Option OpenTransaction) (answer : Answer) → AreEpoch core → HoldsOf (IsLive core) txn
    → HoldsOf (IsLive (core_after core session event txn answer)) (txn_after core event txn)
own_live core session Begin None answer h live = begun_or_not core h.epoch.accepted false (has_begin_number core.live)
own_live core session Begin (Some t) answer h live = live
own_live core session BeginReadOnly None answer h live = begun_or_not core h.epoch.accepted true (has_begin_number core.live)
own_live core session BeginReadOnly (Some t) answer h live = live
own_live core session (Run statement) txn answer h live = live_with core statement txn live
own_live core session Commit None answer h live = tt
own_live core session Commit (Some t) answer h live = tt
own_live core session Rollback None answer h live = tt
own_live core session Rollback (Some t) answer h live = tt

-- nor does it run one
reads_only_with : (t : OpenTransaction) (statement : Statement) → ReadsOnly t → ReadsOnly (with_statement t (resolution_of t.declared t.read_only statement))
reads_only_with t statement reads only =
    one_more t.trace (resolution_of t.declared t.read_only statement) (reads only)
    (subst (λ b. is_read_only (resolution_of t.declared b statement) ≡ true) (sym only) (resolved_reads t.declared statement))

-- and one that has just begun has run none
reads_only_begun : (core : CoreState) (read_only room : Bool) → HoldsOf ReadsOnly (cond room (Some (transaction_at_begin core.live.begun (length core.records) read_only (newest_tables core))) None)
reads_only_begun core read_only true = λ only. refl
reads_only_begun core read_only false = tt

own_reads_only : (core : CoreState) (event : Event) (txn : Option OpenTransaction) → HoldsOf ReadsOnly txn → HoldsOf ReadsOnly (txn_after core event txn)
own_reads_only core Begin None reads = reads_only_begun core false (has_begin_number core.live)
own_reads_only core Begin (Some t) reads = reads
own_reads_only core BeginReadOnly None reads = reads_only_begun core true (has_begin_number core.live)
own_reads_only core BeginReadOnly (Some t) reads = reads
own_reads_only core (Run statement) None reads = tt
own_reads_only core (Run statement) (Some t) reads = reads_only_with t statement reads
own_reads_only core Commit txn reads = tt
own_reads_only core Rollback txn reads = tt

-- what stands in a seat is live
seat_live : (now : EngineState) (place : ℕ) (txn : Option OpenTransaction) → AreLive now.core now.seats → txn_of (slice_get now.seats place) ≡ txn → HoldsOf (IsLive now.core) txn
seat_live now place None live e = tt
seat_live now place (Some t) live e = live.each place t e

seat_reads_only : (now : EngineState) (place : ℕ) (txn : Option OpenTransaction) → EachReadsOnly now.seats → txn_of (slice_get now.seats place) ≡ txn → HoldsOf ReadsOnly txn
seat_reads_only now place None reads e = tt
seat_reads_only now place (Some t) reads e = reads place t e

-- a session's seat is there, and is its own
pub record HasSeat (seats : List Seat) (session : List ℕ) (place : ℕ) : Type 0 where
  pub seat : Seat
  pub within : place < length seats
  pub there : slice_get seats place ≡ Some seat
  pub own : bytes_eq seat.session session ≡ true

pub has_seat : (seats : List Seat) (session : List ℕ) (place : ℕ) → seat_of seats session ≡ Some place → HasSeat seats session place
has_seat seats session place e =
    let some : Seat = free_seat session in
    let found = position-Some (λ (seat : Seat). bytes_eq seat.session session) seats place some e in
    record { seat = get_or seats place some; within = found.0; there = slice_get-get_or seats place some found.0; own = found.1 }

-- an event of a session that has a seat
module _ (now : EngineState) (line : ScriptLine) (answer : Answer) where
  -- what it leaves, by what stands in the seat
  abbrev pub left_by : ℕ → Option Seat → EngineState
  left_by place seat = record {
    core = core_after now.core line.session line.event (txn_of seat) answer;
    seats = seats_set now.seats place (txn_after now.core line.event (txn_of seat)) seat;
  }

  running_seated : (place : ℕ) (seat : Seat) → place < length now.seats → slice_get now.seats place ≡ Some seat → IsRunning now → IsReply now.core line.session line.event seat.txn answer
      → IsRunning (left_by place (Some seat))
  running_seated place seat within there h reply =
      let own = seat_live now place seat.txn h.live (ap txn_of there) in
      let reads = seat_reads_only now place seat.txn h.reads_only (ap txn_of there) in record {
        commits = epoch_after now.core line.session line.event seat.txn answer h.commits own reads reply;
        live = all_answered now line place seat (core_after now.core line.session line.event seat.txn answer) (record seat { txn = txn_after now.core line.event seat.txn })
            h.live within there answer refl refl (own_live now.core line.session line.event seat.txn answer h.commits own);
        reads_only = each_set ReadsOnly now.seats place (record seat { txn = txn_after now.core line.event seat.txn }) within h.reads_only (own_reads_only now.core line.event seat.txn reads);
      }

  running_at : (place : Option ℕ) → seat_of now.seats line.session ≡ place → IsRunning now → IsAnsweredAt now line.session line.event place answer → IsRunning (after_at now line.session line.event place answer)
  running_at None e h reply = h
  running_at (Some place) e h reply =
      let seat = has_seat now.seats line.session place e in
      subst (λ s. IsRunning (left_by place s)) (sym seat.there)
      (running_seated place seat.seat seat.within seat.there h (subst (λ s. IsReply now.core line.session line.event (txn_of s) answer) seat.there reply))

  pub running_after : IsRunning now → IsAnswered now line answer → IsRunning (after now line answer)
  running_after h answered = go (found_no_memory answer) refl answered
    where
      go : (b : Bool) → found_no_memory answer ≡ b → IsAnswered now line answer → IsRunning (cond b now (after_at now line.session line.event (seat_of now.seats line.session) answer))
      go true e a = h
      go false e (inl none) = let yes : found_no_memory answer ≡ true = ap found_no_memory none.is in let no : ⊥ = cc in absurd no
      go false e (inr at) = running_at (seat_of now.seats line.session) refl h at

-- before the first event
pub running_first : (limit : ℕ) (loaded : ViewState) (all : List ScriptLine) → IsSound loaded.declared loaded.state → IsRunning (beginning limit loaded all)
running_first limit loaded all sound = record {
  commits = record { epoch = record { admitted = sound; accepted = tt; history = tt }; within = omega arith };
  live = all_seated_live (empty_core limit loaded) all (All-nil (λ (one : LiveSnapshot). one.begin_number < 0)) refl;
  reads_only = λ place t h. let e = all_free [] all (λ place. refl) place in let no : ⊥ = cc in absurd no;
}

-- ---- what was loaded stays

abbrev pub loaded_of : CoreState → ViewState
loaded_of core = record { declared = core.declared; state = core.start }

loaded_decided : (core : CoreState) (session : List ℕ) (t : OpenTransaction) (answer : Answer) → loaded_of (decided_core core session t answer) ≡ loaded_of core
loaded_decided core session t (Begun number) = refl
loaded_decided core session t (Replied reply) = refl
loaded_decided core session t (Committed number) = refl
loaded_decided core session t RolledBack = refl
loaded_decided core session t (Refused refusal) = refl

loaded_after : (core : CoreState) (session : List ℕ) (event : Event) (txn : Option OpenTransaction) (answer : Answer) → loaded_of (core_after core session event txn answer) ≡ loaded_of core
loaded_after core session Begin None answer = either_way (λ (c : CoreState). loaded_of c ≡ loaded_of core) (has_begin_number core.live) (with_begun false core) core refl refl
loaded_after core session Begin (Some t) answer = refl
loaded_after core session BeginReadOnly None answer = either_way (λ (c : CoreState). loaded_of c ≡ loaded_of core) (has_begin_number core.live) (with_begun true core) core refl refl
loaded_after core session BeginReadOnly (Some t) answer = refl
loaded_after core session (Run statement) txn answer = refl
loaded_after core session Commit None answer = refl
loaded_after core session Commit (Some t) answer = loaded_decided core session t answer
loaded_after core session Rollback None answer = refl
loaded_after core session Rollback (Some t) answer = refl

loaded_at : (now : EngineState) (line : ScriptLine) (answer : Answer) (place : Option ℕ) → loaded_of (after_at now line.session line.event place answer).core ≡ loaded_of now.core
loaded_at now line answer None = refl
loaded_at now line answer (Some place) = loaded_after now.core line.session line.event (txn_of (slice_get now.seats place)) answer

loaded_over_line : (now : EngineState) (line : ScriptLine) (answer : Answer) → loaded_of (after now line answer).core ≡ loaded_of now.core
loaded_over_line now line answer = go (found_no_memory answer)
  where
    go : (b : Bool) → loaded_of (cond b now (after_at now line.session line.event (seat_of now.seats line.session) answer)).core ≡ loaded_of now.core
    go true = refl
    go false = loaded_at now line answer (seat_of now.seats line.session)

pub loaded_led : (now : EngineState) (lines : List ScriptLine) (answers : List Answer) → loaded_of (led_to now lines answers).core ≡ loaded_of now.core
loaded_led now [] answers = refl
loaded_led now (line ∷ rest) [] = refl
loaded_led now (line ∷ rest) (answer ∷ more) = loaded_led (after now line answer) rest more ∙ loaded_over_line now line answer
