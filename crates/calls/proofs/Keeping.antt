-- An engine and its journal go on together.
use Rattle.std.proofs.Common.{◌≡◌, ◌+◌, ℕ, Bool, true, false, List, Option, Some, None, Result, Ok, Err, length, refl, sym, ap, subst, inl, inr}
use Rattle.std.specs.Prelude.{IfOk, OnErr, OnOk, is_some, slice_get, if◌then◌else◌, ⊤}
use Rattle.std.proofs.lemmas.Bool.{false≢true}
use Rattle.syntax.specs.declared.statements.ScriptLine.{ScriptLine}
use Rattle.syntax.specs.declared.statements.Event.TheVariants.{Rollback}
use Rattle.alone.specs.declared.answers.Answer.{Answer}
use Rattle.alone.specs.declared.answers.Answer.TheVariants.{Begun, Committed, Refused, Replied, RolledBack}
use Rattle.alone.specs.declared.records.Record.{Record}
use Rattle.txn.specs.Transactions.{OpenTransaction}
use Rattle.definitions.specs.declared.redeclaration.NewAssertion.{NewAssertion}
use Rattle.commit.specs.Cores.{CoreState}
use Rattle.commit.specs.Epochs.{IsNextEpoch}
use Rattle.commit.specs.Events.{EngineState, IsAnswered, IsAnsweredAt, after, after_at, core_after, core_without, found_no_memory, rollback_answer, seat_of, takes_memory_at, txn_of, without_seat, without_session}
use Rattle.commit.specs.Keepers.{IsAskedFor}
use Rattle.commit.specs.Runs.{seats_with}
use Rattle.commit.specs.declared.keepers.Unanswered.{Unanswered}
use Rattle.commit.specs.declared.keepers.Unanswered.TheVariants as unanswered
use Rattle.durable.specs.Promise.{DidKeep, IsReadyFor}
use Rattle.durable.proofs.Flushing as flushing
use Rattle.journal_file.specs.Files as files
use Rattle.calls.specs.Keeping.{counted_anew, FileWriter, IsAsked, IsHandled, IsInStep, IsKeptAnswer, IsSeated, writer_with_none_waiting}

-- an answer of an engine whose commits are kept
pub handled_kept : (old new : EngineState) (w v : FileWriter) (line : ScriptLine) (r : Result Answer Unanswered) → IfOk r (IsAnswered old line)
    → IfOk r (λ answer. new ≡ after old line answer) → OnErr r (new ≡ old)
    → IsAskedFor (DidKeep files.file_bytes files.file_may_leave files.file_moment files.file_left_since) w v old.core.records new.core.records r
    → IsHandled (record { engine = old; writer = Some w }) line r (record { engine = new; writer = Some v })
handled_kept old new w v line (Ok answer) answered leaves same asked = record { answered = answered; leaves = leaves; asked = asked }
handled_kept old new w v line (Err unanswered.NotKept) answered leaves same asked = record { same = same; asked = asked }
handled_kept old new w v line (Err unanswered.NoMemory) answered leaves same asked = λ i. record { engine = same i; writer = Some (asked.0 i) }

-- ---- sessions

pub seated : {A E : Type 0} (r : Result A E) (session : List ℕ) (old new : EngineState) (w : Option FileWriter)
    → OnOk r (new ≡ record old { seats = seats_with old.seats session }) → OnErr r (new ≡ old)
    → IsSeated session r (record { engine = old; writer = w }) (record { engine = new; writer = w })
seated (Ok x) session old new w is same = λ i. record { engine = is i; writer = w }
seated (Err e) session old new w is same = λ i. record { engine = same i; writer = w }

pub step_seated : {A E : Type 0} (r : Result A E) (session : List ℕ) (old new : EngineState) (w : Option FileWriter)
    → OnOk r (new ≡ record old { seats = seats_with old.seats session }) → OnErr r (new ≡ old)
    → IsInStep (length old.core.records) w → IsInStep (length new.core.records) w
step_seated (Ok x) session old new w is same step = subst (λ (e : EngineState). IsInStep (length e.core.records) w) (sym is) step
step_seated (Err e) session old new w is same step = subst (λ (e : EngineState). IsInStep (length e.core.records) w) (sym same) step

without : (core : CoreState) (txn : Option OpenTransaction) → (core_without core txn).records ≡ core.records
without core None = refl
without core (Some t) = refl

unseated : (now : EngineState) (place : Option ℕ) → (without_seat now place).core.records ≡ now.core.records
unseated now None = refl
unseated now (Some place) = without now.core (txn_of (slice_get now.seats place))

pub step_unseated : (old new : EngineState) (session : List ℕ) (w : Option FileWriter) → new ≡ without_session old session
    → IsInStep (length old.core.records) w → IsInStep (length new.core.records) w
step_unseated old new session w is step =
    subst (λ (e : EngineState). IsInStep (length e.core.records) w) (sym is)
    (subst (λ (rs : List Record). IsInStep (length rs) w) (sym (unseated old (seat_of old.seats session))) step)

-- ---- ROLLBACK

abbrev IsUncommitted : Answer → Type 0
IsUncommitted (Committed n) = ⊥
IsUncommitted (Begun n) = ⊤
IsUncommitted (Replied reply) = ⊤
IsUncommitted RolledBack = ⊤
IsUncommitted (Refused refusal) = ⊤

unasked : (w : Option FileWriter) (before after : List Record) (answer : Answer) → IsUncommitted answer → after ≡ before → IsAsked w w before after (Ok answer)
unasked None before after answer un same = tt
unasked (Some w) before after (Committed n) un same = absurd un
unasked (Some w) before after (Begun n) un same = (refl, same)
unasked (Some w) before after (Replied reply) un same = (refl, same)
unasked (Some w) before after RolledBack un same = (refl, same)
unasked (Some w) before after (Refused refusal) un same = (refl, same)

-- nothing is committed
abbrev Rolls : EngineState → (after : EngineState) → Answer → Type 0
Rolls now after answer = IsUncommitted answer × (after.core.records ≡ now.core.records)

rolls_in : (core : CoreState) (session : List ℕ) (txn : Option OpenTransaction) (answer : Answer) → answer ≡ rollback_answer txn
    → IsUncommitted answer × ((core_after core session Rollback txn answer).records ≡ core.records)
rolls_in core session None answer is = (subst IsUncommitted (sym is) tt, refl)
rolls_in core session (Some t) answer is = (subst IsUncommitted (sym is) tt, refl)

rolls_at : (now : EngineState) (session : List ℕ) (place : Option ℕ) (answer : Answer) → IsAnsweredAt now session Rollback place answer
    → Rolls now (after_at now session Rollback place answer) answer
rolls_at now session None answer is = (subst IsUncommitted (sym is) tt, refl)
rolls_at now session (Some place) answer is = rolls_in now.core session (txn_of (slice_get now.seats place)) answer is

takes_none : (now : EngineState) (place : Option ℕ) → takes_memory_at now Rollback place ≡ true → ⊥
takes_none now None takes = false≢true takes
takes_none now (Some place) takes = false≢true takes

chosen : (b : Bool) (now then_ : EngineState) (answer : Answer) → Rolls now then_ answer → Rolls now (if b then now else then_) answer
chosen true now then_ answer rolls = (rolls.0, refl)
chosen false now then_ answer rolls = rolls

rolls : (now : EngineState) (session : List ℕ) (answer : Answer) → IsAnswered now (record { session = session; event = Rollback }) answer
    → Rolls now (after now (record { session = session; event = Rollback }) answer) answer
rolls now session answer (inl none) = absurd (takes_none now (seat_of now.seats session) none.takes)
rolls now session answer (inr is) =
    chosen (found_no_memory answer) now (after_at now session Rollback (seat_of now.seats session) answer) answer (rolls_at now session (seat_of now.seats session) answer is)

rolls_for : (now : EngineState) (line : ScriptLine) (answer : Answer) → line.event ≡ Rollback → IsAnswered now line answer → Rolls now (after now line answer) answer
rolls_for now line answer is answered =
    let same : line ≡ record { session = line.session; event = Rollback } = λ i. record { session = line.session; event = is i } in
    subst (λ (l : ScriptLine). Rolls now (after now l answer) answer) (sym same)
    (rolls now line.session answer (subst (λ (l : ScriptLine). IsAnswered now l answer) same answered))

-- a ROLLBACK is answered, and nothing has to be kept
pub rolled_back : (old new : EngineState) (w : Option FileWriter) (line : ScriptLine) (answer : Answer) → line.event ≡ Rollback → IsAnswered old line answer
    → new ≡ after old line answer → IsKeptAnswer (record { engine = old; writer = w }) line answer (record { engine = new; writer = w })
rolled_back old new w line answer is answered leaves =
    let r = rolls_for old line answer is answered in
    record {
      answered = answered;
      leaves = leaves;
      asked = subst (λ (e : EngineState). IsAsked w w old.core.records e.core.records (Ok answer)) (sym leaves) (unasked w old.core.records (after old line answer).core.records answer r.0 r.1);
    }

pub step_rolled_back : (old new : EngineState) (w : Option FileWriter) (line : ScriptLine) (answer : Answer) → line.event ≡ Rollback → IsAnswered old line answer
    → new ≡ after old line answer → IsInStep (length old.core.records) w → IsInStep (length new.core.records) w
step_rolled_back old new w line answer is answered leaves step =
    subst (λ (e : EngineState). IsInStep (length e.core.records) w) (sym leaves)
    (subst (λ (rs : List Record). IsInStep (length rs) w) (sym (rolls_for old line answer is answered).1) step)

-- ---- the calls that wait

pub step_forgotten : (count : ℕ) (w : Option FileWriter) → IsInStep count w → IsInStep count (writer_with_none_waiting w)
step_forgotten count None step = tt
step_forgotten count (Some w) step = λ is_open.
    let at = step is_open in let says = at.in_order.holds.says in
    record {
      in_order = record {
        holds = record { says = record { entries = says.entries; end = says.end; room = says.room; durable = says.durable }; blank = at.in_order.holds.blank };
        next = at.in_order.next;
        waiting = at.in_order.waiting;
      };
      next = at.next;
    }

-- ---- a new epoch

pub step_counted : (before after : CoreState) (dropped : List (List ℕ)) (created : List NewAssertion) (w : Option FileWriter)
    → IsNextEpoch dropped created before after → IsInStep (length before.records) w → IsInStep (length after.records) (counted_anew w)
step_counted before after dropped created None next step = tt
step_counted before after dropped created (Some w) next step =
    subst (λ (n : ℕ). IsReadyFor files.file_bytes files.file_may_leave (n + 1) (record w { last = w.batch.newest })) (sym (ap (λ (c : CoreState). length c.records) next.empty))
    (flushing.counted_anew files.file_bytes files.file_may_leave w (length before.records + 1) step)
