-- What is answered and written so far, and whatever answers the events that are left.
use Rattle.std.proofs.Common.{◌≡◌, ◌∙◌, ℕ, List, [], ◌∷◌, ◌++◌, Option, refl, sym, ap, subst, append_assoc, append-nil}
use Rattle.std.specs.Prelude.{OnOk, Result, Ok, Err}
use Rattle.std.specs.Io.KnownBytes.{Appends}
use Rattle.std.proofs.KnownBytes.{Appends-nil, Appends-trans}
use Rattle.syntax.specs.declared.statements.ScriptLine.{ScriptLine}
use Rattle.alone.specs.declared.answers.Answer.{Answer}
use Rattle.commit.specs.Events.{EngineState, IsAnswered, after}
use Rattle.commit.specs.Runs.{AreAnswers, led_to}
use Rattle.report.specs.Report.{answer_line}
use Rattle.commit.specs.declared.seats.Seat.{Seat}
use Rattle.commit.specs.Cores.{CoreState}
use Rattle.replay.specs.Reports.{answer_lines, closing_part_of}
use Rattle.replay.specs.Lines.{ending, left_lines}
use Rattle.commit.proofs.Answering.{answers_more, led_more}
use Rattle.replay.specs.Writing.{PrintsAnswer, PrintsAnswers, PrintsRun}

-- the first events are answered, their lines are written, and these events are left
pub record IsPrinted (before : EngineState) (lines : List ScriptLine) (now : EngineState) (left : List ScriptLine) (old new : Option (List ℕ)) : Type 0 where
  pub first : List ScriptLine
  pub split : first ++ left ≡ lines
  pub answers : List Answer
  pub answered : AreAnswers before first answers
  pub leads : now ≡ led_to before first answers
  pub written : Appends old new (answer_lines first answers)

-- nothing is written before the first event
pub begins : (before : EngineState) (lines : List ScriptLine) (old : Option (List ℕ)) → IsPrinted before lines before lines old old
begins before lines old = record {
  first = [];
  split = refl;
  answers = [];
  answered = tt;
  leads = refl;
  written = Appends-nil old;
}

answer_lines_more : (before : EngineState) (lines : List ScriptLine) (answers : List Answer) (line : ScriptLine) (answer : Answer) → AreAnswers before lines answers
    → answer_lines (lines ++ line ∷ []) (answers ++ answer ∷ []) ≡ answer_lines lines answers ++ answer_line line answer
answer_lines_more before [] [] line answer h = append-nil (answer_line line answer)
answer_lines_more before [] (b ∷ more) line answer h = absurd h
answer_lines_more before (s ∷ rest) [] line answer h = absurd h
answer_lines_more before (s ∷ rest) (b ∷ more) line answer h =
    ap (λ l. answer_line s b ++ l) (answer_lines_more (after before s b) rest more line answer h.1)
    ∙ sym (append_assoc (answer_line s b) (answer_lines rest more) (answer_line line answer))

-- one event more
pub goes_on : (before : EngineState) (lines : List ScriptLine) (now : EngineState) (line : ScriptLine) (rest : List ScriptLine) (next : EngineState) (old middle new : Option (List ℕ))
    → IsPrinted before lines now (line ∷ rest) old middle → PrintsAnswer now line next middle new → IsPrinted before lines next rest old new
goes_on before lines now line rest next old middle new so_far one = record {
  first = so_far.first ++ line ∷ [];
  split = append_assoc so_far.first (line ∷ []) rest ∙ so_far.split;
  answers = so_far.answers ++ one.answer ∷ [];
  answered = answers_more before so_far.first so_far.answers line one.answer so_far.answered (subst (λ e. IsAnswered e line one.answer) so_far.leads one.answered);
  leads = one.leaves ∙ ap (λ e. after e line one.answer) so_far.leads ∙ sym (led_more before so_far.first so_far.answers line one.answer so_far.answered);
  written = subst (Appends old new) (sym (answer_lines_more before so_far.first so_far.answers line one.answer so_far.answered))
      (Appends-trans old middle new (answer_lines so_far.first so_far.answers) (answer_line line one.answer) so_far.written one.written);
}

-- all events are answered
pub ends : (before : EngineState) (lines : List ScriptLine) (now : EngineState) (old new : Option (List ℕ))
    → IsPrinted before lines now [] old new → PrintsAnswers before lines now old new
ends before lines now old new so_far =
    let all : so_far.first ≡ lines = sym (append-nil so_far.first) ∙ so_far.split in
    record {
      answers = so_far.answers;
      answered = subst (λ s. AreAnswers before s so_far.answers) all so_far.answered;
      leaves = so_far.leads ∙ ap (λ s. led_to before s so_far.answers) all;
      written = subst (λ s. Appends old new (answer_lines s so_far.answers)) all so_far.written;
    }

-- the lines of open transactions, and the closing part, are the ending
pub ended : {T E : Type 0} (written : Result T E) (left : EngineState) (seats : List Seat) (core : CoreState) (a b c : Option (List ℕ)) → seats ≡ left.seats → core ≡ left.core
    → Appends a b (left_lines seats) → OnOk written (Appends b c (closing_part_of core)) → OnOk written (Appends a c (ending left))
ended (Ok done) left seats core a b c same_seats same_core first second =
    Appends-trans a b c (left_lines left.seats) (closing_part_of left.core) (subst (λ s. Appends a b (left_lines s)) same_seats first)
    (subst (λ k. Appends b c (closing_part_of k)) same_core second)
ended (Err fault) left seats core a b c same_seats same_core first second = tt

-- the ending stands behind the answers
pub closes : (before : EngineState) (lines : List ScriptLine) (left : EngineState) (old middle new : Option (List ℕ))
    → PrintsAnswers before lines left old middle → Appends middle new (ending left) → PrintsRun before lines old new
closes before lines left old middle new answered closed = record {
  answers = answered.answers;
  answered = answered.answered;
  written = Appends-trans old middle new (answer_lines lines answered.answers) (ending (led_to before lines answered.answers)) answered.written
      (subst (λ e. Appends middle new (ending e)) answered.leaves closed);
}

-- an event is answered, and the lines of the answer are written, where the writer takes them
pub written_on_ok : {T E : Type 0} (r : Result T E) (before : EngineState) (line : ScriptLine) (answer : Answer) (left : EngineState) (old new : Option (List ℕ))
    → IsAnswered before line answer → left ≡ after before line answer → OnOk r (Appends old new (answer_line line answer))
    → OnOk r (PrintsAnswer before line left old new)
written_on_ok (Ok x) before line answer left old new answered leaves written = record { answer = answer; answered = answered; leaves = leaves; written = written }
written_on_ok (Err e) before line answer left old new answered leaves written = tt
