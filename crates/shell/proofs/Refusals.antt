-- Why a piece is no event, and why a shell ends early.
use Rattle.std.proofs.Common.{◌≡◌, ℕ, true, false, List, ◌-◌, length, take, drop, arith, Option, Result, Ok, Err, inl, inr, refl, sym, ap, ◌∙◌, subst}
use Rattle.std.specs.Prelude.{OnOk, codes}
use Rattle.std.specs.Io.KnownBytes.{Appends}
use Rattle.std.proofs.KnownBytes.{Appends-nil}
use Rattle.std.proofs.lemmas.List.{length-drop, take_all}
use Rattle.value.specs.declared.refusals.Refusal.{Refusal}
use Rattle.value.specs.declared.refusals.Refusal.TheVariants.{NoMemory, Syntax}
use Rattle.syntax.specs.declared.statements.Event.{Event}
use Rattle.syntax.specs.declared.statements.ScriptLine.{ScriptLine}
use Rattle.syntax.specs.StatementGrammar.{IsEvent}
use Rattle.alone.specs.declared.answers.Answer.{Answer}
use Rattle.commit.specs.Events.{EngineState}
use Rattle.report.specs.Report.{answer_line, refusal_line}
use Rattle.replay.specs.Texts.{IsRead, IsUnread}
use Rattle.replay.specs.declared.faults.ProgramFault.TheVariants.{Output}
use Rattle.shell.specs.declared.faults.ShellFault.{ShellFault}
use Rattle.shell.specs.declared.faults.ShellFault.TheVariants.{Run}
use Rattle.shell.specs.Cuts.{Piece, forward}
use Rattle.shell.specs.Headings.{address, event_text, is_blank}
use Rattle.shell.specs.Outcomes.{Blank, Fault, IsBreak, IsFaultOf, IsLineOf, Reply, refusal_in_input}
use Rattle.shell.specs.Shell.{IsInTheTalk, is_stop}
use Rattle.shell.specs.Writing.{Answers, Breaks, IsAnsweredNow}

-- all that stands from a place on
all_behind : (from : ℕ) (bytes : List ℕ) → take (length bytes - from) (drop from bytes) ≡ drop from bytes
all_behind from bytes = take_all (length bytes - from) (drop from bytes) (let long = length-drop from bytes in omega arith)

module _ (at : ℕ) (bytes : List ℕ) (some : is_blank bytes ≡ false) where
  abbrev piece : Piece
  piece = record { at = at; bytes = bytes }

  -- there was no memory
  pub fault_of_memory : (refusal : Refusal) → refusal ≡ NoMemory → IsFaultOf piece refusal
  fault_of_memory refusal e = record { some = some; fault = NoMemory; unread = tt; is = e }

  -- it is none of the language
  pub fault_of_text : (from : ℕ) (fault refusal : Refusal) → from ≡ (address bytes).from → IsUnread IsEvent (drop from bytes) fault → refusal ≡ refusal_in_input (forward at from) fault → IsFaultOf piece refusal
  fault_of_text from fault refusal e unread is = record {
    some = some;
    fault = fault;
    unread = subst (λ n. IsUnread IsEvent (drop n bytes) fault) e unread;
    is = is ∙ ap (λ n. refusal_in_input (forward at n) fault) e;
  }

  pub line_of_text : (from : ℕ) (line : ScriptLine) → from ≡ (address bytes).from → line.session ≡ (address bytes).session → IsRead IsEvent (drop from bytes) line.event → IsLineOf bytes line
  line_of_text from line e session read = record { some = some; session_is = session; read = subst (λ n. IsRead IsEvent (drop n bytes) line.event) e read }

  pub break_of_memory : (refusal : Refusal) → refusal ≡ NoMemory → IsBreak piece refusal
  break_of_memory refusal e = record { some = some; fault = NoMemory; broken = inl tt; is = e }

  pub break_of_text : (from : ℕ) (fault refusal : Refusal) → from ≡ (address bytes).from → IsUnread IsEvent (drop from bytes) fault → refusal ≡ refusal_in_input (forward at from) fault → IsBreak piece refusal
  break_of_text from fault refusal e unread is = record {
    some = some;
    fault = fault;
    broken = inl (subst (λ n. IsUnread IsEvent (drop n bytes) fault) e unread);
    is = is ∙ ap (λ n. refusal_in_input (forward at n) fault) e;
  }

  -- only its semicolon is missing
  pub break_of_event : (from : ℕ) (text : List ℕ) (event : Event) (refusal : Refusal) → from ≡ (address bytes).from → text ≡ take (length bytes - from) (drop from bytes)
      → IsRead IsEvent text event → refusal ≡ refusal_in_input (forward at from) (Syntax (length text)) → IsBreak piece refusal
  break_of_event from text event refusal e is_text read is =
      let same : text ≡ event_text bytes = is_text ∙ all_behind from bytes ∙ ap (λ n. drop n bytes) e in
      record {
        some = some;
        fault = Syntax (length text);
        broken = inr (record { event = event; read = subst (λ l. IsRead IsEvent l event) same read; is = ap (λ l. Syntax (length l)) same });
        is = is ∙ ap (λ n. refusal_in_input (forward at n) (Syntax (length text))) e;
      }

-- ---- outcomes, where the writer took the line

module _ (piece : Piece) (old : Option (List ℕ)) where
  pub answers_blank : (before : EngineState) → is_blank piece.bytes ≡ true → Answers before piece before old old
  answers_blank before blank = record { outcome = Blank; is = blank; run = tt; leaves = refl; written = Appends-nil old }

  pub answers_reply : {A E : Type 0} (written : Result A E) (before : EngineState) (line : ScriptLine) (answer : Answer) (left : EngineState) (new : Option (List ℕ))
      → IsLineOf piece.bytes line → IsAnsweredNow before line answer left → OnOk written (Appends old new (answer_line line answer)) → OnOk written (Answers before piece left old new)
  answers_reply (Ok done) before line answer left new read now grown =
      record { outcome = Reply line answer; is = read; run = now.answered; leaves = now.leaves; written = grown }
  answers_reply (Err fault) before line answer left new read now grown = tt

  pub answers_fault : {A E : Type 0} (written : Result A E) (before : EngineState) (refusal : Refusal) (left : EngineState) (new : Option (List ℕ))
      → IsFaultOf piece refusal → left ≡ before → OnOk written (Appends old new (refusal_line (codes "SCRIPT") refusal)) → OnOk written (Answers before piece left old new)
  answers_fault (Ok done) before refusal left new is same grown = record { outcome = Fault refusal; is = is; run = tt; leaves = same; written = grown }
  answers_fault (Err fault) before refusal left new is same grown = tt

  pub breaks_blank : is_blank piece.bytes ≡ true → Breaks piece old old
  breaks_blank blank = record { outcome = Blank; is = blank; written = Appends-nil old }

  pub breaks_fault : {A E : Type 0} (written : Result A E) (refusal : Refusal) (new : Option (List ℕ)) → IsBreak piece refusal
      → OnOk written (Appends old new (refusal_line (codes "SCRIPT") refusal)) → OnOk written (Breaks piece old new)
  breaks_fault (Ok done) refusal new is grown = record { outcome = Fault refusal; is = is; written = grown }
  breaks_fault (Err fault) refusal new is grown = tt

-- ---- a fault of the writer

pub late_output : (fault : ShellFault) → fault ≡ Run Output → IsInTheTalk fault
late_output fault e = subst IsInTheTalk (sym e) tt

pub no_stop : {P : Type 0} (fault : ShellFault) → fault ≡ Run Output → is_stop fault ≡ true → P
no_stop fault e h = let no : ⊥ = (let f : is_stop fault ≡ false = ap is_stop e in cc) in absurd no
