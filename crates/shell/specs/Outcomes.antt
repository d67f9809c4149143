-- What becomes of each piece, and the line that tells it.
use Rattle.std.specs.Prelude.{◌≡◌, ◌⊎◌, ℕ, true, false, List, [], ◌∷◌, ◌++◌, codes, length, ⊤}
use Rattle.value.specs.declared.refusals.Refusal.{Refusal}
use Rattle.value.specs.declared.refusals.Refusal.TheVariants.{Syntax, TooDeep}
use Rattle.syntax.specs.declared.statements.ScriptLine.{ScriptLine}
use Rattle.syntax.specs.declared.statements.Event.{Event}
use Rattle.syntax.specs.StatementGrammar.{IsEvent}
use Rattle.alone.specs.declared.answers.Answer.{Answer}
use Rattle.report.specs.Report.{answer_line, refusal_line}
use Rattle.replay.specs.Texts.{IsRead, IsUnread}
use Rattle.shell.specs.Cuts.{Piece, forward}
use Rattle.shell.specs.Headings.{address, event_text, is_blank}

-- nothing, where it has no token; an event with its answer; or why there is no event
pub data Outcome : Type 0 where
  Blank : Outcome
  Reply : ScriptLine → Answer → Outcome
  Fault : Refusal → Outcome

-- a refusal that names a place of the event, by the place in the input
abbrev pub refusal_in_input : ℕ → Refusal → Refusal
refusal_in_input at (Syntax n) = Syntax (forward at n)
refusal_in_input at (TooDeep n) = TooDeep (forward at n)
refusal_in_input at refusal = refusal

-- where the event of a piece begins in the input
abbrev pub event_at : Piece → ℕ
event_at piece = forward piece.at (address piece.bytes).from

-- bytes are an event of a session
pub record IsLineOf (bytes : List ℕ) (line : ScriptLine) : Type 0 where
  pub some : is_blank bytes ≡ false
  pub session_is : line.session ≡ (address bytes).session
  pub read : IsRead IsEvent (event_text bytes) line.event

-- they are none, or there was no memory to read it, or for the session's seat
pub record IsFaultOf (piece : Piece) (refusal : Refusal) : Type 0 where
  pub some : is_blank piece.bytes ≡ false
  pub fault : Refusal
  pub unread : IsUnread IsEvent (event_text piece.bytes) fault
  pub is : refusal ≡ refusal_in_input (event_at piece) fault

-- what may become of a piece that a semicolon ends
abbrev pub IsOutcome : Piece → Outcome → Type 0
IsOutcome piece Blank = is_blank piece.bytes ≡ true
IsOutcome piece (Reply line answer) = IsLineOf piece.bytes line
IsOutcome piece (Fault refusal) = IsFaultOf piece refusal

-- what may become of some pieces, of each in its place
abbrev pub AreOutcomes : List Piece → List Outcome → Type 0
AreOutcomes [] [] = ⊤
AreOutcomes [] (outcome ∷ outcomes) = ⊥
AreOutcomes (piece ∷ pieces) [] = ⊥
AreOutcomes (piece ∷ pieces) (outcome ∷ outcomes) = IsOutcome piece outcome × AreOutcomes pieces outcomes

-- no semicolon stands behind the event
pub record IsOpen (text : List ℕ) (fault : Refusal) : Type 0 where
  pub event : Event
  pub read : IsRead IsEvent text event
  pub is : fault ≡ Syntax (length text)

-- why what is left at the end of the input is no event
pub record IsBreak (piece : Piece) (refusal : Refusal) : Type 0 where
  pub some : is_blank piece.bytes ≡ false
  pub fault : Refusal
  pub broken : IsUnread IsEvent (event_text piece.bytes) fault ⊎ IsOpen (event_text piece.bytes) fault
  pub is : refusal ≡ refusal_in_input (event_at piece) fault

-- what may become of it
abbrev pub IsLast : Piece → Outcome → Type 0
IsLast piece Blank = is_blank piece.bytes ≡ true
IsLast piece (Reply line answer) = ⊥
IsLast piece (Fault refusal) = IsBreak piece refusal

-- the event of an outcome, if it is one, with its session
abbrev pub line_in : Outcome → List ScriptLine
line_in Blank = []
line_in (Reply line answer) = line ∷ []
line_in (Fault refusal) = []

-- the answer of an outcome, if it is an event
abbrev pub answer_in : Outcome → List Answer
answer_in Blank = []
answer_in (Reply line answer) = answer ∷ []
answer_in (Fault refusal) = []

-- the line that tells an outcome; none where the piece is blank
abbrev pub output_line : Outcome → List ℕ
output_line Blank = []
output_line (Reply line answer) = answer_line line answer
output_line (Fault refusal) = refusal_line (codes "SCRIPT") refusal

-- the events among some outcomes, in their order, each with its session
abbrev pub lines_in : List Outcome → List ScriptLine
lines_in [] = []
lines_in (outcome ∷ outcomes) = line_in outcome ++ lines_in outcomes

-- the answers among some outcomes, in their order
abbrev pub answers_in : List Outcome → List Answer
answers_in [] = []
answers_in (outcome ∷ outcomes) = answer_in outcome ++ answers_in outcomes

-- the lines of some outcomes, one behind the other
abbrev pub output_lines : List Outcome → List ℕ
output_lines [] = []
output_lines (outcome ∷ outcomes) = output_line outcome ++ output_lines outcomes
