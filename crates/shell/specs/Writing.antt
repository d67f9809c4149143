-- What a part of the input is answered, and what is written of it.
use Rattle.std.specs.Prelude.{◌≡◌, ◌≢◌, ◌++◌, ℕ, Bool, true, false, List, [], ◌∷◌, Option, IfSome, ⊤}
use Rattle.std.specs.Io.KnownBytes.{Appends, Consumes, IsAtEnd}
use Rattle.syntax.specs.declared.statements.ScriptLine.{ScriptLine}
use Rattle.alone.specs.declared.answers.Answer.{Answer}
use Rattle.commit.specs.Events.{EngineState, IsAnswered, after}
use Rattle.replay.specs.Lines.{ending}
use Rattle.shell.specs.declared.cutting.Place.TheVariants.{End}
use Rattle.shell.specs.Cuts.{Piece, Rest, cut_off, piece_of, pieces_of, rest_of, whole_of}
use Rattle.shell.specs.Outcomes.{AreOutcomes, IsLast, IsOutcome, Outcome, Blank, Reply, Fault, output_line, output_lines}
use Rattle.shell.specs.Seats.{engine_with_seat}

-- an event is answered; its session has then got its seat, if there was one
abbrev pub IsRun : EngineState → Outcome → Type 0
IsRun now Blank = ⊤
IsRun now (Reply line answer) = IsAnswered (engine_with_seat now line.session) line answer
IsRun now (Fault refusal) = ⊤

-- what an outcome leaves of the engine
abbrev pub left_by : EngineState → Outcome → EngineState
left_by now Blank = now
left_by now (Reply line answer) = after (engine_with_seat now line.session) line answer
left_by now (Fault refusal) = now

-- the events among some outcomes are answered, each after those before it
abbrev pub AreRun : EngineState → List Outcome → Type 0
AreRun now [] = ⊤
AreRun now (outcome ∷ outcomes) = IsRun now outcome × AreRun (left_by now outcome) outcomes

-- what some outcomes leave of the engine
abbrev pub left_by_all : EngineState → List Outcome → EngineState
left_by_all now [] = now
left_by_all now (outcome ∷ outcomes) = left_by_all (left_by now outcome) outcomes

-- an event is answered, and this is what it leaves
pub record IsAnsweredNow (before : EngineState) (line : ScriptLine) (answer : Answer) (left : EngineState) :
    Type 0 where
  pub answered : IsAnswered (engine_with_seat before line.session) line answer
  pub leaves : left ≡ after (engine_with_seat before line.session) line answer

-- what is left at the end of the input has its outcome, and the writer gains its line
pub record Breaks (piece : Piece) (old new : Option (List ℕ)) : Type 0 where
  pub outcome : Outcome
  pub is : IsLast piece outcome
  pub written : Appends old new (output_line outcome)

-- some bytes are read, each piece that they end has its outcome, and the writer gains the lines
pub record Feeds (before : EngineState) (rest : Rest) (left : EngineState) (last : Rest)
    (from to old new : Option (List ℕ)) : Type 0 where
  pub bytes : List ℕ
  pub read : Consumes from to bytes
  pub outcomes : List Outcome
  pub are : AreOutcomes (pieces_of rest bytes) outcomes
  pub run : AreRun before outcomes
  pub leaves : left ≡ left_by_all before outcomes
  pub last_is : last ≡ rest_of rest bytes
  pub written : Appends old new (output_lines outcomes)

-- nothing was left to read, and nothing has changed
pub record IsOver (before : EngineState) (rest : Rest) (left : EngineState) (last : Rest)
    (from old new : Option (List ℕ)) : Type 0 where
  pub at_end : IsAtEnd from
  pub left_is : left ≡ before
  pub last_is : last ≡ rest
  pub same : new ≡ old

-- a turn reads more, or says that nothing is left
abbrev pub Turns : (more : Bool) → EngineState → Rest → EngineState → Rest → (from to old new : Option (List ℕ))
    → Type 0
Turns true before rest left last from to old new = Feeds before rest left last from to old new
Turns false before rest left last from to old new = IsOver before rest left last from old new

-- all bytes that a reader has are read, each piece that they end has its outcome, and the writer gains the lines
pub record FeedsAll (before : EngineState) (rest : Rest) (left : EngineState) (last : Rest)
    (from old new : Option (List ℕ)) : Type 0 where
  pub bytes : List ℕ
  pub all : IfSome from (λ known. bytes ≡ known)
  pub outcomes : List Outcome
  pub are : AreOutcomes (pieces_of rest bytes) outcomes
  pub run : AreRun before outcomes
  pub leaves : left ≡ left_by_all before outcomes
  pub last_is : last ≡ rest_of rest bytes
  pub written : Appends old new (output_lines outcomes)

-- a piece has its outcome, and the writer gains its line
pub record Answers (before : EngineState) (piece : Piece) (left : EngineState) (old new : Option (List ℕ)) :
    Type 0 where
  pub outcome : Outcome
  pub is : IsOutcome piece outcome
  pub run : IsRun before outcome
  pub leaves : left ≡ left_by before outcome
  pub written : Appends old new (output_line outcome)

-- the last byte that was read ends a piece, which is answered and cut off
pub record AnswersWhole (more : Bool) (before : EngineState) (rest : Rest) (left : EngineState) (last : Rest)
    (old new : Option (List ℕ)) : Type 0 where
  pub some : more ≡ true
  pub ends : rest.place ≡ End
  pub answers : Answers before (whole_of rest) left old new
  pub cut : last ≡ cut_off rest

-- nothing was read, or its last byte ends no piece
pub record AnswersNone (more : Bool) (before : EngineState) (rest : Rest) (left : EngineState) (last : Rest)
    (old new : Option (List ℕ)) : Type 0 where
  pub goes_on : more ≡ true → rest.bytes ≢ [] → rest.place ≢ End
  pub left_is : left ≡ before
  pub last_is : last ≡ rest
  pub same : new ≡ old

-- what stands behind the lines, if it is asked for
abbrev pub ending_if : Bool → EngineState → List ℕ
ending_if false left = []
ending_if true left = ending left

-- What is left at the end of the input has its outcome. The writer gains its line, and behind it the report, if it is
-- asked for.
pub record Finishes (rest : Rest) (left : EngineState) (reports : Bool) (old new : Option (List ℕ)) : Type 0 where
  pub last : Outcome
  pub last_is : IsLast (piece_of rest) last
  pub written : Appends old new (output_line last ++ ending_if reports left)
