-- Events one after the other.
use Rattle.std.specs.Prelude.{◌≡◌, ℕ, List, [], ◌∷◌, ◌++◌, Option, Some, None, ⊤}
use Rattle.syntax.specs.declared.statements.ScriptLine.{ScriptLine}
use Rattle.alone.specs.declared.answers.Answer.{Answer}
use Rattle.alone.specs.Alone.{IsSound}
use Rattle.delta.specs.Views.{ViewState}
use Rattle.conflict.specs.Live.{none_live}
use Rattle.commit.specs.declared.seats.Seat.{Seat}
use Rattle.commit.specs.Cores.{CoreState}
use Rattle.commit.specs.Events.{EngineState, IsAnswered, after, seat_of}

-- a seat in which no transaction is open
abbrev pub free_seat : List ℕ → Seat
free_seat session = record { session = session; txn = None }

-- with a seat for a session, if it has none
abbrev pub unless_seated : Option ℕ → List Seat → List ℕ → List Seat
unless_seated None seats session = seats ++ free_seat session ∷ []
unless_seated (Some place) seats session = seats

-- with a seat for a session, if it has none yet
abbrev pub seats_with : List Seat → List ℕ → List Seat
seats_with seats session = unless_seated (seat_of seats session) seats session

-- and for each session of some events, in the order of their first events
abbrev pub seats_with_all : List Seat → List ScriptLine → List Seat
seats_with_all seats [] = seats
seats_with_all seats (line ∷ rest) = seats_with_all (seats_with seats line.session) rest

-- before the first commit
abbrev pub empty_core : (limit : ℕ) → ViewState → CoreState
empty_core limit loaded =
    record {
      limit = limit;
      declared = loaded.declared;
      start = loaded.state;
      records = [];
      refused = [];
      live = none_live;
      prepared = None;
    }

-- before the first of these events
abbrev pub beginning : (limit : ℕ) → ViewState → List ScriptLine → EngineState
beginning limit loaded lines = record { core = empty_core limit loaded; seats = seats_with_all [] lines }

-- what the events are answered, each after those before it
abbrev pub AreAnswers : EngineState → List ScriptLine → List Answer → Type 0
AreAnswers now [] [] = ⊤
AreAnswers now [] (answer ∷ more) = ⊥
AreAnswers now (line ∷ rest) [] = ⊥
AreAnswers now (line ∷ rest) (answer ∷ more) = IsAnswered now line answer × AreAnswers (after now line answer) rest more

-- what they leave
abbrev pub led_to : EngineState → List ScriptLine → List Answer → EngineState
led_to now [] answers = now
led_to now (line ∷ rest) [] = now
led_to now (line ∷ rest) (answer ∷ more) = led_to (after now line answer) rest more

-- an event more is answered
pub record IsNext (now : EngineState) (line : ScriptLine) (answers : List Answer) (left : EngineState)
    (more : List Answer) : Type 0 where
  pub answer : Answer
  pub answered : IsAnswered now line answer
  pub left_is : left ≡ after now line answer
  pub more_is : more ≡ answers ++ answer ∷ []

-- what holds of each run from a beginning on tables on which no assertion is false: of these tables, of the events that
-- were answered, of their answers, and of what they leave
abbrev pub InEachRun : (ViewState → List ScriptLine → List Answer → EngineState → Type 0) → Type 0
InEachRun Holds = (limit : ℕ) (loaded : ViewState) (all lines : List ScriptLine) (answers : List Answer)
    → IsSound loaded.declared loaded.state → AreAnswers (beginning limit loaded all) lines answers
    → Holds loaded lines answers (led_to (beginning limit loaded all) lines answers)
