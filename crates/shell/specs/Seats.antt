-- The sessions that get a seat: the first that come, and no more than so many.
use Rattle.std.specs.Prelude.{ℕ, List, [], ◌∷◌, length, nat_lt, is_some, if◌then◌else◌}
use Rattle.syntax.specs.declared.statements.ScriptLine.{ScriptLine}
use Rattle.delta.specs.Views.{ViewState}
use Rattle.commit.specs.declared.seats.Seat.{Seat}
use Rattle.commit.specs.Events.{EngineState, seat_of}
use Rattle.commit.specs.Runs.{beginning, seats_with}
use Rattle.replay.specs.Texts.{most_sessions}

-- with a seat for a session, if it has none and there is one
abbrev pub seated_within : List Seat → List ℕ → List Seat
seated_within seats session = if nat_lt (length seats) most_sessions then seats_with seats session else seats

-- the engine with a seat for a session, if it has none and there is one
abbrev pub engine_with_seat : EngineState → List ℕ → EngineState
engine_with_seat now session = record now { seats = seated_within now.seats session }

-- the events of the sessions that have a seat or get one
abbrev pub seated_lines : List Seat → List ScriptLine → List ScriptLine
seated_lines seats [] = []
seated_lines seats (line ∷ rest) =
    if is_some (seat_of (seated_within seats line.session) line.session)
    then line ∷ seated_lines (seated_within seats line.session) rest
    else seated_lines (seated_within seats line.session) rest

-- before the first of some events, with a seat for each session that gets one
abbrev pub first_seated : (limit : ℕ) → ViewState → List ScriptLine → EngineState
first_seated limit shown lines = beginning limit shown (seated_lines [] lines)
