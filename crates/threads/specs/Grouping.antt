-- The scripts of sessions.
use Rattle.std.specs.Prelude.{ℕ, List, [], map}
use Rattle.std.specs.List.{filter}
use Rattle.std.specs.Str.{bytes_eq}
use Rattle.syntax.specs.declared.statements.ScriptLine.{ScriptLine}
use Rattle.commit.specs.declared.seats.Seat.{Seat}
use Rattle.commit.specs.Runs.{seats_with_all}
use Rattle.threads.specs.declared.scripts.Script.{Script}

-- the lines of a session, in their order
abbrev pub lines_of : List ℕ → List ScriptLine → List ScriptLine
lines_of session lines = filter (λ (line : ScriptLine). bytes_eq line.session session) lines

-- the script of the session in a seat
abbrev pub script_for : List ScriptLine → Seat → Script
script_for lines seat = record { name = seat.session; lines = lines_of seat.session lines }

-- a script for each session of some lines, in the order of their first lines
abbrev pub scripts_of : List ScriptLine → List Script
scripts_of lines = map (script_for lines) (seats_with_all [] lines)
