-- How a script is made line by line: each line is added to the script of its session.
use Rattle.std.specs.Prelude.{ℕ, List, [], ◌∷◌, ◌++◌, slice_get, slice_set, Option, Some, None}
use Rattle.std.specs.List.{position}
use Rattle.std.specs.Str.{bytes_eq}
use Rattle.syntax.specs.declared.statements.ScriptLine.{ScriptLine}
use Rattle.threads.specs.declared.scripts.Script.{Script}

-- the place of a session's script
abbrev pub script_of : List Script → List ℕ → Option ℕ
script_of scripts session = position (λ script. bytes_eq script.name session) scripts

-- a script of one line, and with a line more
abbrev pub first_line : ScriptLine → Script
first_line line = record { name = line.session; lines = line ∷ [] }

-- the script with a line more
abbrev pub with_line : ScriptLine → Script → Script
with_line line script = record script { lines = script.lines ++ line ∷ [] }

-- the scripts with a line more in the one at a place, or in a new one
abbrev pub added_to : List Script → ScriptLine → ℕ → Option Script → List Script
added_to scripts line place None = scripts
added_to scripts line place (Some script) = slice_set scripts place (with_line line script)

-- the scripts with a line more in the one of its session, or in a new one behind the others
abbrev pub added_at : List Script → ScriptLine → Option ℕ → List Script
added_at scripts line None = scripts ++ first_line line ∷ []
added_at scripts line (Some place) = added_to scripts line place (slice_get scripts place)

-- with a line more in the script of its session
abbrev pub scripts_with_line : List Script → ScriptLine → List Script
scripts_with_line scripts line = added_at scripts line (script_of scripts line.session)

-- with each of some lines in the script of its session
abbrev pub scripts_with_lines : List Script → List ScriptLine → List Script
scripts_with_lines scripts [] = scripts
scripts_with_lines scripts (line ∷ rest) = scripts_with_lines (scripts_with_line scripts line) rest
