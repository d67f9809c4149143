-- The bytes of each reply. The first is its kind.
use Rattle.std.specs.Prelude.{ℕ, Bool, true, false, List, [], ◌∷◌, ◌++◌, map, codes, Option, Some, None, if◌then◌else◌}
use Rattle.value.specs.declared.refusals.Refusal.{Refusal}
use Rattle.table.specs.declared.schemas.Column.{Column}
use Rattle.syntax.specs.declared.statements.DerivedColumn.{DerivedColumn}
use Rattle.syntax.specs.declared.statements.Statement.TheVariants as statement
use Rattle.syntax.specs.declared.statements.Event.{Event}
use Rattle.syntax.specs.declared.statements.Event.TheVariants as event
use Rattle.syntax.specs.declared.statements.ScriptLine.{ScriptLine}
use Rattle.alone.specs.declared.answers.Reply.{Reply}
use Rattle.alone.specs.declared.answers.Reply.TheVariants as reply
use Rattle.alone.specs.declared.answers.Answer.{Answer}
use Rattle.alone.specs.declared.answers.Answer.TheVariants as answer
use Rattle.report.specs.Report.{answer_line, is_commit, refusal_line}
use Rattle.messages.specs.Refusals.{refusal_parts}
use Rattle.messages.specs.Columns.{derived_name}
use Rattle.messages.specs.Spelling.{columns, names, number, rows, text, truth}
use Rattle.messages.specs.declared.responses.Misuse.{Misuse}
use Rattle.messages.specs.declared.responses.Misuse.TheVariants as misuse
use Rattle.messages.specs.declared.responses.Source.{Source}
use Rattle.messages.specs.declared.responses.Source.TheVariants as source
use Rattle.messages.specs.declared.responses.Unrestored.{Unrestored}
use Rattle.messages.specs.declared.responses.Unrestored.TheVariants as unrestored
use Rattle.messages.specs.declared.responses.Response.{Response}
use Rattle.messages.specs.declared.responses.Response.TheVariants as response

-- a reply with one number: its kind, and the number
abbrev pub number_reply : (kind : ℕ) → ℕ → List ℕ
number_reply kind n = kind ∷ number n

-- a reply with a text
abbrev pub text_reply : List ℕ → List ℕ
text_reply bytes = 14 ∷ text bytes

-- its number, and how many values it takes
abbrev pub statement_reply : ℕ → ℕ → List ℕ
statement_reply n parameters = number_reply 3 n ++ number parameters

-- how many values are wanted, or which parameter it is; nothing where the status says all
abbrev pub misuse_reply : Misuse → List ℕ
misuse_reply (misuse.WrongCount wanted) = number_reply 16 wanted
misuse_reply (misuse.BadValue parameter) = number_reply 16 parameter
misuse_reply other = 0 ∷ []

-- the names of derived columns; those of the table's columns, where none are written
abbrev pub column_names : List Column → Option (List DerivedColumn) → List ℕ
column_names all None = columns all
column_names all (Some derived) = names (map derived_name derived)

-- the names of the columns that a SELECT lists
abbrev pub listed_columns : List Column → Event → List ℕ
listed_columns all (event.Run (statement.Select select)) = column_names all select.columns
listed_columns all other = columns all

-- the reply of a statement that was not refused
abbrev pub reply_bytes : List Column → Event → Reply → List ℕ
reply_bytes all event (reply.Inserted n) = number_reply 8 n
reply_bytes all event (reply.Updated n) = number_reply 9 n
reply_bytes all event (reply.Deleted n) = number_reply 10 n
reply_bytes all event (reply.Rows rs) = 11 ∷ (listed_columns all event ++ rows rs)
reply_bytes all event reply.ModesSet = 12 ∷ []
reply_bytes all event (reply.Verdict t) = 13 ∷ truth t

-- the parts of a refusal, and its line
abbrev pub refused_reply : (at_commit : Bool) → Refusal → (line : List ℕ) → List ℕ
refused_reply at_commit refusal line = 15 ∷ (refusal_parts at_commit refusal ++ text line)

-- the reply of an event's answer; a refusal has its line at the end
abbrev pub answer_bytes : List Column → ScriptLine → Answer → (line : List ℕ) → List ℕ
answer_bytes all script_line (answer.Begun n) line = number_reply 5 n
answer_bytes all script_line (answer.Replied reply) line = reply_bytes all script_line.event reply
answer_bytes all script_line (answer.Committed n) line = number_reply 6 n
answer_bytes all script_line answer.RolledBack line = 7 ∷ []
answer_bytes all script_line (answer.Refused refusal) line = refused_reply (is_commit script_line.event) refusal line

-- the numbers of a refusal that has none
abbrev pub no_numbers : List ℕ
no_numbers = number 0 ++ number 0 ++ number 0 ++ number 0 ++ number 0

-- the reply of a COMMIT that could not be kept: a refusal of number 25, which names nothing, and its line
abbrev pub not_kept_reply : (line : List ℕ) → List ℕ
not_kept_reply line = number_reply 15 25 ++ text (codes "58030") ++ text [] ++ 4 ∷ no_numbers ++ text line

-- why a journal was not opened: which fault, the commit, and the byte of the file
abbrev pub fault_reply : (fault commit at : ℕ) → List ℕ
fault_reply fault commit at = number_reply 18 fault ++ number commit ++ number at

-- the fault by its number; 0 stands where there is no commit or no byte
abbrev pub unrestored_reply : Unrestored → List ℕ
unrestored_reply unrestored.Headless = fault_reply 1 0 0
unrestored_reply unrestored.OfOthers = fault_reply 2 0 0
unrestored_reply (unrestored.Damaged commit at) = fault_reply 3 commit at
unrestored_reply (unrestored.NotDue commit) = fault_reply 4 commit 0

-- the beginning of a journal's file
abbrev pub image_reply : List ℕ → List ℕ
image_reply bytes = 19 ∷ text bytes

-- the word for what was refused, in front of the line of its refusal
abbrev pub source_name : Source → List ℕ
source_name source.Definitions = codes "DEFS"
source_name source.Session = codes "SESSION"
source_name source.Statement = codes "STATEMENT"
source_name source.Rules = codes "RULES"
source_name source.Journal = codes "JOURNAL"

-- the line of a session whose COMMIT could not be kept
abbrev pub not_kept_line : (session : List ℕ) → List ℕ
not_kept_line session = session ++ codes ": REFUSED 25 58030 IO ERROR\n"

-- the line of an answer or of a refusal; empty for any other response
abbrev pub line_of : Response → List ℕ
line_of (response.Answered script_line answer) = answer_line script_line answer
line_of (response.Refused source refusal) = refusal_line (source_name source) refusal
line_of (response.NotKept session) = not_kept_line session
line_of other = []

-- whether an event was refused
abbrev pub is_refused : Answer → Bool
is_refused (answer.Refused refusal) = true
is_refused other = false

-- whether a response is of an event or a call that was refused
abbrev pub is_refusal : Response → Bool
is_refusal (response.Answered script_line answer) = is_refused answer
is_refusal (response.Refused source refusal) = true
is_refusal (response.NotKept session) = true
is_refusal other = false

-- with this line in a refusal
abbrev pub response_with : List Column → Response → (line : List ℕ) → List ℕ
response_with all response.Opened line = number_reply 1 1
response_with all (response.Session n) line = number_reply 2 n
response_with all (response.Prepared n parameters) line = statement_reply n parameters
response_with all response.SessionClosed line = 4 ∷ []
response_with all response.Forgotten line = 4 ∷ []
response_with all (response.Answered script_line answer) line = answer_bytes all script_line answer line
response_with all (response.Closing bytes) line = text_reply bytes
response_with all (response.Changed bytes) line = text_reply bytes
response_with all (response.Refused source refusal) line = refused_reply false refusal line
response_with all (response.Misused misuse) line = misuse_reply misuse
response_with all (response.NotKept session) line = not_kept_reply line
response_with all (response.Unrestored why) line = unrestored_reply why
response_with all (response.Image bytes) line = image_reply bytes

-- the bytes of a response; a refusal has its line at the end
abbrev pub response_bytes : List Column → Response → List ℕ
response_bytes all response =
    if is_refusal response then response_with all response (line_of response) else response_with all response []
