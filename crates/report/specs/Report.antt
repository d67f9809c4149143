-- The lines of the report: a line for each event's answer, and one for a transaction that was left open.
use Rattle.std.specs.Prelude.{ℕ, ◌==◌, Bool, true, false, List, [], ◌∷◌, ◌++◌, length, codes, decimal, if◌then◌else◌}
use Rattle.std.specs.Fmt.{signed_decimal}
use Rattle.value.specs.declared.values.Value.{Value}
use Rattle.value.specs.declared.values.Value.TheVariants.{Null, Int, Text}
use Rattle.value.specs.declared.values.Root.{Root}
use Rattle.value.specs.declared.values.Root.TheVariants.{All, Of}
use Rattle.value.specs.declared.refusals.Party.{Party}
use Rattle.value.specs.declared.refusals.Party.TheVariants.{This, Number}
use Rattle.value.specs.declared.refusals.Excess.{Excess}
use Rattle.value.specs.declared.refusals.Excess.TheVariants as excess
use Rattle.value.specs.declared.refusals.Refusal.{Refusal}
use Rattle.value.specs.declared.refusals.Refusal.TheVariants as refusal
use Rattle.value.specs.Truths.{name_of}
use Rattle.table.specs.Rows.{RowValues}
use Rattle.alone.specs.declared.answers.Reply.{Reply}
use Rattle.alone.specs.declared.answers.Reply.TheVariants.{Inserted, Updated, Deleted, Rows, ModesSet, Verdict}
use Rattle.alone.specs.declared.answers.Answer.{Answer}
use Rattle.alone.specs.declared.answers.Answer.TheVariants.{Begun, Replied, Committed, RolledBack, Refused}
use Rattle.syntax.specs.declared.statements.Statement.TheVariants as statement
use Rattle.syntax.specs.declared.statements.Event.{Event}
use Rattle.syntax.specs.declared.statements.Event.TheVariants as event
use Rattle.syntax.specs.declared.statements.ScriptLine.{ScriptLine}

-- a quote twice, every other byte once
abbrev pub quoted_byte : ℕ → List ℕ
quoted_byte b = if b == 39 then b ∷ b ∷ [] else b ∷ []

-- a text with each quote in it twice
abbrev pub with_doubled_quotes : List ℕ → List ℕ
with_doubled_quotes [] = []
with_doubled_quotes (b ∷ bytes) = quoted_byte b ++ with_doubled_quotes bytes

-- a value as a literal of the language
abbrev pub value_text : Value → List ℕ
value_text Null = codes "NULL"
value_text (Int n) = signed_decimal n
value_text (Text bytes) = codes "'" ++ with_doubled_quotes bytes ++ codes "'"

-- a root: the value of a row's key or of a group, or ALL
abbrev pub root_text : Root → List ℕ
root_text All = codes "ALL"
root_text (Of v) = value_text v

-- a party of a dangerous triple: the number of its commit, or THIS for the transaction that is refused
abbrev pub party_text : Party → List ℕ
party_text This = codes "THIS"
party_text (Number n) = decimal n

-- the fault number and the SQLSTATE of a number beyond its range, and of a text past its length
abbrev pub excess_text : Excess → List ℕ
excess_text excess.Number = codes "9 22003 "
excess_text excess.Text = codes "9 22001 "

-- the fault number and the SQLSTATE of a violated assertion, at a statement or at COMMIT
abbrev pub violated_text : Bool → List ℕ
violated_text false = codes "10 23000 "
violated_text true = codes "10 40002 "

-- a fault: its number, its SQLSTATE or a dash, and what it names
abbrev pub fault_text : (at_commit : Bool) → Refusal → List ℕ
fault_text at_commit refusal.NoMemory = codes "1 - NO MEMORY"
fault_text at_commit (refusal.Syntax at) = codes "2 - SYNTAX " ++ decimal at
fault_text at_commit (refusal.UnknownName name) = codes "3 - " ++ name
fault_text at_commit (refusal.NameTaken name) = codes "4 - " ++ name
fault_text at_commit refusal.TypeMismatch = codes "5 - TYPE"
fault_text at_commit (refusal.NullNotAllowed column) = codes "6 23000 " ++ column
fault_text at_commit (refusal.DuplicateKey table key) =
    codes "7 23000 " ++ table ++ codes " " ++ value_text key
fault_text at_commit (refusal.KeyUpdate column) = codes "8 - " ++ column
fault_text at_commit (refusal.OutOfRange column excess) = excess_text excess ++ column
fault_text at_commit (refusal.Violated assertion group) =
    violated_text at_commit ++ assertion ++ codes " " ++ root_text group
fault_text at_commit (refusal.NotDeferrable assertion) = codes "11 - " ++ assertion
fault_text at_commit (refusal.WriteConflict table key by) =
    codes "12 40001 " ++ table ++ codes " " ++ value_text key ++ codes " BY " ++ decimal by
fault_text at_commit (refusal.Dangerous reader pivot writer) =
    (codes "13 40001 READER " ++ party_text reader)
    ++ (codes " PIVOT " ++ party_text pivot)
    ++ (codes " WRITER " ++ party_text writer)
fault_text at_commit refusal.NoTransaction = codes "14 - NO TRANSACTION"
fault_text at_commit refusal.TransactionOpen = codes "15 - TRANSACTION OPEN"
fault_text at_commit refusal.Stranger = codes "16 - STRANGER"
fault_text at_commit refusal.EpochFull = codes "17 - EPOCH FULL"
fault_text at_commit refusal.TooWide = codes "18 - TOO WIDE"
fault_text at_commit (refusal.TooDeep at) = codes "19 - TOO DEEP " ++ decimal at
fault_text at_commit refusal.OutsideClass = codes "20 - OUTSIDE CLASS"
fault_text at_commit (refusal.FalseAtCreation assertion group) =
    codes "21 - " ++ assertion ++ codes " " ++ root_text group
fault_text at_commit (refusal.AttributeClash assertion) = codes "22 - " ++ assertion
fault_text at_commit refusal.ReadOnlyTransaction = codes "23 - READ ONLY"
fault_text at_commit refusal.TooManySessions = codes "24 - TOO MANY SESSIONS"

-- whether an event is COMMIT
abbrev pub is_commit : Event → Bool
is_commit event.Begin = false
is_commit event.BeginReadOnly = false
is_commit event.Commit = true
is_commit event.Rollback = false
is_commit (event.Run statement) = false

-- the name that a VERDICT asks for
abbrev pub asked_name : Event → List ℕ
asked_name (event.Run (statement.Verdict name)) = name
asked_name _ = []

-- the values of a row behind its first, each behind a comma and a space
abbrev pub further_values : RowValues → List ℕ
further_values [] = []
further_values (v ∷ row) = (codes ", " ++ value_text v) ++ further_values row

-- the values of a row, in the order in which SELECT names the columns
abbrev pub row_text : RowValues → List ℕ
row_text [] = []
row_text (v ∷ row) = value_text v ++ further_values row

-- a line for each row, behind the line before it
abbrev pub row_lines : List RowValues → List ℕ
row_lines [] = []
row_lines (row ∷ rows) = (codes "\n  " ++ row_text row) ++ row_lines rows

-- what a statement is answered that was not refused
abbrev pub reply_text : Event → Reply → List ℕ
reply_text event (Inserted n) = codes "INSERT " ++ decimal n
reply_text event (Updated n) = codes "UPDATE " ++ decimal n
reply_text event (Deleted n) = codes "DELETE " ++ decimal n
reply_text event (Rows rows) = (codes "SELECT " ++ decimal (length rows)) ++ row_lines rows
reply_text event ModesSet = codes "SET CONSTRAINTS"
reply_text event (Verdict truth) = codes "VERDICT " ++ asked_name event ++ codes " " ++ name_of truth

-- what an event is answered, or the fault by which it is refused
abbrev pub answer_text : Event → Answer → List ℕ
answer_text event (Begun n) = codes "BEGIN " ++ decimal n
answer_text event (Replied reply) = reply_text event reply
answer_text event (Committed n) = codes "COMMIT " ++ decimal n
answer_text event RolledBack = codes "ROLLBACK"
answer_text event (Refused refusal) = codes "REFUSED " ++ fault_text (is_commit event) refusal

-- the line of an event's answer: the session, what was answered, and a line feed
abbrev pub answer_line : ScriptLine → Answer → List ℕ
answer_line script_line answer = script_line.session ++ codes ": " ++ answer_text script_line.event answer ++ codes "\n"

-- the line of a transaction that is open when its session's events end
abbrev pub left_open_line : List ℕ → List ℕ
left_open_line session = session ++ codes ": ROLLBACK AT END\n"

-- the line of a COMMIT that is accepted and could not be kept in a journal
abbrev pub not_kept_line : List ℕ → List ℕ
not_kept_line session = session ++ codes ": REFUSED 25 58030 IO ERROR\n"

-- the line of a text that was refused whole, by the name of the text
abbrev pub refusal_line : List ℕ → Refusal → List ℕ
refusal_line text refusal = text ++ codes ": REFUSED " ++ fault_text false refusal ++ codes "\n"
