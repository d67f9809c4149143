-- The parts of a refusal, and how they are spelled.
use Rattle.std.specs.Prelude.{ℕ, Bool, true, false, List, [], ◌∷◌, ◌++◌, codes}
use Rattle.value.specs.declared.refusals.Party.{Party}
use Rattle.value.specs.declared.refusals.Party.TheVariants.{This, Number}
use Rattle.value.specs.declared.refusals.Excess.{Excess}
use Rattle.value.specs.declared.refusals.Excess.TheVariants as excess
use Rattle.value.specs.declared.refusals.Refusal.{Refusal}
use Rattle.value.specs.declared.refusals.Refusal.TheVariants as refusal
use Rattle.messages.specs.Spelling.{number, root, text, value}

-- the number of a refusal in the report
abbrev pub number_of : Refusal → ℕ
number_of refusal.NoMemory = 1
number_of (refusal.Syntax at) = 2
number_of (refusal.UnknownName name) = 3
number_of (refusal.NameTaken name) = 4
number_of refusal.TypeMismatch = 5
number_of (refusal.NullNotAllowed column) = 6
number_of (refusal.DuplicateKey table key) = 7
number_of (refusal.KeyUpdate column) = 8
number_of (refusal.OutOfRange column excess) = 9
number_of (refusal.Violated assertion group) = 10
number_of (refusal.NotDeferrable assertion) = 11
number_of (refusal.WriteConflict table key by) = 12
number_of (refusal.Dangerous reader pivot writer) = 13
number_of refusal.NoTransaction = 14
number_of refusal.TransactionOpen = 15
number_of refusal.Stranger = 16
number_of refusal.EpochFull = 17
number_of refusal.TooWide = 18
number_of (refusal.TooDeep at) = 19
number_of refusal.OutsideClass = 20
number_of (refusal.FalseAtCreation assertion group) = 21
number_of (refusal.AttributeClash assertion) = 22
number_of refusal.ReadOnlyTransaction = 23
number_of refusal.TooManySessions = 24

-- the SQLSTATE of a number beyond its range, and of a text past its length
abbrev pub excess_state : Excess → List ℕ
excess_state excess.Number = codes "22003"
excess_state excess.Text = codes "22001"

-- of a violated assertion, at a statement or at COMMIT
abbrev pub violated_state : (at_commit : Bool) → List ℕ
violated_state false = codes "23000"
violated_state true = codes "40002"

-- of a refusal, if it has one
abbrev pub sqlstate_of : (at_commit : Bool) → Refusal → List ℕ
sqlstate_of at_commit (refusal.NullNotAllowed column) = codes "23000"
sqlstate_of at_commit (refusal.DuplicateKey table key) = codes "23000"
sqlstate_of at_commit (refusal.OutOfRange column excess) = excess_state excess
sqlstate_of at_commit (refusal.Violated assertion group) = violated_state at_commit
sqlstate_of at_commit (refusal.WriteConflict table key by) = codes "40001"
sqlstate_of at_commit (refusal.Dangerous reader pivot writer) = codes "40001"
sqlstate_of at_commit other = []

-- the assertion, the column or the table that it names, if it names one
abbrev pub name_of : Refusal → List ℕ
name_of (refusal.UnknownName name) = name
name_of (refusal.NameTaken name) = name
name_of (refusal.NullNotAllowed column) = column
name_of (refusal.DuplicateKey table key) = table
name_of (refusal.KeyUpdate column) = column
name_of (refusal.OutOfRange column excess) = column
name_of (refusal.Violated assertion group) = assertion
name_of (refusal.NotDeferrable assertion) = assertion
name_of (refusal.WriteConflict table key by) = table
name_of (refusal.FalseAtCreation assertion group) = assertion
name_of (refusal.AttributeClash assertion) = assertion
name_of other = []

-- the root at which an assertion is false, or the key of a row
abbrev pub place : Refusal → List ℕ
place (refusal.DuplicateKey table key) = value key
place (refusal.Violated assertion group) = root group
place (refusal.WriteConflict table key by) = value key
place (refusal.FalseAtCreation assertion group) = root group
place other = 4 ∷ []

-- the commit that changed the same row
abbrev pub conflict_of : Refusal → ℕ
conflict_of (refusal.WriteConflict table key by) = by
conflict_of other = 0

-- a commit by its number; 0 is the transaction that is refused
abbrev pub party_number : Party → ℕ
party_number This = 0
party_number (Number n) = n

-- the reader of a dangerous triple by its number
abbrev pub reader_of : Refusal → ℕ
reader_of (refusal.Dangerous reader pivot writer) = party_number reader
reader_of other = 0

-- the pivot of a dangerous triple by its number
abbrev pub pivot_of : Refusal → ℕ
pivot_of (refusal.Dangerous reader pivot writer) = party_number pivot
pivot_of other = 0

-- the writer of a dangerous triple by its number
abbrev pub writer_of : Refusal → ℕ
writer_of (refusal.Dangerous reader pivot writer) = party_number writer
writer_of other = 0

-- the offset in the text at which it goes wrong
abbrev pub offset_of : Refusal → ℕ
offset_of (refusal.Syntax at) = at
offset_of (refusal.TooDeep at) = at
offset_of other = 0

-- which refusal it is, and what it names
abbrev pub refusal_head : (at_commit : Bool) → Refusal → List ℕ
refusal_head at_commit r = number (number_of r) ++ text (sqlstate_of at_commit r) ++ text (name_of r)

-- the commits and the place in the text
abbrev pub numbers : Refusal → List ℕ
numbers r =
    number (conflict_of r)
    ++ number (reader_of r) ++ number (pivot_of r) ++ number (writer_of r)
    ++ number (offset_of r)

-- the parts of a refusal, one behind the other
abbrev pub refusal_parts : (at_commit : Bool) → Refusal → List ℕ
refusal_parts at_commit r = refusal_head at_commit r ++ place r ++ numbers r
