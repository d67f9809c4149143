-- What is wrong with the values of an INSERT, in the order in which it is answered.
use Rattle.std.specs.Prelude.{ℕ, ◌^◌, Bool, true, false, ◌&&◌, nat_le, List, [], ◌∷◌, Option, Some, None, unsigned_abs, if◌then◌else◌}
use Rattle.std.specs.Option.{option_or}
use Rattle.value.specs.declared.values.Value.{Value}
use Rattle.value.specs.declared.values.Value.TheVariants.{Null, Int, Text}
use Rattle.value.specs.declared.values.ColType.{ColType}
use Rattle.value.specs.declared.values.ColType.TheVariants.{Integer, Varchar}
use Rattle.value.specs.declared.refusals.Excess.TheVariants as excess
use Rattle.value.specs.declared.refusals.Refusal.{Refusal}
use Rattle.value.specs.declared.refusals.Refusal.TheVariants.{TypeMismatch, NullNotAllowed, OutOfRange}
use Rattle.value.specs.Texts.{is_plain, character_count}
use Rattle.table.specs.declared.schemas.Column.{Column}
use Rattle.table.specs.Rows.{RowValues}

-- whether a value is of a type: NULL is of each, a text that is not plain of none
abbrev pub is_typed : ColType → Value → Bool
is_typed kind Null = true
is_typed Integer (Int n) = true
is_typed Integer (Text bytes) = false
is_typed (Varchar most) (Int n) = false
is_typed (Varchar most) (Text bytes) = is_plain bytes

-- whether there is a value for each column, each of its type
abbrev pub are_typed : List Column → RowValues → Bool
are_typed [] [] = true
are_typed [] (v ∷ vs) = false
are_typed (c ∷ cs) [] = false
are_typed (c ∷ cs) (v ∷ vs) = is_typed c.kind v && are_typed cs vs

-- what is wrong with a text in a column of a type: that it has too many characters
abbrev pub text_fault : List ℕ → ColType → List ℕ → Option Refusal
text_fault name Integer bytes = None
text_fault name (Varchar most) bytes = if nat_le (character_count bytes) most then None else Some (OutOfRange name excess.Text)

-- what is wrong with a value in a column: NULL where it takes none, or out of its range
abbrev pub fault_in : Column → Value → Option Refusal
fault_in column Null = if column.nullable then None else Some (NullNotAllowed column.name)
fault_in column (Int n) =
    if nat_le (unsigned_abs n) (10 ^ 15) then None else Some (OutOfRange column.name excess.Number)
fault_in column (Text bytes) = text_fault column.name column.kind bytes

-- the first of a row's faults, by columns in the table's order
abbrev pub row_fault : List Column → RowValues → Option Refusal
row_fault [] values = None
row_fault (column ∷ columns) [] = None
row_fault (column ∷ columns) (v ∷ values) = option_or (fault_in column v) (row_fault columns values)

-- why a row is refused: for its types, and else for its first fault
abbrev pub row_refusal : List Column → RowValues → Option Refusal
row_refusal columns values = if are_typed columns values then row_fault columns values else Some TypeMismatch
