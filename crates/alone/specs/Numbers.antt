-- The test of a commit by two numbers: the least commit to which it conflicts, and the greatest that conflicts to it
-- and reaches so far.
use Rattle.std.specs.Prelude.{◌≡◌, ◌≤◌, ℕ, Bool, true, false, ◌&&◌, if◌then◌else◌, nat_le, nat_lt, max, List, [], ◌∷◌, Contains}
use Rattle.std.specs.List.{list_any}
use Rattle.alone.specs.declared.records.Record.{Record}
use Rattle.alone.specs.Commits.{conflicts_to, reach, IsDangerous}
use Rattle.alone.specs.Order.{least_out}

-- the greatest number of those that conflict to the commit and reach at least so far, 0 where none does
abbrev pub greatest_reaching : ℕ → List Record → Record → ℕ
greatest_reaching least [] commit = 0
greatest_reaching least (other ∷ log) commit =
    if conflicts_to other commit && nat_le least (reach other)
    then max other.number (greatest_reaching least log commit)
    else greatest_reaching least log commit

-- the greatest of those that make a triple with the commit and the least to which it conflicts
abbrev pub greatest_in : List Record → Record → ℕ
greatest_in log commit = greatest_reaching (least_out log commit) log commit

-- Whether the commit would be the pivot of a dangerous triple. Without a conflict out, the least out is its own
-- number, above what any other reaches; without one in that reaches so far, the greatest in is 0, below all.
abbrev pub is_pivot : List Record → Record → Bool
is_pivot log commit = nat_le (least_out log commit) (greatest_in log commit)

-- whether it would be the reader of one, with this pivot
abbrev pub is_reader_of : List Record → Record → Record → Bool
is_reader_of log commit pivot =
    conflicts_to commit pivot
    && (nat_lt (least_out log pivot) pivot.number && nat_le (least_out log pivot) (reach commit))

-- whether it would be the reader of one
abbrev pub is_reader : List Record → Record → Bool
is_reader log commit = list_any (is_reader_of log commit) log

-- neither
pub record IsNeither (log : List Record) (commit : Record) : Type 0 where
  pub no_pivot : is_pivot log commit ≡ false
  pub no_reader : is_reader log commit ≡ false

-- the triple that is named where the commit can be the pivot: its greatest reader and its least writer
pub record IsPivotTriple (log : List Record) (reader commit writer : Record) : Type 0 where
  pub reader_in : Contains log reader
  pub writer_in : Contains log writer
  pub danger : IsDangerous reader commit writer
  pub greatest : (x y : Record) → Contains log x → Contains log y → IsDangerous x commit y → x.number ≤ reader.number
  pub least : (other : Record) → Contains log other → conflicts_to commit other ≡ true → writer.number ≤ other.number

-- the least of those with which the commit would be a reader
pub record IsLeastPivot (log : List Record) (commit pivot : Record) : Type 0 where
  pub listed : Contains log pivot
  pub passes : is_reader_of log commit pivot ≡ true
  pub least : (other : Record) → Contains log other
      → is_reader_of log commit other ≡ true → pivot.number ≤ other.number
