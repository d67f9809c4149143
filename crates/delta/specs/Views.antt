-- What contracts see of a view, and what may be put into it.
use Rattle.std.specs.Prelude.{◌≡◌, ◌++◌, ℕ, List, [], ◌∷◌, All, filter, length, not}
use Rattle.std.specs.Str.{bytes_eq}
use Rattle.value.specs.Ordered.{HoldsOf}
use Rattle.table.specs.declared.rows.Change.{Change}
use Rattle.table.specs.Rows.{layout_at, Layout, FitsColumns, IsTable}
use Rattle.assertion.specs.declared.assertions.Assertion.{Assertion}
use Rattle.assertion.specs.Bounded.{IsBounded}
use Rattle.assertion.specs.Declarations.{Declared}
use Rattle.assertion.specs.Meaning.{State, rows_of}

-- a view: the tables and assertions that are declared, and the rows of each table
pub record ViewState : Type 0 where
  pub declared : Declared
  pub state : State

-- for each layout there are the rows of a table of it
pub record AreTables (layouts : List Layout) (state : State) : Type 0 where
  pub long : length state ≡ length layouts
  pub each : (table : ℕ) → IsTable (layout_at table layouts) (rows_of table state)

-- the new row of a change, if there is one, fits the columns of its table
abbrev pub IsFitting : List Layout → Change → Type 0
IsFitting layouts change = HoldsOf (FitsColumns (layout_at change.table layouts).columns) change.new

-- each assertion is evaluated without overflow
abbrev pub AreBounded : List Assertion → Type 0
AreBounded assertions = All (λ a. IsBounded a.form) assertions

-- what is declared with an assertion behind the others, or without those of a name
abbrev pub with_assertion : Assertion → Declared → Declared
with_assertion assertion declared = record declared { assertions = declared.assertions ++ assertion ∷ [] }

-- what is declared without the assertions of a name
abbrev pub without_assertion : (name : List ℕ) → Declared → Declared
without_assertion name declared =
    record declared { assertions = filter (λ a. not (bytes_eq a.name name)) declared.assertions }
