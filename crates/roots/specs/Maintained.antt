-- The maintained totals of a form, and the bounds of the tables that they are of.
use Rattle.std.specs.Prelude.{◌≡◌, ℕ, ◌<◌, ◌≤◌, ◌^◌, List, length, All, slice_index_or}
use Rattle.value.specs.declared.values.Root.{Root}
use Rattle.value.specs.declared.values.Root.TheVariants.{All as Whole, Of}
use Rattle.value.specs.Ordered.{HoldsOf}
use Rattle.table.specs.declared.rows.Change.{Change}
use Rattle.table.specs.Rows.{Layout, key_of}
use Rattle.table.specs.Bounds.{IsSmallRow}
use Rattle.table.specs.Slots.{magnitude}
use Rattle.assertion.specs.declared.queries.Query.{Query}
use Rattle.assertion.specs.declared.forms.Form.{Form}
use Rattle.assertion.specs.declared.forms.Form.TheVariants.{ByRow, ByGroup, Single}
use Rattle.assertion.specs.Meaning.{State, rows_of}
use Rattle.assertion.specs.Changes.{IsChangeOf, IsOrdered, state_after}
use Rattle.groups.specs.Totals.{Entries, AreTotalsOf}
use Rattle.roots.specs.declared.grouped.Around.{Around}
use Rattle.roots.specs.declared.grouped.Grouping.{Grouping}
use Rattle.roots.specs.Summaries.{around_of, members, summaries_of}

-- the entries are the totals that a summary asks for, of its groups on these tables
abbrev pub AreTotalsFor : State → Query Grouping → Entries → Type 0
AreTotalsFor state s entries = AreTotalsOf s.aggregate (members state s) entries

-- the first n of the maintained totals are those of the first n summaries
pub record AreSoFar (state : State) (summaries : List (Query Grouping)) (n : ℕ) (totals : List Entries) : Type 0 where
  pub long : length totals ≡ n
  pub right : (i : ℕ) → i < n → (s : Query Grouping) (e : Entries)
      → AreTotalsFor state (slice_index_or summaries i s) (slice_index_or totals i e)

-- the maintained totals are those of the form's summaries on these tables, in order
abbrev pub AreMaintained : List Layout → State → Form → List Entries → Type 0
AreMaintained layouts state form totals =
    AreSoFar state (summaries_of layouts form) (length (summaries_of layouts form)) totals

-- where rows around are the groups, they go by the key of their table
abbrev pub IsKeyed : List Layout → Query Grouping → Type 0
IsKeyed layouts q =
    HoldsOf (λ (around : Around). around.key ≡ key_of around.table layouts) (around_of q.grouping)

-- no number of a row is larger than a column's, and the rows of a table are fewer than 2^63
pub record IsSmallState (state : State) : Type 0 where
  pub small : (table : ℕ) → All IsSmallRow (rows_of table state)
  pub short : (table : ℕ) → length (rows_of table state) < 2 ^ 63

-- tables within bounds and in key order are others with one change, the rows of which are within bounds
pub record IsStepOf (layouts : List Layout) (change : Change) (before after : State) : Type 0 where
  pub in_order : IsOrdered layouts before
  pub is : IsChangeOf layouts change before
  pub changed : after ≡ state_after layouts change before
  pub small : IsSmallState before
  pub small_after : IsSmallState after
  pub old_small : HoldsOf IsSmallRow change.old
  pub new_small : HoldsOf IsSmallRow change.new

-- a root that is a group is no larger a number than a column's
abbrev pub IsSmallRoot : Form → Root → Type 0
IsSmallRoot (ByRow table condition queries) root = Unit {0}
IsSmallRoot (ByGroup table restriction group having aggregates) Whole = Unit {0}
IsSmallRoot (ByGroup table restriction group having aggregates) (Of v) = magnitude v ≤ 10 ^ 15
IsSmallRoot (Single condition queries) root = Unit {0}
