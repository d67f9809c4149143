-- What UPDATE and DELETE do to a view, and changes that may be put into a state one after the other.
use Rattle.std.specs.Prelude.{ℕ, List, All, Result}
use Rattle.value.specs.declared.refusals.Refusal.{Refusal}
use Rattle.table.specs.declared.conds.Cond.{Cond}
use Rattle.table.specs.declared.rows.Change.{Change}
use Rattle.table.specs.Rows.{Layout, key_of}
use Rattle.assertion.specs.Declarations.{layouts_in}
use Rattle.assertion.specs.Meaning.{State}
use Rattle.assertcheck.specs.declared.updates.Setting.{Setting}
use Rattle.alone.specs.States.{AreDue}
use Rattle.alone.specs.Statements.{Effect, columns_of, delete_effect, found_rows, update_effect}
use Rattle.delta.specs.Views.{IsFitting, ViewState}
use Rattle.changes.specs.Filters.{Filter}

-- each with the old row that stands there, in the order of their places, and with a new row that fits its table
pub record ArePutIn (layouts : List Layout) (changes : List Change) (state : State) : Type 0 where
  pub due : AreDue layouts changes state
  pub fit : All (IsFitting layouts) changes

-- a WHERE on a table of a view
abbrev pub filter_on : ViewState → ℕ → Cond → Filter
filter_on own table condition =
    record { table = table; key = key_of table (layouts_in own.declared); condition = condition }

-- what an UPDATE does to the rows of a view that its WHERE keeps
abbrev pub update_of : ViewState → List Setting → Filter → Result Effect Refusal
update_of own sets filter =
    update_effect (columns_of filter.table (layouts_in own.declared)) filter.table filter.key sets
    (found_rows own.state filter.table filter.condition)

-- what a DELETE does to them
abbrev pub delete_of : ViewState → Filter → Effect
delete_of own filter =
    delete_effect filter.table filter.key (found_rows own.state filter.table filter.condition)
