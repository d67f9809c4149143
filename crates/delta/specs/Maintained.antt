-- What a view keeps for its assertions, and how it agrees with the tables.
use Rattle.std.specs.Prelude.{◌≡◌, ℕ, ◌<◌, ◌^◌, List, length, slice_index_or}
use Rattle.table.specs.declared.rows.Change.{Change}
use Rattle.table.specs.Rows.{Layout, Tables, layouts_of}
use Rattle.assertion.specs.declared.assertions.Assertion.{Assertion}
use Rattle.assertion.specs.declared.forms.Form.{Form}
use Rattle.assertion.specs.Meaning.{State, rows_of, verdict_of}
use Rattle.assertion.specs.Roots.{AreBad}
use Rattle.assertion.specs.Changes.{IsChangeOf, state_after}
use Rattle.roots.specs.Maintained.{AreMaintained}
use Rattle.delta.specs.declared.watches.Watch.{Watch}
use Rattle.delta.specs.Views.{AreTables, AreBounded, IsFitting}

-- the rows of each table can be counted
abbrev pub AreShort : State → Type 0
AreShort state = (table : ℕ) → length (rows_of table state) < 2 ^ 63

-- the rows are tables of these layouts, and can be counted
pub record IsGood (layouts : List Layout) (state : State) : Type 0 where
  pub tables : AreTables layouts state
  pub short : AreShort state

-- what is maintained for an assertion is right on these tables
pub record IsWatched (layouts : List Layout) (state : State) (form : Form) (watch : Watch) : Type 0 where
  pub totals : AreMaintained layouts state form watch.totals.items
  pub bad : AreBad layouts form state watch.bad
  pub truth : watch.truth ≡ verdict_of layouts form state

-- two watches keep the same
pub record AreAlike (v w : Watch) : Type 0 where
  pub totals : v.totals.items ≡ w.totals.items
  pub bad : v.bad ≡ w.bad
  pub truth : v.truth ≡ w.truth

-- the watches of two lists do, one by one
pub record AreAllAlike (vs ws : List Watch) : Type 0 where
  pub long : length vs ≡ length ws
  pub each : (i : ℕ) (w : Watch) → AreAlike (slice_index_or vs i w) (slice_index_or ws i w)

-- the first n watches are right for the first n assertions
pub record AreWatched (layouts : List Layout) (state : State) (assertions : List Assertion) (n : ℕ)
    (watches : List Watch) : Type 0 where
  pub long : length watches ≡ n
  pub right : (i : ℕ) → i < n → (a : Assertion) (w : Watch)
      → IsWatched layouts state (slice_index_or assertions i a).form (slice_index_or watches i w)

-- tables are others with one change
pub record IsStep (layouts : List Layout) (change : Change) (before after : State) : Type 0 where
  pub good : IsGood layouts before
  pub is : IsChangeOf layouts change before
  pub fits : IsFitting layouts change
  pub changed : after ≡ state_after layouts change before
  pub good_after : IsGood layouts after

-- the parts of a view agree
pub record IsMaintained (tables : Tables) (layouts : List Layout) (assertions : List Assertion) (state : State)
    (watches : List Watch) : Type 0 where
  pub lays : layouts ≡ layouts_of tables
  pub bounded : AreBounded assertions
  pub good : IsGood layouts state
  pub watched : AreWatched layouts state assertions (length assertions) watches
