-- What is known of a statement with its names found: its table is one of those that there are, its conditions are
-- evaluated without overflow, and an UPDATE leaves the key.
use Rattle.std.specs.Prelude.{◌≡◌, ◌≢◌, ◌<◌, false, [], All, IsTrue, length}
use Rattle.value.specs.declared.refusals.Refusal.TheVariants.{NoMemory}
use Rattle.table.specs.Bounds.{is_bounded}
use Rattle.assertion.specs.Declarations.{Declared, layouts_in}
use Rattle.table.specs.Rows.{key_of}
use Rattle.assertcheck.specs.declared.deletes.Delete.{Delete}
use Rattle.assertcheck.specs.declared.selects.Select.{Select}
use Rattle.assertcheck.specs.declared.updates.Update.{Update}
use Rattle.assertcheck.specs.Selects.{IsBoundedListing}
use Rattle.assertcheck.specs.Updates.{IsBoundedSetting}
use Rattle.alone.specs.declared.statements.ResolvedStatement.{ResolvedStatement}
use Rattle.alone.specs.declared.statements.ResolvedStatement.TheVariants as resolved
use Rattle.alone.specs.Statements.{sets_key}
use Rattle.changes.specs.Filters.{Filter}

-- what is known of a WHERE: it is on a table that there is, and knows its key
pub record IsRunnableFilter (declared : Declared) (filter : Filter) : Type 0 where
  pub table_in : filter.table < length declared.tables
  pub key_is : filter.key ≡ key_of filter.table (layouts_in declared)
  pub bounded : IsTrue (is_bounded [] filter.condition)

-- what is known of an UPDATE
pub record IsRunnableUpdate (declared : Declared) (update : Update) : Type 0 where
  pub table_in : update.table < length declared.tables
  pub bounded : IsTrue (is_bounded [] update.filter)
  pub bounded_sets : All IsBoundedSetting update.sets
  pub keyless : sets_key (key_of update.table (layouts_in declared)) update.sets ≡ false

-- what is known of a DELETE
pub record IsRunnableDelete (declared : Declared) (delete : Delete) : Type 0 where
  pub table_in : delete.table < length declared.tables
  pub bounded : IsTrue (is_bounded [] delete.filter)

-- what is known of a SELECT
pub record IsRunnableSelect (declared : Declared) (select : Select) : Type 0 where
  pub table_in : select.table < length declared.tables
  pub bounded_listing : IsBoundedListing select.listing
  pub bounded : IsTrue (is_bounded [] select.filter)

-- what is known of any statement; one that was refused found its refusal, and was not out of memory
abbrev pub IsRunnable : Declared → ResolvedStatement → Type 0
IsRunnable declared (resolved.Refused refusal) = refusal ≢ NoMemory
IsRunnable declared (resolved.Insert new) = new.table < length declared.tables
IsRunnable declared (resolved.Update update) = IsRunnableUpdate declared update
IsRunnable declared (resolved.Delete delete) = IsRunnableDelete declared delete
IsRunnable declared (resolved.Select select) = IsRunnableSelect declared select
IsRunnable declared (resolved.SetModes names mode) = Unit {0}
IsRunnable declared (resolved.Verdict name) = Unit {0}
