-- What an open transaction holds is what its trace leaves.
use Rattle.std.specs.Prelude.{◌≡◌, true, List, Option, length}
use Rattle.std.specs.List.{list_all}
use Rattle.value.specs.declared.refusals.Refusal.{Refusal}
use Rattle.table.specs.declared.rows.Change.{Change}
use Rattle.assertion.specs.Declarations.{layouts_in}
use Rattle.alone.specs.Modes.{Immediates}
use Rattle.siread.specs.declared.keys.LockKey.{LockKey}
use Rattle.alone.specs.Resolve.{is_read_only}
use Rattle.delta.specs.Views.{ViewState}
use Rattle.changes.specs.Nets.{AreNoted, Noted}
use Rattle.txn.specs.Transactions.{OpenTransaction, keys_of, outcome_of, own_view, run_of, standing_of}

-- its own view, its modes, in which rows its view differs from what it began on, and what it has read; and a read-only
-- one has run no statement that changes rows
pub record IsHeld (t : OpenTransaction) (own : ViewState) (modes : Immediates) (touched : Noted)
    (reads : List LockKey) : Type 0 where
  pub own_is : own ≡ own_view t
  pub modes_are : modes ≡ (standing_of t).modes
  pub long : length modes ≡ length t.declared.assertions
  pub noted : AreNoted (layouts_in t.declared) t.start own.state touched
  pub reads_are : reads ≡ (run_of t).reads
  pub no_changes : t.read_only ≡ true → list_all is_read_only t.trace ≡ true

-- what a transaction that goes to COMMIT has beside: its net change, the refusal by a false assertion, and what it
-- has read
pub record IsClosed (t : OpenTransaction) (changes : List Change) (refused : Option Refusal)
    (reads : List LockKey) : Type 0 where
  pub changes_are : changes ≡ (outcome_of t).changes
  pub refused_is : refused ≡ (outcome_of t).refused
  pub reads_are : reads ≡ keys_of t
