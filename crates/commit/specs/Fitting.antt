-- Rows that fit their columns, on the committed tables and on each open transaction's own view.
use Rattle.std.specs.Prelude.{◌≡◌, ℕ, slice_get, Some}
use Rattle.assertion.specs.Declarations.{layouts_in}
use Rattle.delta.specs.Views.{ViewState}
use Rattle.alone.specs.Epoch.{state_of}
use Rattle.txn.specs.Fitting.{RowsFit}
use Rattle.txn.specs.Transactions.{OpenTransaction, own_view}
use Rattle.commit.specs.Cores.{CoreState, log_of}
use Rattle.commit.specs.Events.{EngineState, txn_of}

-- on these tables
abbrev pub ShownFit : ViewState → Type 0
ShownFit shown = RowsFit (layouts_in shown.declared) shown.state

-- on the tables after each number of commits
abbrev pub CommittedFit : CoreState → Type 0
CommittedFit c = (number : ℕ) → RowsFit (layouts_in c.declared) (state_of c.declared c.start (log_of c) number)

-- and on the own view of each open transaction
pub record AllFit (now : EngineState) : Type 0 where
  pub committed : CommittedFit now.core
  pub own : (place : ℕ) (t : OpenTransaction) → txn_of (slice_get now.seats place) ≡ Some t
      → ShownFit (own_view t)
