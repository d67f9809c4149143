-- A ledger whose epoch is full.
use Rattle.std.specs.Prelude.{◌≡◌, ◌≤◌, ◌⊎◌, false, [], length}
use Rattle.commit.specs.Epochs.{IsNextEpoch, is_any_open}
use Rattle.durable.specs.declared.ledgers.Ledger.{Ledger}

-- no transaction is open, and a new epoch goes on from the newest tables, behind the same journal
pub record IsNewEpoch {D : Type 0} (old new : Ledger D) : Type 0 where
  pub full : old.engine.core.limit ≤ length old.engine.core.records
  pub closed : is_any_open old.engine.seats ≡ false
  pub next : IsNextEpoch [] [] old.engine.core new.engine.core
  pub seats : new.engine.seats ≡ old.engine.seats
  pub journal : new.writer ≡ record old.writer { last = old.writer.batch.newest }

-- that, or nothing has changed
abbrev pub IsFollowed : {D : Type 0} → (old new : Ledger D) → Type 0
IsFollowed old new = (new ≡ old) ⊎ IsNewEpoch old new
