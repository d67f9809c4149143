-- Transactions that can no more be refused for what others read and wrote (Ports and Grittner 2012, on safe snapshots).
use Rattle.std.specs.Prelude.{◌≡◌, ℕ, true, ⊤, Result, Err}
use Rattle.value.specs.declared.refusals.Refusal.{Refusal}
use Rattle.value.specs.declared.refusals.Refusal.TheVariants.{Dangerous, WriteConflict}
use Rattle.conflict.specs.Live.{writers_hold}
use Rattle.alone.specs.Safe.{IsSafe}
use Rattle.txn.specs.Transactions.{OpenTransaction}
use Rattle.commit.specs.Cores.{CoreState, log_of}

-- It is read only. Each transaction that may write, and that began on older tables than it did, has ended, and none of
-- them committed with a conflict to a commit that its snapshot holds.
pub record IsSafeReader (c : CoreState) (t : OpenTransaction) : Type 0 where
  pub reads : t.read_only ≡ true
  pub alone : writers_hold t.snapshot c.live.snapshots ≡ true
  pub snapshot : IsSafe (log_of c) t.snapshot

-- a COMMIT is not refused for what other transactions read and wrote
abbrev pub IsNotForOthers : Result ℕ Refusal → Type 0
IsNotForOthers (Err (WriteConflict name key by)) = ⊥
IsNotForOthers (Err (Dangerous reader pivot writer)) = ⊥
IsNotForOthers answer = ⊤
