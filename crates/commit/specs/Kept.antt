-- What the committed transactions keep at hand is what they determine.
use Rattle.std.specs.Prelude.{◌≡◌, ◌≤◌, ◌+◌, ◌==◌, ℕ, true, false, List, [], length, map, Option, Some, None, IfSome, ⊤}
use Rattle.alone.specs.declared.answers.RefusedCommit.{RefusedCommit}
use Rattle.delta.specs.Views.{ViewState}
use Rattle.siread.specs.Locks.{Reads}
use Rattle.conflict.specs.Live.{AreBelow, LiveState}
use Rattle.alone.specs.declared.records.Record.{Record}
use Rattle.alone.specs.Answer.{IsAnswer, Number}
use Rattle.alone.specs.Commits.{reach}
use Rattle.alone.specs.Epoch.{IsEpoch}
use Rattle.alone.specs.Order.{least_out}
use Rattle.txn.specs.Transactions.{outcome_of}
use Rattle.commit.specs.declared.prepared.Prepared.{Prepared}
use Rattle.commit.specs.Cores.{CoreState, IsLive, PendingCommit, locks_of, log_of, newest_tables, order_of, record_of, with_commit}

-- where no commit is prepared
abbrev pub idle_core : (limit : ℕ) → ViewState → List Record → List RefusedCommit → LiveState → CoreState
idle_core limit loaded records refused live = record {
  limit = limit;
  declared = loaded.declared;
  start = loaded.state;
  records = records;
  refused = refused;
  live = live;
  prepared = None;
}

-- the transaction whose commit is prepared
abbrev pub pending_of : Option Prepared → Option PendingCommit
pending_of None = None
pending_of (Some p) = Some (record { session = p.session; txn = p.closed })

-- The tables after the last commit; for each commit the least one to which it conflicts, or its own number, and how far
-- it reaches; and the numbers in serial order. Each commit was accepted over those before it, and recorded as it runs
-- alone on its snapshot.
pub record IsCore (c : CoreState) (newest : ViewState) (places reaches order : List ℕ) : Type 0 where
  pub epoch : IsEpoch c.declared c.start (log_of c)
  pub newest_is : newest ≡ newest_tables c
  pub places_are : places ≡ map (least_out (log_of c)) c.records
  pub reaches_are : reaches ≡ map reach c.records
  pub order_is : order ≡ order_of c
  pub within : length c.records ≤ c.limit
  pub small : c.limit ≤ 4294967295
  pub begin_numbers : AreBelow c.live.begun c.live.snapshots

-- What is prepared may be the next commit: no assertion is false on its own view, the epoch has room, and the
-- commits before it let it join them; if it is read only, it has changed nothing. The tables are those after it, and
-- the place is that of the least commit to which it conflicts.
pub record IsReady (c : CoreState) (p : Prepared) : Type 0 where
  pub live : IsLive c p.closed
  pub satisfied : (outcome_of p.closed).refused ≡ None
  pub changes_nothing : p.closed.read_only ≡ true → (outcome_of p.closed).changes ≡ []
  pub room : (length c.records == c.limit) ≡ false
  pub answer : IsAnswer (log_of c) (record_of c p.session p.closed) (Number (length c.records + 1))
  pub tables_are : p.tables ≡ newest_tables (with_commit c (record_of c p.session p.closed))
  pub place_is : p.place ≡ least_out (log_of c) (record_of c p.session p.closed)

-- the same of what is prepared, if a commit is
abbrev pub IsReadyIf : CoreState → Option Prepared → Type 0
IsReadyIf c None = ⊤
IsReadyIf c (Some p) = IsReady c p

-- All that is kept beside the records. Where a commit is prepared there is room for it.
abbrev pub IsKept : CoreState → (newest : ViewState) → (places reaches order : List ℕ) → (locks : Reads)
    → Option Prepared
    → (Room : Type 0) → Type 0
IsKept c newest places reaches order locks prepared Room =
    IsCore c newest places reaches order × IsReadyIf c prepared
    × (locks ≡ locks_of (record c { prepared = pending_of prepared }))
    × IfSome prepared (λ _. Room)
