-- Running the committed transactions alone, one after the other.
use Rattle.std.specs.Prelude.{◌≡◌, ℕ, true, List, [], ◌∷◌, Option, None, nat_le, filter, Contains, ⊤}
use Rattle.table.specs.Rows.{RowValues}
use Rattle.table.specs.declared.rows.Change.{Change}
use Rattle.siread.specs.declared.keys.Place.{Place}
use Rattle.siread.specs.declared.keys.LockKey.{LockKey}
use Rattle.siread.specs.Keys.{AlikeUnder, are_among, place_of}
use Rattle.alone.specs.Alone.{Outcome}
use Rattle.alone.specs.declared.records.Record.{Record}

-- the commits of a log that a snapshot holds
abbrev pub commits_in_snapshot : ℕ → List Record → List Record
commits_in_snapshot snapshot log = filter (λ other. nat_le other.number snapshot) log

-- the state after the commits of a log: their net changes put in, in the order of their numbers
abbrev pub state_after : {S : Type 0} → (S → List Change → S) → S → List Record → S
state_after put start [] = start
state_after put start (commit ∷ earlier) = put (state_after put start earlier) commit.changes

-- net changes put in one after the other, in the order of the list
abbrev pub all_put : {S : Type 0} → (S → List Change → S) → S → List Record → S
all_put put state [] = state
all_put put state (commit ∷ rest) = all_put put (put state commit.changes) rest

-- the state after running the transactions of a list alone, each on what the one before it left
abbrev pub replay : {S : Type 0} → (S → List Change → S) → (Record → S → Outcome) → S → List Record → S
replay put run state [] = state
replay put run state (first ∷ rest) = replay put run (put state (run first state).changes) rest

-- in such a replay each answers what it was answered before
abbrev pub Replays : {S : Type 0}
    → (S → List Change → S) → (Record → S → Outcome) → (Record → Outcome) → S → List Record → Type 0
Replays put run answered state [] = ⊤
Replays put run answered state (first ∷ rest) =
    (run first state ≡ answered first) × Replays put run answered (put state (run first state).changes) rest

-- what is asked of running a transaction alone on a state
pub record IsSemantics (S : Type 0) (put : S → List Change → S) (look : S → Place → Option RowValues)
    (run : Record → S → Outcome) (keys : Record → S → List LockKey) (IsGood : S → Type 0) : Type 0 where
  -- a change has the old row that stands in the state
  pub exact : (transaction : Record) (state : S) (change : Change)
      → Contains (run transaction state).changes change → look state (place_of change) ≡ change.old
  -- an accepted commit leaves a good state
  pub keeps : (transaction : Record) (state : S)
      → IsGood state → (run transaction state).refused ≡ None → IsGood (put state (run transaction state).changes)
  -- agreement: on a good state with the same rows under each key that it reads on this one, it answers the same
  pub agreement : (transaction : Record) (state other : S)
      → IsGood state → IsGood other → (run transaction state).refused ≡ None
      → AlikeUnder look (keys transaction state) state other
      → run transaction other ≡ run transaction state

-- The record is that of the transaction's run on the state of its snapshot: its COMMIT is accepted there, its net
-- change is the one recorded, and the keys recorded are those that it reads, in any order.
pub record IsRecorded {S : Type 0} (state : S) (run : Record → S → Outcome) (keys : Record → S → List LockKey)
    (commit : Record) : Type 0 where
  pub accepted : (run commit state).refused ≡ None
  pub changes : (run commit state).changes ≡ commit.changes
  pub reads : are_among (keys commit state) commit.reads ≡ true
  pub reads_no_more : are_among commit.reads (keys commit state) ≡ true

-- each commit of the log was recorded so
abbrev pub IsHistory : {S : Type 0}
    → (S → List Change → S) → S → (Record → S → Outcome) → (Record → S → List LockKey) → List Record → Type 0
IsHistory put start run keys [] = ⊤
IsHistory put start run keys (commit ∷ earlier) =
    IsRecorded (state_after put start (commits_in_snapshot commit.snapshot earlier)) run keys commit
    × IsHistory put start run keys earlier
