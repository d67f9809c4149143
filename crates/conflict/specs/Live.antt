-- Which snapshots are held by open transactions.
use Rattle.std.specs.Prelude.{◌<◌, ◌+◌, ◌==◌, ◌&&◌, ◌||◌, ℕ, Bool, not, nat_le, nat_lt, List, [], ◌∷◌, ◌++◌, filter, min, All, if◌then◌else◌}
use Rattle.std.specs.List.{list_all, list_any}
use Rattle.conflict.specs.declared.open_snapshots.LiveSnapshot.{LiveSnapshot}

-- how many transactions have begun, and the snapshots of those that have not ended, in the order of their begins
pub record LiveState : Type 0 where
  pub begun : ℕ
  pub snapshots : List LiveSnapshot

-- before the first begin
abbrev pub none_live : LiveState
none_live = record { begun = 0; snapshots = [] }

-- there is a begin number for one more: they are numbers of 64 bits, and none is given twice
abbrev pub has_begin_number : LiveState → Bool
has_begin_number live = nat_lt live.begun 18446744073709551615

-- one transaction more, by the next begin number
abbrev pub with_begin : (snapshot : ℕ) → (read_only : Bool) → LiveState → LiveState
with_begin snapshot read_only live = record {
  begun = live.begun + 1;
  snapshots = live.snapshots ++ record { begin_number = live.begun; snapshot = snapshot; read_only = read_only } ∷ [];
}

-- whether an open transaction has another begin number
abbrev pub is_other : (begin_number : ℕ) → LiveSnapshot → Bool
is_other begin_number one = not (one.begin_number == begin_number)

-- one less
abbrev pub without : (begin_number : ℕ) → LiveState → LiveState
without begin_number live = record { begun = live.begun; snapshots = filter (is_other begin_number) live.snapshots }

-- the lesser of a number and what the snapshot holds, if that is of one that may write
abbrev pub least_with : LiveSnapshot → ℕ → ℕ
least_with one least = if one.read_only then least else min one.snapshot least

-- The least number of commits that the snapshot of one of them that may write holds, or this one where that is less.
-- What was read is asked for by those that may write alone.
abbrev pub least_writing : (newest : ℕ) → List LiveSnapshot → ℕ
least_writing newest [] = newest
least_writing newest (one ∷ rest) = least_with one (least_writing newest rest)

-- each of them that may write holds at least so many commits
abbrev pub writers_hold : (snapshot : ℕ) → List LiveSnapshot → Bool
writers_hold snapshot snapshots =
    list_all (λ (one : LiveSnapshot). one.read_only || nat_le snapshot one.snapshot) snapshots

-- whether an open transaction with another begin number, which may write, has a snapshot below so far a reach: it may
-- ask for what is read up to there
abbrev pub may_another_ask : (begin_number reach : ℕ) → List LiveSnapshot → Bool
may_another_ask begin_number reach snapshots =
    list_any (λ (one : LiveSnapshot). is_other begin_number one && not one.read_only && nat_lt one.snapshot reach)
    snapshots

-- the begin numbers are of transactions that have begun
abbrev pub AreBelow : (begun : ℕ) → List LiveSnapshot → Type 0
AreBelow begun snapshots = All (λ one. one.begin_number < begun) snapshots
