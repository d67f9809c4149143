-- A log of transactions that ran on tables.
use Rattle.std.specs.Prelude.{◌≡◌, ℕ, List, reverse, Contains}
use Rattle.table.specs.declared.rows.Change.{Change}
use Rattle.assertion.specs.Declarations.{Declared, layouts_in}
use Rattle.assertion.specs.Meaning.{State}
use Rattle.assertion.specs.Changes.{state_after_all}
use Rattle.siread.specs.declared.keys.LockKey.{LockKey}
use Rattle.alone.specs.Alone.{Outcome, transaction, transaction_keys, IsSound}
use Rattle.alone.specs.declared.records.Record.{Record}
use Rattle.alone.specs.Commits.{IsLog}
use Rattle.alone.specs.Order.{serial_order}
use Rattle.alone.specs.Replay.{commits_in_snapshot, state_after, all_put, replay, Replays, IsRecorded, IsHistory}

-- a net change put into a state
abbrev pub put_in : Declared → State → List Change → State
put_in declared state changes = state_after_all (layouts_in declared) changes state

-- a recorded transaction, run alone on a state, and what it reads there
abbrev pub run_of : Declared → Record → State → Outcome
run_of declared commit state = transaction declared commit.trace state

-- the keys under which a recorded transaction reads, run alone on a state
abbrev pub keys_of : Declared → Record → State → List LockKey
keys_of declared commit state = transaction_keys declared commit.trace state

-- the state after the commits up to a number, and after all
abbrev pub state_of : Declared → State → List Record → ℕ → State
state_of declared start log number = state_after (put_in declared) start (commits_in_snapshot number log)

-- the state after all commits
abbrev pub newest : Declared → State → List Record → State
newest declared start log = state_after (put_in declared) start log

-- what a transaction was answered on the state of its snapshot: its statements' replies, its net change, its COMMIT
abbrev pub outcome_on_snapshot : Declared → State → List Record → Record → Outcome
outcome_on_snapshot declared start log commit = run_of declared commit (state_of declared start log commit.snapshot)

-- each commit of the log was accepted over those before it, and recorded as its trace runs alone on the tables of its
-- snapshot
pub record IsEpoch (declared : Declared) (start : State) (log : List Record) : Type 0 where
  pub admitted : IsSound declared start
  pub accepted : IsLog log
  pub history : IsHistory (put_in declared) start (run_of declared) (keys_of declared) log

-- each is recorded as it ran on the state of its snapshot
abbrev pub AreRecorded : Declared → State → List Record → Type 0
AreRecorded declared start log = (commit : Record) → Contains log commit
    → IsRecorded (state_of declared start log commit.snapshot) (run_of declared) (keys_of declared) commit

-- in the serial order each answers what it was answered
abbrev pub AnswersAgain : Declared → State → List Record → Type 0
AnswersAgain declared start log =
    Replays (put_in declared) (run_of declared) (outcome_on_snapshot declared start log) start (serial_order log)

-- and the last leaves the newest state
abbrev pub EndsNewest : Declared → State → List Record → Type 0
EndsNewest declared start log =
    replay (put_in declared) (run_of declared) start (serial_order log) ≡ newest declared start log

-- and the states after each number of commits make no assertion false
abbrev pub AreSound : Declared → State → List Record → Type 0
AreSound declared start log = (number : ℕ) → IsSound declared (state_of declared start log number)

-- what holds of each log of transactions that ran on tables
abbrev pub InEachEpoch : (Declared → State → List Record → Type 0) → Type 0
InEachEpoch Holds = (declared : Declared) (start : State) (log : List Record)
    → IsEpoch declared start log → Holds declared start log

-- put in from the oldest on, the net changes give the newest state
abbrev pub InTurn : Declared → State → List Record → Type 0
InTurn declared start log = all_put (put_in declared) start (reverse log) ≡ newest declared start log
