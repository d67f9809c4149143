-- The serial order, by the numbers of the commits, and the place in it of one of a rank.
use Rattle.std.specs.Prelude.{◌<◌, ◌≤◌, ℕ, List, drop, length, map, take}
use Rattle.std.specs.List.{AllByRecursion}
use Rattle.alone.specs.declared.records.Record.{Record}
use Rattle.alone.specs.Order.{rank, serial_order}

-- the numbers of some commits, in the order in which they stand
abbrev pub numbers_of : List Record → List ℕ
numbers_of order = map (λ (commit : Record). commit.number) order

-- behind all of no greater rank
pub record IsPlaceOf (rank_of : ℕ) (log : List Record) (at : ℕ) : Type 0 where
  pub within : at ≤ length (serial_order log)
  pub before : AllByRecursion (λ other. rank log other ≤ rank_of) (take at (serial_order log))
  pub behind : AllByRecursion (λ other. rank_of < rank log other) (drop at (serial_order log))
