-- A WHERE on a table.
use Rattle.std.specs.Prelude.{ℕ}
use Rattle.table.specs.declared.conds.Cond.{Cond}

-- the table's place, that of its key column, and the condition that a row has to meet
pub record Filter : Type 0 where
  pub table : ℕ
  pub key : ℕ
  pub condition : Cond
