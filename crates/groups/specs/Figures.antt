-- What contracts see of a total.
use Rattle.std.specs.Prelude.{ℕ, ℤ, List}
use Rattle.groups.specs.Counts.{Count}

-- how many rows there are; of a column's values that are not NULL how many and their sum, with DISTINCT of each value
-- once; and how often each stands, where DISTINCT or one of the values is asked for
pub record Figures : Type 0 where
  pub rows : ℕ
  pub there : ℕ
  pub sum : ℤ
  pub values : List Count
