-- How much an epoch holds.
use Rattle.std.specs.Prelude.{ℕ, Bool, ◌&&◌, nat_le, nat_lt}

-- how many commits, and how many sessions
pub record LimitsState : Type 0 where
  pub commits : ℕ
  pub sessions : ℕ

-- whether they are within their ranges
abbrev pub are_limits : (commits sessions : ℕ) → Bool
are_limits commits sessions =
    nat_lt 0 commits && (nat_lt 0 sessions && nat_le sessions 65536)
