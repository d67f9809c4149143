-- The moments of a file, by its calls.
use Rattle.std.specs.Prelude.{◌≤◌, ℕ, List, [], ◌∷◌, length}
use mathlib.Core.Logic.{inl, inr}
use Rattle.std.proofs.Math.Nat.{not-suc-le_self}
use Rattle.journal_file.specs.Calls.{Event, may_leave, left_since}

-- what may be left now might have been left since any moment before
pub now_counts : (events : List Event) (t : ℕ) (c : List ℕ) → t ≤ length events → may_leave events c
    → left_since events t c
now_counts [] t c le now = now
now_counts (e ∷ earlier) t c le now = inl now

-- and since the last moment there is no other
pub only_at_end : (events : List Event) (c : List ℕ) → left_since events (length events) c → may_leave events c
only_at_end [] c left = left
only_at_end (e ∷ earlier) c (inl now) = now
only_at_end (e ∷ earlier) c (inr before) = absurd (not-suc-le_self (length earlier) before.0)
