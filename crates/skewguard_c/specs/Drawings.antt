-- What a call returns that draws a fault. What is drawn is for people, and no clause speaks of it.
use Rattle.std.specs.Prelude.{◌≡◌, ◌⊎◌, ℤ, pos, List, ℕ, length}
use Rattle.calls.specs.States.{buffer_after}

-- a text is in the buffer as far as it fits, and its whole length is told
pub record IsTold (old new : List ℕ) (len : ℕ) (status : ℤ) : Type 0 where
  pub text : List ℕ
  pub bytes : new ≡ buffer_after old text
  pub length_is : len ≡ length text
  pub status_is : status ≡ pos 0

-- or none is, for want of memory or since the request was none
pub record IsUntold (old new : List ℕ) (len : ℕ) (status : ℤ) : Type 0 where
  pub bytes : new ≡ old
  pub length_is : len ≡ 0
  pub status_is : (status ≡ pos 2) ⊎ (status ≡ pos 4)

-- one of these
abbrev pub IsDrawn : List ℕ → List ℕ → ℕ → ℤ → Type 0
IsDrawn old new len status = IsTold old new len status ⊎ IsUntold old new len status
