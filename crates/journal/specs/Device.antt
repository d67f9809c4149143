-- What the calls of a device do to its file, and what a crash may do between two syncs.
use Rattle.std.specs.Prelude.{◌<◌, ◌≡◌, ◌⊎◌, ℕ, ◌≤◌, List, [], ◌∷◌, ◌++◌, length, Result, IsErrOf, ⊤}
use Rattle.journal.specs.declared.device.DeviceFault.{DeviceFault}
use Rattle.journal.specs.declared.device.DeviceFault.TheVariants.{Failed}
use Rattle.journal.specs.Tails.{zeros}

-- each byte is the one that was there, or the one that was to be written over it
abbrev pub IsEither : (bytes was now : List ℕ) → Type 0
IsEither [] [] [] = ⊤
IsEither (b ∷ bs) (w ∷ ws) (c ∷ cs) = ((c ≡ w) ⊎ (c ≡ b)) × IsEither bs ws cs
IsEither bytes was now = ⊥

-- after a write over what is there, which a crash cuts short
pub record Over (at : ℕ) (bytes old new : List ℕ) : Type 0 where
  pub front : List ℕ
  pub was : List ℕ
  pub now : List ℕ
  pub behind : List ℕ
  pub at_is : length front ≡ at
  pub old_is : old ≡ front ++ (was ++ behind)
  pub new_is : new ≡ front ++ (now ++ behind)
  pub either : IsEither bytes was now

-- after the whole write
pub record Written (at : ℕ) (bytes old new : List ℕ) : Type 0 where
  pub front : List ℕ
  pub was : List ℕ
  pub behind : List ℕ
  pub at_is : length front ≡ at
  pub same_length : length was ≡ length bytes
  pub old_is : old ≡ front ++ (was ++ behind)
  pub new_is : new ≡ front ++ (bytes ++ behind)

-- some zeros more
pub record Grown (old new : List ℕ) : Type 0 where
  pub more : ℕ
  pub is : new ≡ old ++ zeros more

-- each new outcome of a crash is an old outcome after a step
abbrev pub Follows : (List ℕ → List ℕ → Type 0) → (List ℕ → Type 0) → (List ℕ → Type 0) → Type 0
Follows step old new = (c : List ℕ) → new c → (d : List ℕ) × old d × step d c

-- a crash leaves this and nothing else
abbrev pub Only : List ℕ → (List ℕ → Type 0) → Type 0
Only file outcomes = (c : List ℕ) → outcomes c → c ≡ file

-- Time goes on: a crash since t might have left what it might have left before, or what it may leave now.
pub record Elapses (before now : ℕ) (past since : ℕ → List ℕ → Type 0) (may_leave : List ℕ → Type 0) : Type 0 where
  pub later : before ≤ now
  pub nothing_else : (t : ℕ) (c : List ℕ) → t ≤ before → since t c → past t c ⊎ may_leave c
  pub keeps : (t : ℕ) (c : List ℕ) → t ≤ before → past t c → since t c

-- A crash at any moment since old leaves a file that has P.
pub record LeavesOnly {D : Type 0} (moment : D → ℕ) (left_since : D → ℕ → List ℕ → Type 0) (old new : D)
    (P : List ℕ → Type 0) : Type 0 where
  pub later : moment old ≤ moment new
  pub each : (c : List ℕ) → left_since new (moment old) c → P c
  -- for a run that began earlier
  pub before : (t : ℕ) (c : List ℕ) → t ≤ moment old → left_since new t c → left_since old t c ⊎ P c

-- `Failed` is told only where the disk has failed since
pub record HasCause {T : Type 0} (before now : ℕ) (result : Result T DeviceFault) : Type 0 where
  pub later : before ≤ now
  pub failed : IsErrOf result Failed → before < now
