-- What a handle owns, and what each call makes of it.
use Rattle.std.specs.Prelude.{◌≡◌, ℤ, pos, List, ℕ}
use mathlib.Core.Logic.{◌⊎◌, inl, inr}
use base.Fml.{Fml, ftrue, fex}
use denote.RawPtr.{Ptr}
use Rattle.std.specs.declared.alloc.Global.{Global}
use Rattle.std.specs.contracts.impls.GlobalAllocator.TheImpl.{ghosts}
use Rattle.std.specs.Box.Ownership.{box_owns}
use Rattle.calls.specs.States.{LibraryState, IsOpened, IsOpenedOn}
use Rattle.calls.specs.contracts.libraries.Library.{the_row}

-- the library at p, in the state s, and the right to free its block
abbrev pub handle : Global → Ptr → LibraryState → Fml
handle alloc p s = box_owns (ghosts.dealloc_token alloc) the_row p s

-- a handle at p, in a state of which Is is true
abbrev pub handle_where : Global → Ptr → (LibraryState → Type 0) → Fml
handle_where alloc p Is = fex ((s : LibraryState) × Is s) (λ x. handle alloc p x.0)

-- status 0, or status 2 and the same pointer as before
abbrev pub IsMade : Ptr → Ptr → ℤ → Type 0
IsMade old new status = (status ≡ pos 0) ⊎ ((status ≡ pos 2) × (new ≡ old))

-- what holds of the memory after a call by its status: where it is 0 what was made, and else nothing is said
abbrev pub made_to : {old new : Ptr} {status : ℤ} → Fml → IsMade old new status → Fml
made_to made (inl _) = made
made_to made (inr _) = ftrue

-- status 0, and at new a handle in a state of which Is is true; or status 2, and nothing was made
abbrev pub outcome_where : Global → (LibraryState → Type 0) → Ptr → Ptr → ℤ → Fml
outcome_where alloc Is old new status = fex (IsMade old new status) (made_to (handle_where alloc new Is))

-- the same of what a request opens
abbrev pub outcome_of_open : Global → (request : List ℕ) → Ptr → Ptr → ℤ → Fml
outcome_of_open alloc request old new status = outcome_where alloc (IsOpened request) old new status

-- and of what it opens on the journal in a file
abbrev pub outcome_of_open_journal : Global → (request file : List ℕ) → Ptr → Ptr → ℤ → Fml
outcome_of_open_journal alloc request file old new status =
    outcome_where alloc (IsOpenedOn request file) old new status
