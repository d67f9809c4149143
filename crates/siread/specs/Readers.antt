-- The readers of one key.
use Rattle.std.specs.Prelude.{ℕ, zero, suc, Bool, true, false, ◌==◌, ◌<◌, ◌≤◌, ◌-◌, List, [], ◌∷◌, ◌++◌, length, filter, not, nat_le, nat_lt, reverse, Option, None, Some, slice_get, slice_index_or, if◌then◌else◌, ⊤}
use Rattle.std.specs.List.{AllByRecursion}

-- whether a key has no readers
abbrev pub is_none : List ℕ → Bool
is_none [] = true
is_none (first ∷ rest) = false

-- whether a reader is there, and has this number
abbrev pub is_number : ℕ → Option ℕ → Bool
is_number number None = false
is_number number (Some reader) = reader == number

-- whether the last of them is this number
abbrev pub ends_in : ℕ → List ℕ → Bool
ends_in number readers = is_number number (slice_get readers (length readers - 1))

-- with this number last
abbrev pub with_last : ℕ → List ℕ → List ℕ
with_last number readers = if ends_in number readers then readers else readers ++ number ∷ []

-- with this number taken out
abbrev pub left_out : ℕ → List ℕ → List ℕ
left_out number readers = filter (λ reader. not (reader == number)) readers

-- how far the reader of a number reaches: the first of the list is for the number 1, and past its end that is 0
abbrev pub reach_of : List ℕ → ℕ → ℕ
reach_of reaches zero = 0
reach_of reaches (suc before) = slice_index_or reaches before 0

-- whether the reader of a number reaches above this one
abbrev pub reaches_above : (low : ℕ) → (reaches : List ℕ) → ℕ → Bool
reaches_above low reaches reader = nat_lt low (reach_of reaches reader)

-- none reaches further than its number
abbrev pub ReachNoFurther : List ℕ → Type 0
ReachNoFurther reaches = (number : ℕ) → reach_of reaches number ≤ number

-- the first of them whose reach is at least so far, or 0 where one below that comes before, or none is there
abbrev pub first_reaching : ℕ → List ℕ → List ℕ → ℕ
first_reaching least reaches [] = 0
first_reaching least reaches (reader ∷ others) =
    if nat_lt reader least
    then 0
    else (if nat_le least (reach_of reaches reader) then reader else first_reaching least reaches others)

-- The same from the end. Where they ascend, and none reaches further than its number, it is the last of them that
-- reaches so far.
abbrev pub last_reaching : ℕ → List ℕ → List ℕ → ℕ
last_reaching least reaches readers = first_reaching least reaches (reverse readers)

-- each is below those after it
abbrev pub IsAscending : List ℕ → Type 0
IsAscending [] = ⊤
IsAscending (reader ∷ later) = AllByRecursion (λ other. reader < other) later × IsAscending later
