-- Lines before the first zero, and what a crash makes of lines that are written over zeros.
use Rattle.std.specs.Prelude.{◌≡◌, ◌≢◌, ◌⊎◌, ℕ, Bool, true, false, List, [], ◌∷◌, ◌++◌, length, drop, replicate, ◌==◌, if◌then◌else◌, ⊤}
use Rattle.std.specs.List.{AllByRecursion}

-- in front of the first of some lines, if there is one
abbrev pub with_first : ℕ → List (List ℕ) → List (List ℕ)
with_first b [] = []
with_first b (line ∷ lines) = (b ∷ line) ∷ lines

-- the whole lines of bytes up to their first zero, inside a line or in front of one
abbrev pub lines_from : (inside : Bool) → List ℕ → List (List ℕ)
lines_from inside [] = []
lines_from false (b ∷ bs) = if b == 10 then lines_from true bs else []
lines_from true (b ∷ bs) =
    if b == 0 then [] else if b == 10 then [] ∷ lines_from false bs else with_first b (lines_from true bs)

-- the whole lines of a file up to its first zero: a line feed stands in front of each, and one behind it
abbrev pub lines_of : List ℕ → List (List ℕ)
lines_of file = lines_from false file

-- these lines
abbrev pub fed : List (List ℕ) → List ℕ
fed [] = []
fed (line ∷ lines) = 10 ∷ (line ++ 10 ∷ fed lines)

-- what stands behind the whole lines of a file
abbrev pub tail_of : List ℕ → List ℕ
tail_of file = drop (length (fed (lines_of file))) file

-- so many zeros
abbrev pub zeros : ℕ → List ℕ
zeros n = replicate n 0

-- neither a zero nor a line feed
abbrev pub IsPlainByte : ℕ → Type 0
IsPlainByte b = (b ≢ 0) × (b ≢ 10)

abbrev pub IsLine : List ℕ → Type 0
IsLine line = AllByRecursion IsPlainByte line

-- each byte is the one that was written over a zero, or the zero
abbrev pub IsMixed : List ℕ → List ℕ → Type 0
IsMixed [] [] = ⊤
IsMixed [] (c ∷ cs) = ⊥
IsMixed (b ∷ bs) [] = ⊥
IsMixed (b ∷ bs) (c ∷ cs) = ((c ≡ 0) ⊎ (c ≡ b)) × IsMixed bs cs
