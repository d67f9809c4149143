-- Modes that are set are of as many assertions as before, and those in which none is initially deferred are all the same.
use Rattle.std.proofs.Common.{◌≡◌, ℕ, zero, suc, ◌<◌, Bool, true, false, not, List, [], ◌∷◌, length, replicate, get_or, refl, ap, arith}
use Rattle.std.specs.Prelude.{◌||◌}
use Rattle.std.specs.List.{list_any}
use Rattle.assertion.specs.declared.assertions.Assertion.{Assertion}
use Rattle.alone.specs.Modes.{Immediates, all_immediate, initial_modes, modes_with, opposite_modes}

pub set_long : (names : List (List ℕ)) (immediate : Bool) (assertions : List Assertion) (modes : Immediates) → length modes ≡ length assertions
    → length (modes_with names immediate assertions modes) ≡ length assertions
set_long names immediate [] [] e = refl
set_long names immediate [] (m ∷ modes) e = refl
set_long names immediate (a ∷ assertions) [] e = absurd (omega (arith, e))
set_long names immediate (a ∷ assertions) (m ∷ modes) e = ap suc (set_long names immediate assertions modes (omega (arith, e)))

pub none_deferred : (assertions : List Assertion) → list_any (λ a. a.attributes.initially_deferred) assertions ≡ false → all_immediate assertions ≡ initial_modes assertions
none_deferred [] e = refl
none_deferred (a ∷ rest) e = go a.attributes.initially_deferred e (none_deferred rest)
  where
    go : (b : Bool) → (b || list_any (λ a. a.attributes.initially_deferred) rest) ≡ false → (list_any (λ a. a.attributes.initially_deferred) rest ≡ false → all_immediate rest ≡ initial_modes rest)
        → true ∷ all_immediate rest ≡ not b ∷ initial_modes rest
    go true f more = cc
    go false f more = ap (λ modes. true ∷ modes) (more f)

pub other_of_all : (count : ℕ) (b : Bool) → replicate count (not b) ≡ opposite_modes (replicate count b)
other_of_all zero b = refl
other_of_all (suc count) b = ap (λ modes. not b ∷ modes) (other_of_all count b)

pub one_of_all : (count place : ℕ) (b d : Bool) → place < length (replicate count b) → b ≡ get_or (replicate count b) place d
one_of_all zero place b d h = absurd (omega (arith, h))
one_of_all (suc count) zero b d h = refl
one_of_all (suc count) (suc place) b d h = one_of_all count place b d (omega (arith, h))
