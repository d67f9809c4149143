-- The assertions that are immediate where their modes say just which.
use Rattle.std.proofs.Common.{◌≡◌, ℕ, Bool, true, false, cond, List, [], ◌∷◌, length, map, filter, replicate, refl, ap}
use Rattle.std.specs.List.{zip}
use Rattle.assertion.specs.declared.assertions.Assertion.{Assertion}
use Rattle.alone.specs.Modes.{all_immediate, immediate_ones, is_named, named_immediate, named_ones}

pub so_many : (assertions : List Assertion) → replicate (length assertions) true ≡ all_immediate assertions
so_many [] = refl
so_many (a ∷ rest) = ap (λ others. true ∷ others) (so_many rest)

pub all_ones : (assertions : List Assertion) → immediate_ones (all_immediate assertions) assertions ≡ assertions
all_ones [] = refl
all_ones (a ∷ rest) = ap (λ others. a ∷ others) (all_ones rest)

pub named_are : (names : List (List ℕ)) (assertions : List Assertion) → immediate_ones (named_immediate names assertions) assertions ≡ named_ones names assertions
named_are names [] = refl
named_are names (a ∷ rest) = go (named_are names rest) (is_named names a.name)
  where
    go : immediate_ones (named_immediate names rest) rest ≡ named_ones names rest → (b : Bool)
        → map (λ p. p.0) (cond b ((a, b) ∷ filter (λ p. p.1) (zip rest (named_immediate names rest))) (filter (λ p. p.1) (zip rest (named_immediate names rest))))
        ≡ cond b (a ∷ named_ones names rest) (named_ones names rest)
    go more true = ap (λ others. a ∷ others) more
    go more false = more
