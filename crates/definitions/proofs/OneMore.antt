-- Definitions that are taken in one by one.
use Rattle.std.proofs.Common.{◌≡◌, List, [], ◌∷◌, ◌++◌, Result, Ok, Err, refl, ap, ◌∙◌}
use Rattle.value.specs.declared.refusals.Refusal.{Refusal}
use Rattle.value.specs.Results.{and_then}
use Rattle.syntax.specs.declared.definitions.Definition.{Definition}
use Rattle.definitions.specs.Taken.{Taken, nothing_taken, taken_of, taken_with, with_all}

go_on : (r : Result Taken Refusal) (rest : List Definition) (d : Definition) → ((now : Taken) → with_all (rest ++ d ∷ []) now ≡ and_then (with_all rest now) (taken_with d)) → and_then r (with_all (rest ++ d ∷ [])) ≡ and_then (and_then r (with_all rest)) (taken_with d)
go_on (Ok now) rest d e = e now
go_on (Err refusal) rest d e = refl

only_one : (r : Result Taken Refusal) → and_then r (with_all []) ≡ r
only_one (Ok now) = refl
only_one (Err refusal) = refl

with_one_more : (all : List Definition) (d : Definition) (now : Taken) → with_all (all ++ d ∷ []) now ≡ and_then (with_all all now) (taken_with d)
with_one_more [] d now = only_one (taken_with d now)
with_one_more (first ∷ rest) d now = go_on (taken_with first now) rest d (with_one_more rest d)

-- what definitions define decides what they define with one more behind them
pub one_more : (all : List Definition) (d : Definition) (so_far : Result Taken Refusal) → taken_of all ≡ so_far → taken_of (all ++ d ∷ []) ≡ and_then so_far (taken_with d)
one_more all d so_far e = with_one_more all d nothing_taken ∙ ap (λ (r : Result Taken Refusal). and_then r (taken_with d)) e
