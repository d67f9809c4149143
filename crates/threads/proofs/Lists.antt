-- Scripts and their answers, place by place.
use Rattle.std.proofs.Common.{◌≡◌, ◌<◌, ℕ, zero, suc, List, [], ◌∷◌, length, map, refl, inl, arith}
use Rattle.std.specs.Prelude.{slice_index_or, slice_set}
use Rattle.threads.specs.declared.scripts.Script.{Script}
use Rattle.threads.specs.declared.scripts.ScriptAnswers.{ScriptAnswers}
use Rattle.threads.specs.Scripts.{AreAnswered, IsAnswered, answers_without_thread}

-- scripts that got no thread are answered
pub all_unrun : (scripts : List Script) (found : List ScriptAnswers) → found ≡ map answers_without_thread scripts → AreAnswered scripts found
all_unrun [] [] is = tt
all_unrun [] (one ∷ more) is = let no : ⊥ = cc in absurd no
all_unrun (script ∷ rest) [] is = let no : ⊥ = cc in absurd no
all_unrun (script ∷ rest) (one ∷ more) is =
    let first : one ≡ answers_without_thread script = cc in
    let others : more ≡ map answers_without_thread rest = cc in
    (rw first (record { name = refl; answers = (inl refl, refl) }), all_unrun rest more others)

-- a script and its answers
pub answered_at : (scripts : List Script) (found : List ScriptAnswers) (place : ℕ) (script : Script) (one : ScriptAnswers)
    → AreAnswered scripts found → place < length scripts → place < length found → IsAnswered (slice_index_or scripts place script) (slice_index_or found place one)
answered_at [] found place script one all within there = absurd (omega (arith, within))
answered_at (first ∷ rest) [] place script one all within there = absurd (omega (arith, there))
answered_at (first ∷ rest) (other ∷ more) zero script one all within there = all.0
answered_at (first ∷ rest) (other ∷ more) (suc place) script one all within there = answered_at rest more place script one all.1 (omega (arith, within)) (omega (arith, there))

-- other answers of one script
pub answered_set : (scripts : List Script) (found : List ScriptAnswers) (place : ℕ) (script : Script) (one : ScriptAnswers)
    → AreAnswered scripts found → place < length scripts → IsAnswered (slice_index_or scripts place script) one → AreAnswered scripts (slice_set found place one)
answered_set [] found place script one all within is = absurd (omega (arith, within))
answered_set (first ∷ rest) [] place script one all within is = all
answered_set (first ∷ rest) (other ∷ more) zero script one all within is = (is, all.1)
answered_set (first ∷ rest) (other ∷ more) (suc place) script one all within is = (all.0, answered_set rest more place script one all.1 (omega (arith, within)) is)
