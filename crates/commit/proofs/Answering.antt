-- One event more is answered.
use Rattle.std.proofs.Common.{◌≡◌, ℕ, ◌+◌, ◌<◌, List, [], ◌∷◌, ◌++◌, length, take, get_or, refl, sym, ap, ◌∙◌, subst}
use Rattle.std.proofs.lemmas.List.{length-append, take_more}
use Rattle.syntax.specs.declared.statements.ScriptLine.{ScriptLine}
use Rattle.alone.specs.declared.answers.Answer.{Answer}
use Rattle.commit.specs.Events.{EngineState, IsAnswered, after}
use Rattle.commit.specs.Runs.{AreAnswers, IsNext, led_to}

pub answers_more : (now : EngineState) (lines : List ScriptLine) (answers : List Answer) (line : ScriptLine) (answer : Answer) → AreAnswers now lines answers → IsAnswered (led_to now lines answers) line answer
    → AreAnswers now (lines ++ line ∷ []) (answers ++ answer ∷ [])
answers_more now [] [] line answer h a = (a, tt)
answers_more now [] (b ∷ more) line answer h a = absurd h
answers_more now (s ∷ rest) [] line answer h a = absurd h
answers_more now (s ∷ rest) (b ∷ more) line answer h a = (h.0, answers_more (after now s b) rest more line answer h.1 a)

pub led_more : (now : EngineState) (lines : List ScriptLine) (answers : List Answer) (line : ScriptLine) (answer : Answer) → AreAnswers now lines answers
    → led_to now (lines ++ line ∷ []) (answers ++ answer ∷ []) ≡ after (led_to now lines answers) line answer
led_more now [] [] line answer h = refl
led_more now [] (b ∷ more) line answer h = absurd h
led_more now (s ∷ rest) [] line answer h = absurd h
led_more now (s ∷ rest) (b ∷ more) line answer h = led_more (after now s b) rest more line answer h.1

-- what holds of the first events and their answers
pub record AreSoFar (start : EngineState) (lines : List ScriptLine) (count : ℕ) (now : EngineState) (answers : List Answer) : Type 0 where
  pub answered : AreAnswers start (take count lines) answers
  pub led : now ≡ led_to start (take count lines) answers
  pub long : length answers ≡ count

pub so_far_none : (start : EngineState) (lines : List ScriptLine) (answers : List Answer) → answers ≡ [] → AreSoFar start lines 0 start answers
so_far_none start lines answers none = subst (AreSoFar start lines 0 start) (sym none) (record { answered = tt; led = refl; long = refl })

pub so_far_more : (start : EngineState) (lines : List ScriptLine) (count : ℕ) (now left : EngineState) (answers more : List Answer) (line : ScriptLine) → count < length lines → line ≡ get_or lines count line
    → AreSoFar start lines count now answers → IsNext now line answers left more → AreSoFar start lines (count + 1) left more
so_far_more start lines count now left answers more line within there h next =
    let taken : take (count + 1) lines ≡ take count lines ++ line ∷ [] = take_more lines count line within ∙ ap (λ s. take count lines ++ s ∷ []) (sym there) in
    record {
      answered = subst (λ all. AreAnswers start all more) (sym taken) (subst (AreAnswers start (take count lines ++ line ∷ [])) (sym next.more_is)
          (answers_more start (take count lines) answers line next.answer h.answered (subst (λ e. IsAnswered e line next.answer) h.led next.answered)));
      led = next.left_is ∙ ap (λ e. after e line next.answer) h.led ∙ sym (led_more start (take count lines) answers line next.answer h.answered)
          ∙ ap (led_to start (take count lines ++ line ∷ [])) (sym next.more_is) ∙ ap (λ all. led_to start all more) (sym taken);
      long = ap length next.more_is ∙ length-append answers (next.answer ∷ []) ∙ ap (λ n. n + 1) h.long;
    }

-- the answers by their own count
pub counted : (start : EngineState) (lines : List ScriptLine) (count : ℕ) (now : EngineState) (answers : List Answer) → AreSoFar start lines count now answers
    → AreSoFar start lines (length answers) now answers
counted start lines count now answers h = subst (λ n. AreSoFar start lines n now answers) (sym h.long) h
