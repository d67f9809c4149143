use Rattle.std.proofs.Common.{◌≡◌, List, [], ◌∷◌, ◌++◌, refl, sym, ◌∙◌, append_assoc}
use Rattle.assertion.specs.Meaning.{State}
use Rattle.assertion.specs.Declarations.{Declared}
use Rattle.alone.specs.declared.statements.ResolvedStatement.{ResolvedStatement}
use Rattle.alone.specs.Alone.{Standing, Step, Run, step_alone, ran, joined_runs}
use Rattle.alone.proofs.laws.runs_are_joined.Goals as goal

in_parts : (declared : Declared) (start : State) (now : Standing) (first rest : List ResolvedStatement) → ran declared start now (first ++ rest) ≡ joined_runs (ran declared start now first) (ran declared start (ran declared start now first).final rest)
in_parts declared start now [] rest = refl
in_parts declared start now (x ∷ xs) rest =
    let step : Step = step_alone declared start now x in
    let some : Run = ran declared start step.after xs in
    let more : Run = ran declared start some.final rest in
    let later : ran declared start step.after (xs ++ rest) ≡ joined_runs some more = in_parts declared start step.after xs rest in
    let reads = append_assoc step.reads some.reads more.reads in
    (λ i. record { replies = step.reply ∷ (later i).replies; final = (later i).final; reads = step.reads ++ (later i).reads })
    ∙ (λ i. record { replies = step.reply ∷ (some.replies ++ more.replies); final = more.final; reads = sym reads i })

pub returns : goal.returns
returns c = in_parts
