-- What scripts are answered, as far as it is known without what their threads wrote.
use Rattle.std.specs.Prelude.{◌≡◌, ◌⊎◌, Bool, true, false, List, [], ◌∷◌, length, ⊤}
use Rattle.value.specs.declared.refusals.Refusal.TheVariants.{NoMemory, TooManySessions}
use Rattle.syntax.specs.declared.statements.ScriptLine.{ScriptLine}
use Rattle.alone.specs.declared.answers.Answer.{Answer}
use Rattle.alone.specs.declared.answers.Answer.TheVariants.{Refused}
use Rattle.threads.specs.declared.scripts.Script.{Script}
use Rattle.threads.specs.declared.scripts.ScriptAnswers.{ScriptAnswers}

-- the one answer of a script that got no thread or no session
abbrev pub IsUnrun : List Answer → Type 0
IsUnrun answers = (answers ≡ Refused TooManySessions ∷ []) ⊎ (answers ≡ Refused NoMemory ∷ [])

-- an answer for each line of a script that was run, and the one refusal of one that was not, which left nothing open
abbrev pub AreFor : (ran rolled_back : Bool) → List ScriptLine → List Answer → Type 0
AreFor true rolled_back lines answers = length answers ≡ length lines
AreFor false rolled_back lines answers = IsUnrun answers × (rolled_back ≡ false)

-- the answer of a script that got no thread
abbrev pub answers_without_thread : Script → ScriptAnswers
answers_without_thread script =
    record {
      name = script.name;
      answers = Refused TooManySessions ∷ [];
      ran = false;
      rolled_back = false;
      unkept = [];
    }

-- what was found of a script bears its name, and has an answer for each of its lines if it was run
pub record IsAnswered (script : Script) (found : ScriptAnswers) : Type 0 where
  pub name : found.name ≡ script.name
  pub answers : AreFor found.ran found.rolled_back script.lines found.answers

-- all scripts, each at its place
abbrev pub AreAnswered : List Script → List ScriptAnswers → Type 0
AreAnswered [] [] = ⊤
AreAnswered [] (one ∷ more) = ⊥
AreAnswered (script ∷ rest) [] = ⊥
AreAnswered (script ∷ rest) (one ∷ more) = IsAnswered script one × AreAnswered rest more
