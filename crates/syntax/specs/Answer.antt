-- What the answer to a text says about it.
use Rattle.std.specs.Prelude.{◌≡◌, ℕ, [], ◌∷◌, ◌++◌, Some}
use Rattle.token.specs.declared.kinds.Kind.TheVariants as k
use Rattle.syntax.specs.Language.{Lexeme, Lexemes, Language, Begins, room}

-- no parenthesis opens while so many are open
abbrev pub Fits : ℕ → Lexemes → Type 0
Fits n ts = (left : ℕ) × (room (Some n) ts ≡ Some left)

-- No text of the language goes on so. Where the text ends, it is none itself.
abbrev pub NoneGoesOn : {A : Type 0} → Language A → Lexemes → Lexemes → Type 0
NoneGoesOn {A} L before [] = (x : A) → L before x → ⊥
NoneGoesOn L before (x ∷ rest) = Begins L (before ++ x ∷ []) → ⊥

-- The rest begins with the first token that no text has after the tokens before it, or the text ends too early.
pub record IsWrong {A : Type 0} (L : Language A) (n : ℕ) (ts rest : Lexemes) : Type 0 where
  pub before : Lexemes
  pub cut : ts ≡ before ++ rest
  pub begins : Begins L before
  pub fits : Fits n before
  pub stops : NoneGoesOn L before rest

-- The rest begins with the first parenthesis that opens while n are open, and some text begins so.
pub record IsTooDeep {A : Type 0} (L : Language A) (n : ℕ) (ts rest : Lexemes) : Type 0 where
  pub before : Lexemes
  pub token : Lexeme
  pub more : Lexemes
  pub cut : ts ≡ before ++ rest
  pub is : rest ≡ token ∷ more
  pub opens : token.kind ≡ k.Open
  pub full : room (Some n) before ≡ Some 0
  pub begins : Begins L (before ++ token ∷ [])
