-- Readers: what the parser does with the tokens in front of it.
use Rattle.std.specs.Prelude.{ℕ, zero, suc, Bool, true, false, ◌&&◌, List, [], ◌∷◌, ◌++◌, length, Option, Some, None, if◌then◌else◌, cond}
use denote.Enum.Bare.{sameb}
use Rattle.token.specs.declared.kinds.Kind.{Kind}
use Rattle.token.specs.declared.kinds.Kind.TheVariants as k
use Rattle.token.specs.contracts.kinds.Kind.{the_type}
use Rattle.syntax.specs.Language.{Lexeme, Lexemes, head, kind_at}

-- `Fail`: no text goes on so. `Deep`: one parenthesis too many.
pub data Verdict (A : Type 0) : Type 0 where
  Done : A → Verdict A
  Fail : Verdict A
  Deep : Verdict A

-- the verdict, and the tokens from there on
abbrev pub Outcome : Type 0 → Type 0
Outcome A = Verdict A × Lexemes

-- a reader: of the tokens in front of it, a verdict and what is left
abbrev pub Reader : Type 0 → Type 0
Reader A = Lexemes → Outcome A

-- goes on behind what was read; a fault ends it, where it stands
abbrev pub and_then : {A B : Type 0} → Verdict A → Lexemes → (A → Reader B) → Outcome B
and_then (Done a) rest f = f a rest
and_then Fail rest f = (Fail, rest)
and_then Deep rest f = (Deep, rest)

infixl 10 ◌>>=◌
-- one reader behind another, where the second may depend on what the first has read
abbrev pub ◌>>=◌ : {A B : Type 0} → Reader A → (A → Reader B) → Reader B
p >>= f = λ ts. and_then (p ts).0 (p ts).1 f

infixl 10 ◌>>◌
-- one reader behind another, with what the second has read
abbrev pub ◌>>◌ : {A B : Type 0} → Reader A → Reader B → Reader B
p >> q = p >>= (λ _. q)

-- takes no token, and gives this
abbrev pub pure : {A : Type 0} → A → Reader A
pure a = λ ts. (Done a, ts)

infixr 11 ◌<$>◌
-- the same reader, with what is made of what it has read
abbrev pub ◌<$>◌ : {A B : Type 0} → (A → B) → Reader A → Reader B
f <$> p = p >>= (λ x. pure (f x))

-- takes no token: no text goes on with the next one
abbrev pub refuse : {A : Type 0} → Reader A
refuse = λ ts. (Fail, ts)

-- goes on by the kind of the next token
abbrev pub by_kind : {A : Type 0} → (Kind → Reader A) → Reader A
by_kind branch = λ ts. branch (kind_at ts) ts

-- the next token, whatever it is
abbrev pub take : Reader Lexeme
take [] = (Fail, [])
take (x ∷ xs) = (Done x, xs)

-- `==` on kinds
unfoldable pub same_kind : Kind → Kind → Bool
same_kind = sameb the_type

-- the next token, if it is of this kind
abbrev pub expect : Kind → Reader Lexeme
expect kind ts = if same_kind (kind_at ts) kind then take ts else (Fail, ts)

-- whether it is one of this kind that passes the test
abbrev pub passes : Kind → (Lexeme → Bool) → Option Lexeme → Bool
passes kind test None = false
passes kind test (Some x) = same_kind x.kind kind && test x

-- the next token, if it is of this kind and passes the test
abbrev pub expect_where : Kind → (Lexeme → Bool) → Reader Lexeme
expect_where kind test ts = if passes kind test (head ts) then take ts else (Fail, ts)

-- what begins with this kind, if the next token is of it
abbrev pub optional : {A : Type 0} → Kind → Reader A → Reader (Option A)
optional kind p = by_kind (λ next. cond (same_kind next kind) (Some <$> p) (pure None))

-- where no parenthesis may be opened
abbrev pub full : {A : Type 0} → Reader A
full ts = if same_kind (kind_at ts) k.Open then (Deep, ts) else (Fail, ts)

-- something in parentheses, where so many may be opened
unfoldable pub parens : {A : Type 0} → ℕ → Reader A → Reader A
parens zero p = full
parens (suc n) p = expect k.Open >> (p >>= (λ x. expect k.Close >> pure x))

-- More and more items, as long as the next token's kind says so. The number bounds the turns; each turn takes a token.
unfoldable pub many : {A : Type 0} → (Kind → Bool) → Reader A → ℕ → List A → Reader (List A)
many goes_on item zero found = pure found
many goes_on item (suc n) found =
    by_kind (λ kind. cond (goes_on kind) (item >>= (λ x. many goes_on item n (found ++ x ∷ []))) (pure found))

-- as many items as the next token's kind asks for, behind those found before; the rest of the text bounds the turns
abbrev pub all : {A : Type 0} → (Kind → Bool) → Reader A → List A → Reader (List A)
all goes_on item found = λ ts. many goes_on item (length ts) found ts

-- whether a list goes on: with a comma
abbrev pub is_comma : Kind → Bool
is_comma k.Comma = true
is_comma _ = false

-- a further item of a list, behind its comma
unfoldable pub list_item : {A : Type 0} → Reader A → Reader A
list_item p = expect k.Comma >> p

-- one, and more of them behind commas
unfoldable pub list : {A : Type 0} → Reader A → Reader (List A)
list p = p >>= (λ first. all is_comma (list_item p) (first ∷ []))

-- nothing behind it
abbrev pub at_end : {A : Type 0} → A → Reader A
at_end x [] = (Done x, [])
at_end x (t ∷ ts) = (Fail, t ∷ ts)

-- a text from its first token to its last
abbrev pub whole : {A : Type 0} → Reader A → Reader A
whole p = p >>= at_end
