-- Texts of tokens, and sets of texts with their trees.
use Rattle.std.specs.Prelude.{◌≡◌, ℕ, zero, suc, Bool, true, List, [], ◌∷◌, ◌++◌, Option, Some, None, ◌⊎◌}
use Rattle.token.specs.declared.kinds.Kind.{Kind}
use Rattle.token.specs.declared.kinds.Kind.TheVariants as k

-- a token: its kind, its bytes, and where it begins
pub record Lexeme : Type 0 where
  pub kind : Kind
  pub spelling : List ℕ
  pub at : ℕ

-- a text, as the list of its tokens
abbrev pub Lexemes : Type 0
Lexemes = List Lexeme

-- the first token of a text, if it has one
abbrev pub head : Lexemes → Option Lexeme
head [] = None
head (x ∷ xs) = Some x

-- the kind of a token; where the text has ended, the kind that stands for its end
abbrev pub kind_of : Option Lexeme → Kind
kind_of None = k.End
kind_of (Some x) = x.kind

-- the kind of the first token of a text
abbrev pub kind_at : Lexemes → Kind
kind_at ts = kind_of (head ts)

-- a set of texts, each with its trees
abbrev pub Language : Type 0 → Type 1
Language A = Lexemes → A → Type 0

-- a text in two parts
pub record Split (L M : Lexemes → Type 0) (w : Lexemes) : Type 0 where
  pub front : Lexemes
  pub back : Lexemes
  pub cut : w ≡ front ++ back
  pub first : L front
  pub second : M back

-- a text of the first, and behind it one of the second, which may depend on the tree of the first
pub record Then {A B : Type 0} (L : Language A) (M : A → Language B) (w : Lexemes) (b : B) : Type 0 where
  pub tree : A
  pub split : Split (λ v. L v tree) (λ v. M tree v b) w

infixl 10 ◌>>=◌
-- one text behind another, where the second language may depend on the tree of the first text
abbrev pub ◌>>=◌ : {A B : Type 0} → Language A → (A → Language B) → Language B
L >>= M = Then L M

infixl 10 ◌>>◌
-- one text behind another, with the tree of the second
abbrev pub ◌>>◌ : {A B : Type 0} → Language A → Language B → Language B
L >> M = Then L (λ _. M)

-- nothing, with this tree
abbrev pub pure : {A : Type 0} → A → Language A
pure a w b = (w ≡ []) × (b ≡ a)

infixr 11 ◌<$>◌
-- the same texts, with a tree that is made of theirs
abbrev pub ◌<$>◌ : {A B : Type 0} → (A → B) → Language A → Language B
f <$> L = Then L (λ a. pure (f a))

infixl 9 ◌∪◌
-- a text of either language: the choice `|` of the grammar
abbrev pub ◌∪◌ : {A : Type 0} → Language A → Language A → Language A
(L ∪ M) w a = L w a ⊎ M w a

-- one token of this kind
abbrev pub token : Kind → Language Lexeme
token kind w x = (w ≡ x ∷ []) × (x.kind ≡ kind)

-- one token of this kind that passes the test
abbrev pub token_where : Kind → (Lexeme → Bool) → Language Lexeme
token_where kind test w x = (w ≡ x ∷ []) × (x.kind ≡ kind) × (test x ≡ true)

-- a text of the language, or nothing
abbrev pub optional : {A : Type 0} → Language A → Language (Option A)
optional L = pure None ∪ (Some <$> L)

-- any number of texts one behind the other
abbrev pub Each : {A : Type 0} → Language A → Language (List A)
Each L w [] = w ≡ []
Each L w (t ∷ ts) = Split (λ v. L v t) (λ v. Each L v ts) w

-- the items found before, and behind them those of the text
abbrev pub Behind : {A : Type 0} → List A → Language A → Language (List A)
Behind {A} found L w all = (more : List A) × (all ≡ found ++ more) × Each L w more

-- item { "," item }
abbrev pub list : {A : Type 0} → Language A → Language (List A)
list L = L >>= (λ first. Behind (first ∷ []) (token k.Comma >> L))

-- a text of the language in parentheses
abbrev pub parens : {A : Type 0} → Language A → Language A
parens L = token k.Open >> (L >>= (λ x. token k.Close >> pure x))

-- some text of the language begins so
abbrev pub Begins : {A : Type 0} → Language A → Lexemes → Type 0
Begins {A} L w = (more : Lexemes) × (a : A) × L (w ++ more) a

-- at some level
abbrev pub Some_level : {A : Type 0} → (ℕ → Language A) → Language A
Some_level L w x = (n : ℕ) × L n w x

-- How many parentheses may still be opened after a token, where n might be before it. None: one too many was opened.
abbrev pub depth_left : ℕ → Option ℕ
depth_left zero = None
depth_left (suc n) = Some n

-- the same by the token's kind: "(" takes one away, and ")" gives one back
abbrev pub after_kind : Kind → ℕ → Option ℕ
after_kind k.Open n = depth_left n
after_kind k.Close n = Some (suc n)
after_kind _ n = Some n

-- the same where one too many may have been opened before
abbrev pub room_after : Option ℕ → Kind → Option ℕ
room_after None kind = None
room_after (Some n) kind = after_kind kind n

-- how many may still be opened after a text of tokens
abbrev pub room : Option ℕ → Lexemes → Option ℕ
room left [] = left
room left (x ∷ xs) = room (room_after left x.kind) xs
