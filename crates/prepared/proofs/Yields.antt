-- Languages whose trees have the numbers of their texts, and how such are put together.
use Rattle.std.proofs.Common.{◌≡◌, false, List, [], ◌∷◌, ◌++◌, map, Option, Some, None, refl, sym, ap, subst, ◌∙◌, inl, inr, ◌⊎◌, append_assoc, append-nil}
use Rattle.std.specs.Prelude.{if◌then◌else◌}
use Rattle.token.specs.declared.kinds.Kind.{Kind}
use Rattle.token.specs.declared.kinds.Kind.TheVariants as k
use Rattle.syntax.specs.Grammar.{digits_value}
use Rattle.syntax.specs.Language.{Lexeme, Lexemes, Language, Then, Each, Behind}
use Rattle.syntax.specs.Language as lang
use Rattle.prepared.specs.Numbers.{is_number}
use Rattle.prepared.specs.Numerals.{Numerals, numeral, numerals, numerals_of_parts}

pub numerals_append : (u w : Lexemes) → numerals (u ++ w) ≡ numerals u ++ numerals w
numerals_append [] w = refl
numerals_append (x ∷ u) w = ap (λ z. numeral x ++ z) (numerals_append u w) ∙ sym (append_assoc (numeral x) (numerals u) (numerals w))

-- Behind these numbers, each tree of the language has them and those of its text.
pub record Yields {A : Type 0} (L : Language A) (before : Numerals) (of : A → Numerals) : Type 0 where
  pub gives : (w : Lexemes) (a : A) → L w a → of a ≡ before ++ numerals w

-- the same behind any numbers
abbrev pub Adds : {A : Type 0} → Language A → (A → Numerals) → Type 0
Adds {A} L of = (before : Numerals) → Yields L before (λ a. before ++ of a)

module _ {A : Type 0} where
  pub yields_pure : (a : A) (before : Numerals) (of : A → Numerals) → of a ≡ before → Yields (lang.pure a) before of
  yields_pure a before of e = record { gives = λ w b h. ap of h.1 ∙ e ∙ sym (append-nil before) ∙ ap (λ z. before ++ numerals z) (sym h.0) }

  pub yields_or : (L M : Language A) (before : Numerals) (of : A → Numerals) → Yields L before of → Yields M before of → Yields (lang.◌∪◌ L M) before of
  yields_or L M before of l m = record { gives = go }
    where
      go : (w : Lexemes) (a : A) → L w a ⊎ M w a → of a ≡ before ++ numerals w
      go w a (inl h) = l.gives w a h
      go w a (inr h) = m.gives w a h

  -- other words for the numbers
  pub yields_as : (L : Language A) (before : Numerals) (of other : A → Numerals) → ((a : A) → other a ≡ of a) → Yields L before of → Yields L before other
  yields_as L before of other e l = record { gives = λ w a h. e a ∙ l.gives w a h }

module _ {A B : Type 0} where
  pub yields_then : (L : Language A) (M : A → Language B) (before : Numerals) (first : A → Numerals) (of : B → Numerals)
      → Yields L before first → ((a : A) → Yields (M a) (first a) of) → Yields (lang.◌>>=◌ L M) before of
  yields_then L M before first of l m = record { gives = go }
    where
      go : (w : Lexemes) (b : B) → Then L M w b → of b ≡ before ++ numerals w
      go w b t =
          (m t.tree).gives t.split.back b t.split.second
          ∙ ap (λ z. z ++ numerals t.split.back) (l.gives t.split.front t.tree t.split.first)
          ∙ append_assoc before (numerals t.split.front) (numerals t.split.back)
          ∙ ap (λ z. before ++ z) (sym (numerals_append t.split.front t.split.back) ∙ ap numerals (sym t.split.cut))

  pub yields_map : (make : A → B) (L : Language A) (before : Numerals) (first : A → Numerals) (of : B → Numerals)
      → Yields L before first → ((a : A) → of (make a) ≡ first a) → Yields (lang.◌<$>◌ make L) before of
  yields_map make L before first of l e = yields_then L (λ a. lang.pure (make a)) before first of l (λ a. yields_pure (make a) (first a) of (e a))

-- a token that is no number
pub yields_token : (kind : Kind) (before : Numerals) → is_number kind ≡ false → Yields (lang.token kind) before (λ _. before)
yields_token kind before e = record {
  gives = λ w x h.
      sym (append-nil before) ∙ ap (λ z. before ++ z) (sym (ap numerals h.0 ∙ append-nil (numeral x) ∙ ap (λ b. if b then digits_value x ∷ [] else []) (ap is_number h.1 ∙ e)));
}

pub yields_number : (before : Numerals) → Yields (lang.token k.Number) before (λ x. before ++ digits_value x ∷ [])
yields_number before = record {
  gives = λ w x h.
      ap (λ z. before ++ z) (sym (ap numerals h.0 ∙ append-nil (numeral x) ∙ ap (λ b. if b then digits_value x ∷ [] else []) (ap is_number h.1)));
}

module _ {A : Type 0} where
  -- behind a token that is no number
  pub yields_seq : (kind : Kind) (L : Language A) (before : Numerals) (of : A → Numerals) → is_number kind ≡ false
      → Yields L before of → Yields (lang.◌>>◌ (lang.token kind) L) before of
  yields_seq kind L before of e l = yields_then (lang.token kind) (λ _. L) before (λ _. before) of (yields_token kind before e) (λ _. l)

  pub yields_parens : (L : Language A) (before : Numerals) (of : A → Numerals) → Yields L before of → Yields (lang.parens L) before of
  yields_parens L before of l =
      yields_seq k.Open _ before of refl
      (yields_then L _ before of of l (λ x. yields_seq k.Close _ (of x) of refl (yields_pure x (of x) of refl)))

  pub joined_append : (of : A → Numerals) (xs ys : List A) → numerals_of_parts (map of (xs ++ ys)) ≡ numerals_of_parts (map of xs) ++ numerals_of_parts (map of ys)
  joined_append of [] ys = refl
  joined_append of (x ∷ xs) ys = ap (λ z. of x ++ z) (joined_append of xs ys) ∙ sym (append_assoc (of x) (numerals_of_parts (map of xs)) (numerals_of_parts (map of ys)))

  pub each_yields : (L : Language A) (of : A → Numerals) → Adds L of → (w : Lexemes) (xs : List A) → Each L w xs → numerals_of_parts (map of xs) ≡ numerals w
  each_yields L of l w [] h = sym (ap numerals h)
  each_yields L of l w (x ∷ xs) h =
      ap (λ z. z ++ numerals_of_parts (map of xs)) ((l []).gives h.front x h.first)
      ∙ ap (λ z. numerals h.front ++ z) (each_yields L of l h.back xs h.second)
      ∙ sym (numerals_append h.front h.back) ∙ ap numerals (sym h.cut)

  -- items behind those found before
  pub yields_behind : (found : List A) (L : Language A) (before : Numerals) (of : A → Numerals) → Adds L of
      → Yields (Behind found L) (before ++ numerals_of_parts (map of found)) (λ xs. before ++ numerals_of_parts (map of xs))
  yields_behind found L before of l = record {
    gives = λ w xs h.
        ap (λ z. before ++ numerals_of_parts (map of z)) h.1
        ∙ ap (λ z. before ++ z) (joined_append of found h.0 ∙ ap (λ z. numerals_of_parts (map of found) ++ z) (each_yields L of l w h.0 h.2))
        ∙ sym (append_assoc before (numerals_of_parts (map of found)) (numerals w));
  }

  alone : (before : Numerals) (of : A → Numerals) (x : A) → before ++ numerals_of_parts (map of (x ∷ [])) ≡ before ++ of x
  alone before of x = ap (λ z. before ++ z) (append-nil (of x))

  pub yields_more : (x : A) (L : Language A) (before : Numerals) (of : A → Numerals) → Adds L of
      → Yields (Behind (x ∷ []) L) (before ++ of x) (λ xs. before ++ numerals_of_parts (map of xs))
  yields_more x L before of l = subst (λ z. Yields (Behind (x ∷ []) L) z (λ xs. before ++ numerals_of_parts (map of xs))) (alone before of x) (yields_behind (x ∷ []) L before of l)

  pub yields_list : (L : Language A) (of : A → Numerals) → Adds L of → Adds (lang.list L) (λ xs. numerals_of_parts (map of xs))
  yields_list L of l before =
      yields_then L _ before (λ x. before ++ of x) _ (l before)
      (λ x. yields_more x _ before of (λ b. yields_seq k.Comma L b (λ a. b ++ of a) refl (l b)))

-- ---- languages without a number, and those whose trees add their numbers

abbrev pub Silent : {A : Type 0} → Language A → Type 0
Silent L = (before : Numerals) → Yields L before (λ _. before)

module _ {A : Type 0} where
  pub silent_pure : (a : A) → Silent (lang.pure a)
  silent_pure a before = yields_pure a before (λ _. before) refl

  pub silent_or : (L M : Language A) → Silent L → Silent M → Silent (lang.◌∪◌ L M)
  silent_or L M l m before = yields_or L M before (λ _. before) (l before) (m before)

  pub silent_seq : (kind : Kind) (L : Language A) → is_number kind ≡ false → Silent L → Silent (lang.◌>>◌ (lang.token kind) L)
  silent_seq kind L e l before = yields_seq kind L before (λ _. before) e (l before)

  pub adds_pure : (a : A) (of : A → Numerals) → of a ≡ [] → Adds (lang.pure a) of
  adds_pure a of e before = yields_pure a before (λ x. before ++ of x) (ap (λ z. before ++ z) e ∙ append-nil before)

  pub adds_or : (L M : Language A) (of : A → Numerals) → Adds L of → Adds M of → Adds (lang.◌∪◌ L M) of
  adds_or L M of l m before = yields_or L M before (λ x. before ++ of x) (l before) (m before)

  pub adds_seq : (kind : Kind) (L : Language A) (of : A → Numerals) → is_number kind ≡ false → Adds L of → Adds (lang.◌>>◌ (lang.token kind) L) of
  adds_seq kind L of e l before = yields_seq kind L before (λ x. before ++ of x) e (l before)

  pub adds_parens : (L : Language A) (of : A → Numerals) → Adds L of → Adds (lang.parens L) of
  adds_parens L of l before = yields_parens L before (λ x. before ++ of x) (l before)

module _ {A B : Type 0} where
  pub silent_then : (L : Language A) (M : A → Language B) → Silent L → ((a : A) → Silent (M a)) → Silent (lang.◌>>=◌ L M)
  silent_then L M l m before = yields_then L M before (λ _. before) (λ _. before) (l before) (λ a. m a before)

  pub silent_map : (make : A → B) (L : Language A) → Silent L → Silent (lang.◌<$>◌ make L)
  silent_map make L l before = yields_map make L before (λ _. before) (λ _. before) (l before) (λ _. refl)

  -- a part with the numbers of what it is made of
  pub adds_map : (make : A → B) (L : Language A) (first : A → Numerals) (of : B → Numerals) → ((a : A) → of (make a) ≡ first a)
      → Adds L first → Adds (lang.◌<$>◌ make L) of
  adds_map make L first of e l before =
      yields_map make L before (λ a. before ++ first a) (λ b. before ++ of b) (l before) (λ a. ap (λ z. before ++ z) (e a))

  -- a part without a number
  pub adds_none : (make : A → B) (L : Language A) (of : B → Numerals) → ((a : A) → of (make a) ≡ []) → Silent L → Adds (lang.◌<$>◌ make L) of
  adds_none make L of e l before =
      yields_map make L before (λ _. before) (λ b. before ++ of b) (l before) (λ a. ap (λ z. before ++ z) (e a) ∙ append-nil before)

  -- behind a part without a number
  pub adds_behind : (L : Language A) (M : A → Language B) (of : B → Numerals) → Silent L → ((a : A) → Adds (M a) of) → Adds (lang.◌>>=◌ L M) of
  adds_behind L M of l m before = yields_then L M before (λ _. before) (λ b. before ++ of b) (l before) (λ a. m a before)

-- a part that may be missing
abbrev pub some_numerals : {A : Type 0} → (A → Numerals) → Option A → Numerals
some_numerals of None = []
some_numerals of (Some a) = of a

module _ {A : Type 0} where
  pub adds_optional : (L : Language A) (of : A → Numerals) → Adds L of → Adds (lang.optional L) (some_numerals of)
  adds_optional L of l = adds_or _ _ (some_numerals of) (adds_pure None (some_numerals of) refl) (adds_map Some L of (some_numerals of) (λ a. refl) l)

  pub silent_optional : (L : Language A) → Silent L → Silent (lang.optional L)
  silent_optional L l = silent_or _ _ (silent_pure None) (silent_map Some L l)

  pub silent_parens : (L : Language A) → Silent L → Silent (lang.parens L)
  silent_parens L l before = yields_parens L before (λ _. before) (l before)

  none_joined : (xs : List A) → numerals_of_parts (map (λ _. []) xs) ≡ []
  none_joined [] = refl
  none_joined (x ∷ xs) = none_joined xs

  pub silent_list : (L : Language A) → Silent L → Silent (lang.list L)
  silent_list L l before =
      yields_as (lang.list L) before (λ xs. before ++ numerals_of_parts (map (λ _. []) xs)) (λ _. before)
      (λ xs. sym (ap (λ z. before ++ z) (none_joined xs) ∙ append-nil before))
      (yields_list L (λ _. []) (λ b. yields_as L b (λ _. b) (λ _. b ++ []) (λ _. append-nil b) (l b)) before)
