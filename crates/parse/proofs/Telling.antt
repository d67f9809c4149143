-- What the outcome of a whole text's reader says of the text.
use Rattle.std.proofs.Common.{◌≡◌, ℕ, [], ◌∷◌, sym, ◌∙◌, ap, refl, subst, map, List, Result, Ok, Err, IfOk, IfErr}
use Rattle.value.specs.declared.refusals.Refusal.{Refusal}
use Rattle.value.specs.declared.refusals.Refusal.TheVariants as refusal
use Rattle.leaf_parser.specs.declared.stops.Stop.{Stop}
use Rattle.leaf_parser.specs.declared.stops.Stop.TheVariants as stop
use Rattle.leaf_parser.specs.Reads.{Collects, Reads, Stops}
use Rattle.syntax.specs.Language.{Lexemes, Language, Some_level}
use Rattle.syntax.specs.Reading.{Reader, Done, Fail, Deep, Outcome, and_then, at_end, whole}
use Rattle.syntax.specs.Answer.{Fits}
use Rattle.token.specs.declared.spans.Token.{Token}
use Rattle.syntax.specs.Lexemes.{lexeme, place}
use Rattle.syntax.proofs.Whole as law
use Rattle.parse.specs.Told.{IsOutcomeAs, IsOutcomeIn, IsRefusalOf, Gave, GaveIn, refusal_of}

pub stops_told : {A : Type 0} (outcome : Outcome A) (why : Stop) (new : Lexemes) (end : ℕ) → Stops outcome why new → IsOutcomeAs {A = A} outcome end (Err (refusal_of (place end new) why))
stops_told outcome stop.Memory new end h = h
stops_told outcome stop.Syntax new end h = (new, h, refl)
stops_told outcome stop.Depth new end h = (new, h, refl)

-- what is at the end of a text is so whatever is made of it
at_end_of : {A C : Type 0} (made_of : C → A → Type 0) (a : A) (made : C) → made_of made a → (us new : Lexemes) (r : Result C Stop) → Reads {A = C} (at_end made us) r new → Collects {B = A} made_of (at_end a us) r new
at_end_of made_of a made of [] new (Ok x) h =
    let verdicts = ap (λ o. o.0) h in
    let same : made ≡ x = cc in
    let rest : [] ≡ new = ap (λ o. o.1) h in
    (a, subst (λ y. made_of y a) same of, ap (λ n. (Done a, n)) rest)
at_end_of made_of a made of [] new (Err stop.Memory) h = h
at_end_of made_of a made of [] new (Err stop.Syntax) h = let verdicts = ap (λ o. o.0) h in let no : ⊥ = cc in absurd no
at_end_of made_of a made of [] new (Err stop.Depth) h = let verdicts = ap (λ o. o.0) h in let no : ⊥ = cc in absurd no
at_end_of made_of a made of (u ∷ us) new (Ok x) h = let verdicts = ap (λ o. o.0) h in let no : ⊥ = cc in absurd no
at_end_of made_of a made of (u ∷ us) new (Err stop.Memory) h = h
at_end_of made_of a made of (u ∷ us) new (Err stop.Syntax) h = let rest : u ∷ us ≡ new = ap (λ o. o.1) h in ap (λ n. (Fail, n)) rest
at_end_of made_of a made of (u ∷ us) new (Err stop.Depth) h = let verdicts = ap (λ o. o.0) h in let no : ⊥ = cc in absurd no

-- a text's end behind what was read
pub ended : {A C : Type 0} (made_of : C → A → Type 0) (p : Reader A) (made : C) (ts us new : Lexemes) (r : Result C Stop) → Collects {B = A} made_of (p ts) (Ok made) us → Reads {A = C} (at_end made us) r new → Collects {B = A} made_of (whole p ts) r new
ended {A} made_of p made ts us new r h e = subst (λ (o : Outcome A). Collects {B = A} made_of (and_then o.0 o.1 at_end) r new) (sym h.2) (at_end_of made_of h.0 made h.1 us new r e)

-- the same of equal lists of tokens
pub told_at : {A : Type 0} (p : Reader A) (text : List ℕ) (ts us : List Token) (end : ℕ) (r : Result A Refusal) → ts ≡ us → IsOutcomeAs (p (map (lexeme text) ts)) end r → IsOutcomeAs (p (map (lexeme text) us)) end r
told_at p text ts us end r e h = subst (λ v. IsOutcomeAs (p (map (lexeme text) v)) end r) e h

-- the same of what is made of it
pub told_at_in : {A C : Type 0} (made_of : C → A → Type 0) (p : Reader A) (text : List ℕ) (ts us : List Token) (end : ℕ) (r : Result C Refusal) → ts ≡ us → IsOutcomeIn made_of (p (map (lexeme text) ts)) end r → IsOutcomeIn made_of (p (map (lexeme text) us)) end r
told_at_in made_of p text ts us end r e h = subst (λ v. IsOutcomeIn made_of (p (map (lexeme text) v)) end r) e h

-- what was made of a list is the list
pub found_list : {A : Type 0} (P : A → Type 0) (Q : Type 0) (r : Result A Refusal) → IfOk r (λ made. (a : A) × (made ≡ a) × P a × Q) → IfOk r (λ made. P made × Q)
found_list P Q (Ok made) h = (subst P (sym h.1) h.2, h.3)
found_list P Q (Err e) h = tt

pub only_list : {A : Type 0} (a : A) (r : Result A Refusal) → GaveIn {A = A} (λ made parts. made ≡ parts) a r → Gave a r
only_list a (Ok made) h = h
only_list a (Err refusal.NoMemory) h = h
only_list a (Err _) h = h

-- for any language and its reader
module _ {A : Type 0} (L : ℕ → Language A) (p : ℕ → Reader A) (exact : law.Exact L p) (n : ℕ) (ts : Lexemes) (end : ℕ) where
  pub told_found : (r : Result A Refusal) → IsOutcomeAs (whole (p n) ts) end r → IfOk r (λ a. Some_level L ts a × Fits n ts)
  told_found (Ok a) h = law.whole_done L p exact n ts h.0 a h.1
  told_found (Err e) h = _

  failed_not_done : (rest : Lexemes) (a : A) → whole (p n) ts ≡ (Fail, rest) → Some_level L ts a → Fits n ts → ⊥
  failed_not_done rest a e h f = let both : ◌≡◌ {A = Outcome A} (Fail, rest) (Done a, []) = sym e ∙ law.whole_finds L p exact n ts a h f in let v = ap (λ o. o.0) both in cc

  deep_not_done : (rest : Lexemes) (a : A) → whole (p n) ts ≡ (Deep, rest) → Some_level L ts a → Fits n ts → ⊥
  deep_not_done rest a e h f = let both : ◌≡◌ {A = Outcome A} (Deep, rest) (Done a, []) = sym e ∙ law.whole_finds L p exact n ts a h f in let v = ap (λ o. o.0) both in cc

  done_same : (rest : Lexemes) (x a : A) → whole (p n) ts ≡ (Done x, rest) → Some_level L ts a → Fits n ts → x ≡ a
  done_same rest x a e h f = let both : ◌≡◌ {A = Outcome A} (Done x, rest) (Done a, []) = sym e ∙ law.whole_finds L p exact n ts a h f in let v = ap (λ o. o.0) both in cc

  pub told_only : (r : Result A Refusal) → IsOutcomeAs (whole (p n) ts) end r → (a : A) → Some_level L ts a → Fits n ts → Gave a r
  told_only (Ok x) t a h f = done_same t.0 x a t.1 h f
  told_only (Err refusal.NoMemory) t a h f = t
  told_only (Err (refusal.Syntax at)) t a h f = failed_not_done t.0 a t.1 h f
  told_only (Err (refusal.TooDeep at)) t a h f = deep_not_done t.0 a t.1 h f
  told_only (Err _) t a h f = t

  pub told_refused : (r : Result A Refusal) → IsOutcomeAs (whole (p n) ts) end r → IfErr r (IsRefusalOf (Some_level L) n ts end)
  told_refused (Ok a) t = _
  told_refused (Err refusal.NoMemory) t = t
  told_refused (Err (refusal.Syntax at)) t = (t.0, law.whole_fails L p exact n ts t.0 t.1, t.2)
  told_refused (Err (refusal.TooDeep at)) t = (t.0, law.whole_deep L p exact n ts t.0 t.1, t.2)
  told_refused (Err _) t = t

  -- the same of what is made of the tree
  module _ {C : Type 0} (made_of : C → A → Type 0) where
    pub told_found_in : (r : Result C Refusal) → IsOutcomeIn made_of (whole (p n) ts) end r → IfOk r (λ made. (a : A) × made_of made a × Some_level L ts a × Fits n ts)
    told_found_in (Ok made) t = let both = told_found (Ok t.0) t.2 in (t.0, t.1, both.0, both.1)
    told_found_in (Err e) t = _

    pub told_only_in : (r : Result C Refusal) → IsOutcomeIn made_of (whole (p n) ts) end r → (a : A) → Some_level L ts a → Fits n ts → GaveIn made_of a r
    told_only_in (Ok made) t a h f = subst (made_of made) (told_only (Ok t.0) t.2 a h f) t.1
    told_only_in (Err refusal.NoMemory) t a h f = t
    told_only_in (Err (refusal.Syntax at)) t a h f = failed_not_done t.0 a t.1 h f
    told_only_in (Err (refusal.TooDeep at)) t a h f = deep_not_done t.0 a t.1 h f
    told_only_in (Err _) t a h f = t

    pub told_refused_in : (r : Result C Refusal) → IsOutcomeIn made_of (whole (p n) ts) end r → IfErr r (IsRefusalOf (Some_level L) n ts end)
    told_refused_in (Ok made) t = _
    told_refused_in (Err e) t = told_refused (Err e) t
