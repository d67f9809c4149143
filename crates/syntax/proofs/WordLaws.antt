-- What a reader promises of a language, and how readers that promise it are put together.
use Rattle.std.proofs.Common.{◌≡◌, ℕ, ◌≤◌, Bool, true, false, List, [], ◌∷◌, ◌++◌, length, Option, Some, refl, sym, ◌∙◌, ap, subst, inl, inr, ◌⊎◌, arith, rules, append_assoc, cond}
use Rattle.std.proofs.lemmas.List.{append_cancel_right}
use Rattle.std.proofs.lemmas.Bool.{and_parts}
use Rattle.token.specs.declared.kinds.Kind.{Kind}
use Rattle.token.specs.declared.kinds.Kind.TheVariants as k
use Rattle.token.specs.contracts.kinds.Kind.{the_type}
use denote.Enum.Bare.{same_true, true_same}
use Rattle.syntax.specs.Language.{Lexeme, Lexemes, head, kind_of, kind_at, Language, Then, Begins, after_kind, room_after, room}
use Rattle.syntax.specs.Language as lang
use Rattle.syntax.specs.Reading.{Verdict, Done, Fail, Deep, Outcome, Reader, and_then, ◌>>=◌, pure, refuse, by_kind, take, same_kind, expect, passes, expect_where}

-- ---- lists

pub append-nil : {A : Type 0} (xs : List A) → xs ++ [] ≡ xs
append-nil [] = refl
append-nil (x ∷ xs) = ap (λ t. x ∷ t) (append-nil xs)

pub head-append : (w : Lexemes) (a b : Lexemes) → head a ≡ head b → head (w ++ a) ≡ head (w ++ b)
head-append [] a b e = e
head-append (x ∷ w) a b e = refl

pub kind_at-append : (w : Lexemes) (a b : Lexemes) → head a ≡ head b → kind_at (w ++ a) ≡ kind_at (w ++ b)
kind_at-append w a b e = ap kind_of (head-append w a b e)

pub room-append : (left : Option ℕ) (a b : Lexemes) → room left (a ++ b) ≡ room (room left a) b
room-append left [] b = refl
room-append left (x ∷ a) b = room-append (room_after left x.kind) a b

-- ---- the case in which a reader made of two came to its outcome

pub data Bound {A B : Type 0} (p : Reader A) (f : A → Reader B) (ts : Lexemes) (v : Verdict B) (rest : Lexemes) : Type 0 where
  Through : (a : A) (mid : Lexemes) → p ts ≡ (Done a, mid) → f a mid ≡ (v, rest) → Bound p f ts v rest
  Failed : p ts ≡ (Fail, rest) → v ≡ Fail → Bound p f ts v rest
  Deepened : p ts ≡ (Deep, rest) → v ≡ Deep → Bound p f ts v rest

bound_at : {A B : Type 0} (p : Reader A) (f : A → Reader B) (ts : Lexemes) (v : Verdict B) (rest : Lexemes) (u : Verdict A) (mid : Lexemes)
    → p ts ≡ (u, mid) → and_then u mid f ≡ (v, rest) → Bound p f ts v rest
bound_at p f ts v rest (Done a) mid e h = Through a mid e h
bound_at p f ts v rest Fail mid e h = Failed (e ∙ ap (λ o. (Fail, o.1)) h) (sym (ap (λ o. o.0) h))
bound_at p f ts v rest Deep mid e h = Deepened (e ∙ ap (λ o. (Deep, o.1)) h) (sym (ap (λ o. o.0) h))

pub bound : {A B : Type 0} (p : Reader A) (f : A → Reader B) (ts : Lexemes) (v : Verdict B) (rest : Lexemes) → (p >>= f) ts ≡ (v, rest) → Bound p f ts v rest
bound p f ts v rest h = bound_at p f ts v rest (p ts).0 (p ts).1 refl h

pub bind_done : {A B : Type 0} (p : Reader A) (f : A → Reader B) (ts : Lexemes) (a : A) (mid : Lexemes) → p ts ≡ (Done a, mid) → (p >>= f) ts ≡ f a mid
bind_done p f ts a mid e = ap (λ o. and_then o.0 o.1 f) e

pub bind_fail : {A B : Type 0} (p : Reader A) (f : A → Reader B) (ts : Lexemes) (rest : Lexemes) → p ts ≡ (Fail, rest) → (p >>= f) ts ≡ (Fail, rest)
bind_fail p f ts rest e = ap (λ o. and_then o.0 o.1 f) e

pub bind_deep : {A B : Type 0} (p : Reader A) (f : A → Reader B) (ts : Lexemes) (rest : Lexemes) → p ts ≡ (Deep, rest) → (p >>= f) ts ≡ (Deep, rest)
bind_deep p f ts rest e = ap (λ o. and_then o.0 o.1 f) e

-- ---- sound: what is read is of the language, where reading stops a text of the language goes on, and only the next token counts

pub record TooMany (n : ℕ) {A : Type 0} (K : Language A) (w rest : Lexemes) : Type 0 where
  pub token : Lexeme
  pub more : Lexemes
  pub is : rest ≡ token ∷ more
  pub opens : token.kind ≡ k.Open
  pub full : room (Some n) w ≡ Some 0
  pub begins : Begins K (w ++ token ∷ [])

abbrev pub Meets : {A : Type 0} → ℕ → ℕ → Language A → Lexemes → Lexemes → Verdict A → Type 0
Meets n m K w rest (Done a) = K w a × (room (Some n) w ≡ Some m)
Meets n m K w rest Fail = Begins K w × ((l : ℕ) × (room (Some n) w ≡ Some l))
Meets n m K w rest Deep = TooMany n K w rest

pub record Took {A : Type 0} (n m : ℕ) (K : Language A) (ts : Lexemes) (v : Verdict A) (rest : Lexemes) : Type 0 where
  pub text : Lexemes
  pub cut : ts ≡ text ++ rest
  pub meets : Meets n m K text rest v

pub record Sound {A : Type 0} (n m : ℕ) (K : Language A) (p : Reader A) : Type 0 where
  pub begins : Begins K []
  pub took : (ts : Lexemes) (v : Verdict A) (rest : Lexemes) → p ts ≡ (v, rest) → Took n m K ts v rest
  pub looks : (w a b : Lexemes) (v : Verdict A) → p (w ++ a) ≡ (v, a) → head a ≡ head b → p (w ++ b) ≡ (v, b)

-- ---- sound: one reader behind the other

pub begins_first : {A B : Type 0} (K : Language A) (M : A → Language B) (w : Lexemes) → ((v : Lexemes) (a : A) → K v a → Begins (M a) []) → Begins K w → Begins (Then K M) w
begins_first K M w some (more, a, h) =
    let s = some (w ++ more) a h in
    (more ++ s.0, s.1, record { tree = a; split = record { front = w ++ more; back = s.0; cut = sym (append_assoc w more s.0); first = h; second = s.2 } })

begins_second : {A B : Type 0} (K : Language A) (M : A → Language B) (w v : Lexemes) (a : A) → K w a → Begins (M a) v → Begins (Then K M) (w ++ v)
begins_second K M w v a h (more, b, s) =
    (more, b, record { tree = a; split = record { front = w; back = v ++ more; cut = append_assoc w v more; first = h; second = s } })

room_through : (n l : ℕ) (a b : Lexemes) → room (Some n) a ≡ Some l → room (Some n) (a ++ b) ≡ room (Some l) b
room_through n l a b e = room-append (Some n) a b ∙ ap (λ r. room r b) e

meets_second : {A B : Type 0} (n l m : ℕ) (K : Language A) (M : A → Language B) (w v rest : Lexemes) (a : A) (u : Verdict B)
    → K w a → room (Some n) w ≡ Some l → Meets l m (M a) v rest u → Meets n m (Then K M) (w ++ v) rest u
meets_second n l m K M w v rest a (Done b) h e (s, r) =
    (record { tree = a; split = record { front = w; back = v; cut = refl; first = h; second = s } }, room_through n l w v e ∙ r)
meets_second n l m K M w v rest a Fail h e (s, r) = (begins_second K M w v a h s, (r.0, room_through n l w v e ∙ r.1))
meets_second n l m K M w v rest a Deep h e o =
    record {
      token = o.token;
      more = o.more;
      is = o.is;
      opens = o.opens;
      full = room_through n l w v e ∙ o.full;
      begins = subst (λ t. Begins (Then K M) t) (sym (append_assoc w v (o.token ∷ []))) (begins_second K M w (v ++ o.token ∷ []) a h o.begins);
    }

took_bound : {A B : Type 0} (n l m : ℕ) (K : Language A) (M : A → Language B) (p : Reader A) (f : A → Reader B)
    → Sound n l K p → ((w : Lexemes) (a : A) → K w a → Sound l m (M a) (f a))
    → (ts : Lexemes) (v : Verdict B) (rest : Lexemes) → Bound p f ts v rest → Took n m (Then K M) ts v rest
took_bound n l m K M p f sp sf ts v rest (Through a mid e h) =
    let one = sp.took ts (Done a) mid e in
    let two = (sf one.text a one.meets.0).took mid v rest h in
    record {
      text = one.text ++ two.text;
      cut = one.cut ∙ ap (λ t. one.text ++ t) two.cut ∙ sym (append_assoc one.text two.text rest);
      meets = meets_second n l m K M one.text two.text rest a v one.meets.0 one.meets.1 two.meets;
    }
took_bound n l m K M p f sp sf ts v rest (Failed e is) =
    let one = sp.took ts Fail rest e in
    record {
      text = one.text;
      cut = one.cut;
      meets = subst (λ u. Meets n m (Then K M) one.text rest u) (sym is) (begins_first K M one.text (λ w a h. (sf w a h).begins) one.meets.0, one.meets.1);
    }
took_bound n l m K M p f sp sf ts v rest (Deepened e is) =
    let one = sp.took ts Deep rest e in
    let o = one.meets in
    let full : TooMany n (Then K M) one.text rest = record { token = o.token; more = o.more; is = o.is; opens = o.opens; full = o.full; begins = begins_first K M (one.text ++ o.token ∷ []) (λ w a h. (sf w a h).begins) o.begins } in
    record { text = one.text; cut = one.cut; meets = subst (λ u. Meets n m (Then K M) one.text rest u) (sym is) full }

looks_bound : {A B : Type 0} (n l m : ℕ) (K : Language A) (M : A → Language B) (p : Reader A) (f : A → Reader B)
    → Sound n l K p → ((w : Lexemes) (a : A) → K w a → Sound l m (M a) (f a))
    → (w a b : Lexemes) (v : Verdict B) → Bound p f (w ++ a) v a → head a ≡ head b → (p >>= f) (w ++ b) ≡ (v, b)
looks_bound n l m K M p f sp sf w a b v (Through x mid e h) same =
    let one = sp.took (w ++ a) (Done x) mid e in
    let sound = sf one.text x one.meets.0 in
    let two = sound.took mid v a h in
    let whole : w ++ a ≡ (one.text ++ two.text) ++ a = one.cut ∙ ap (λ t. one.text ++ t) two.cut ∙ sym (append_assoc one.text two.text a) in
    let front : w ≡ one.text ++ two.text = append_cancel_right w (one.text ++ two.text) a whole in
    let first : p (one.text ++ (two.text ++ a)) ≡ (Done x, two.text ++ a) = subst (λ t. p t ≡ (Done x, two.text ++ a)) (one.cut ∙ ap (λ t. one.text ++ t) two.cut) (subst (λ m. p (w ++ a) ≡ (Done x, m)) two.cut e) in
    let second : f x (two.text ++ a) ≡ (v, a) = subst (λ t. f x t ≡ (v, a)) two.cut h in
    let moved = sp.looks one.text (two.text ++ a) (two.text ++ b) (Done x) first (head-append two.text a b same) in
    let at : w ++ b ≡ one.text ++ (two.text ++ b) = ap (λ t. t ++ b) front ∙ append_assoc one.text two.text b in
    ap (p >>= f) at ∙ bind_done p f (one.text ++ (two.text ++ b)) x (two.text ++ b) moved ∙ sound.looks two.text a b v second same
looks_bound n l m K M p f sp sf w a b v (Failed e is) same = bind_fail p f (w ++ b) b (sp.looks w a b Fail e same) ∙ ap (λ u. (u, b)) (sym is)
looks_bound n l m K M p f sp sf w a b v (Deepened e is) same = bind_deep p f (w ++ b) b (sp.looks w a b Deep e same) ∙ ap (λ u. (u, b)) (sym is)

pub sound_then : {A B : Type 0} (n l m : ℕ) (K : Language A) (M : A → Language B) (p : Reader A) (f : A → Reader B)
    → Sound n l K p → ((w : Lexemes) (a : A) → K w a → Sound l m (M a) (f a)) → Sound n m (Then K M) (p >>= f)
sound_then n l m K M p f sp sf = record {
  begins = begins_first K M [] (λ w a h. (sf w a h).begins) sp.begins;
  took = λ ts v rest e. took_bound n l m K M p f sp sf ts v rest (bound p f ts v rest e);
  looks = λ w a b v e same. looks_bound n l m K M p f sp sf w a b v (bound p f (w ++ a) v a e) same;
}

-- ---- sound: the small readers

pub weaken : {A : Type 0} (n m : ℕ) (K L : Language A) (p : Reader A) → ((w : Lexemes) (a : A) → K w a → L w a) → Sound n m K p → Sound n m L p
weaken n m K L p into s = record {
  begins = into_begins K L [] into s.begins;
  took = λ ts v rest e. let t = s.took ts v rest e in record { text = t.text; cut = t.cut; meets = into_meets n m K L t.text rest v into t.meets };
  looks = s.looks;
}
  where
    into_begins : {A : Type 0} (K L : Language A) (w : Lexemes) → ((w : Lexemes) (a : A) → K w a → L w a) → Begins K w → Begins L w
    into_begins K L w into (more, a, h) = (more, a, into (w ++ more) a h)

    into_meets : {A : Type 0} (n m : ℕ) (K L : Language A) (w rest : Lexemes) (v : Verdict A) → ((w : Lexemes) (a : A) → K w a → L w a) → Meets n m K w rest v → Meets n m L w rest v
    into_meets n m K L w rest (Done a) into (h, r) = (into w a h, r)
    into_meets n m K L w rest Fail into (b, r) = (into_begins K L w into b, r)
    into_meets n m K L w rest Deep into o = record { token = o.token; more = o.more; is = o.is; opens = o.opens; full = o.full; begins = into_begins K L (w ++ o.token ∷ []) into o.begins }

pair_eq : {A : Type 0} (u v : Verdict A) (s t : Lexemes) → u ≡ v → s ≡ t → ◌≡◌ {A = Outcome A} (u, s) (v, t)
pair_eq u v s t a b = cc

-- a reader that takes nothing takes nothing before other tokens either
pub stays : {A : Type 0} (u v : Verdict A) (w s t : Lexemes) → ◌≡◌ {A = Outcome A} (u, w ++ s) (v, s) → ◌≡◌ {A = Outcome A} (u, w ++ t) (v, t)
stays u v w s t e =
    let is : u ≡ v = ap (λ o. o.0) e in
    let none : w ≡ [] = append_cancel_right w [] s (ap (λ o. o.1) e) in
    pair_eq u v (w ++ t) t is (ap (λ z. z ++ t) none)

pub sound_pure : {A : Type 0} (n : ℕ) (a : A) → Sound n n (lang.pure a) (pure a)
sound_pure {A} n a = record {
  begins = ([], a, (refl, refl));
  took = λ ts v rest e. record { text = []; cut = ap (λ o. o.1) e; meets = subst (λ u. Meets n n (lang.pure a) [] rest u) (ap (λ o. o.0) e) ((refl, refl), refl) };
  looks = λ w s t v e same. stays (Done a) v w s t e;
}

pub sound_refuse : {A : Type 0} (n m : ℕ) (K : Language A) → Begins K [] → Sound n m K refuse
sound_refuse {A} n m K some = record {
  begins = some;
  took = λ ts v rest e. record { text = []; cut = ap (λ o. o.1) e; meets = subst (λ u. Meets n m K [] rest u) (ap (λ o. o.0) e) (some, (n, refl)) };
  looks = λ w s t v e same. stays Fail v w s t e;
}

pub sound_by_kind : {A : Type 0} (n m : ℕ) (K : Language A) (branch : Kind → Reader A) → ((kind : Kind) → Sound n m K (branch kind)) → Sound n m K (by_kind branch)
sound_by_kind n m K branch s = record {
  begins = (s k.End).begins;
  took = λ ts v rest e. (s (kind_at ts)).took ts v rest e;
  looks = λ w a b v e same.
      let moved = (s (kind_at (w ++ a))).looks w a b v e same in
      subst (λ kind. branch kind (w ++ b) ≡ (v, b)) (kind_at-append w a b same) moved;
}

pub sound_cond : {A : Type 0} (n m : ℕ) (K : Language A) (b : Bool) (p q : Reader A) → Sound n m K p → Sound n m K q → Sound n m K (cond b p q)
sound_cond n m K true p q sp sq = sp
sound_cond n m K false p q sp sq = sq

-- ---- one token

pub same_kind_is : (a b : Kind) → same_kind a b ≡ true → a ≡ b
unfolding same_kind
same_kind_is a b e = same_true the_type (search rules) a b e

pub same_kind_self : (a : Kind) → same_kind a a ≡ true
unfolding same_kind
same_kind_self a = true_same the_type a a refl

abbrev pub some_lexeme : Kind → Lexeme
some_lexeme kind = record { kind = kind; spelling = []; at = 0 }

some_token : (kind : Kind) → Begins (lang.token kind) []
some_token kind = (some_lexeme kind ∷ [], some_lexeme kind, (refl, refl))

not_taken : (kind : Kind) (n m : ℕ) (ts rest : Lexemes) (v : Verdict Lexeme) → ◌≡◌ {A = Outcome Lexeme} (Fail, ts) (v, rest) → Took n m (lang.token kind) ts v rest
not_taken kind n m ts rest v e =
    record { text = []; cut = ap (λ o. o.1) e; meets = subst (λ u. Meets n m (lang.token kind) [] rest u) (ap (λ o. o.0) e) (some_token kind, (n, refl)) }

taken : (kind : Kind) (n m : ℕ) (b : Bool) (ts : Lexemes) (v : Verdict Lexeme) (rest : Lexemes) → after_kind kind n ≡ Some m
    → same_kind (kind_at ts) kind ≡ b → cond b (take ts) (Fail, ts) ≡ (v, rest) → Took n m (lang.token kind) ts v rest
taken kind n m true [] v rest neutral is e = not_taken kind n m [] rest v e
taken kind n m true (x ∷ ts) v rest neutral is e =
    let same : x.kind ≡ kind = same_kind_is x.kind kind is in
    let room : after_kind x.kind n ≡ Some m = ap (λ kind. after_kind kind n) same ∙ neutral in
    record { text = x ∷ []; cut = ap (λ o. x ∷ o.1) e; meets = subst (λ u. Meets n m (lang.token kind) (x ∷ []) rest u) (ap (λ o. o.0) e) ((refl, same), room) }
taken kind n m false ts v rest neutral is e = not_taken kind n m ts rest v e

not_longer : {A : Type 0} (x : A) (xs : List A) → xs ≡ x ∷ xs → ⊥
not_longer x xs e = let e' = ap length e in omega arith

looks_front : (b : Bool) (a c : Lexemes) (v : Verdict Lexeme) → cond b (take a) (Fail, a) ≡ (v, a) → head a ≡ head c → cond b (take c) (Fail, c) ≡ (v, c)
looks_front true [] [] v e same = e
looks_front true [] (y ∷ c) v e same = absurd (cc)
looks_front true (x ∷ a) c v e same = absurd (not_longer x a (ap (λ o. o.1) e))
looks_front false a c v e same = stays Fail v [] a c e

looks_behind : (b : Bool) (x : Lexeme) (w a c : Lexemes) (v : Verdict Lexeme) → ◌≡◌ {A = Outcome Lexeme} (cond b (Done x, w ++ a) (Fail, x ∷ (w ++ a))) (v, a) → ◌≡◌ {A = Outcome Lexeme} (cond b (Done x, w ++ c) (Fail, x ∷ (w ++ c))) (v, c)
looks_behind true x w a c v e = stays (Done x) v w a c e
looks_behind false x w a c v e = stays Fail v (x ∷ w) a c e

expect_looks : (kind : Kind) (w a b : Lexemes) (v : Verdict Lexeme) → expect kind (w ++ a) ≡ (v, a) → head a ≡ head b → expect kind (w ++ b) ≡ (v, b)
expect_looks kind [] a b v e same =
    ap (λ h. cond (same_kind (kind_of h) kind) (take b) (Fail, b)) (sym same) ∙ looks_front (same_kind (kind_at a) kind) a b v e same
expect_looks kind (x ∷ w) a b v e same = looks_behind (same_kind x.kind kind) x w a b v e

pub sound_expect : (n m : ℕ) (kind : Kind) → after_kind kind n ≡ Some m → Sound n m (lang.token kind) (expect kind)
sound_expect n m kind neutral = record {
  begins = some_token kind;
  took = λ ts v rest e. taken kind n m (same_kind (kind_at ts) kind) ts v rest neutral refl e;
  looks = λ w a b v e same. expect_looks kind w a b v e same;
}

taken_where : (kind : Kind) (test : Lexeme → Bool) (n m : ℕ) (b : Bool) (ts : Lexemes) (v : Verdict Lexeme) (rest : Lexemes) → Begins (lang.token_where kind test) [] → after_kind kind n ≡ Some m
    → passes kind test (head ts) ≡ b → cond b (take ts) (Fail, ts) ≡ (v, rest) → Took n m (lang.token_where kind test) ts v rest
taken_where kind test n m true [] v rest some neutral is e =
    record { text = []; cut = ap (λ o. o.1) e; meets = subst (λ u. Meets n m (lang.token_where kind test) [] rest u) (ap (λ o. o.0) e) (some, (n, refl)) }
taken_where kind test n m true (x ∷ ts) v rest some neutral is e =
    let two = and_parts (same_kind x.kind kind) (test x) is in
    let same : x.kind ≡ kind = same_kind_is x.kind kind two.0 in
    let room : after_kind x.kind n ≡ Some m = ap (λ kind. after_kind kind n) same ∙ neutral in
    record { text = x ∷ []; cut = ap (λ o. x ∷ o.1) e; meets = subst (λ u. Meets n m (lang.token_where kind test) (x ∷ []) rest u) (ap (λ o. o.0) e) ((refl, same, two.1), room) }
taken_where kind test n m false ts v rest some neutral is e =
    record { text = []; cut = ap (λ o. o.1) e; meets = subst (λ u. Meets n m (lang.token_where kind test) [] rest u) (ap (λ o. o.0) e) (some, (n, refl)) }

where_looks : (kind : Kind) (test : Lexeme → Bool) (w a b : Lexemes) (v : Verdict Lexeme) → expect_where kind test (w ++ a) ≡ (v, a) → head a ≡ head b → expect_where kind test (w ++ b) ≡ (v, b)
where_looks kind test [] a b v e same =
    ap (λ h. cond (passes kind test h) (take b) (Fail, b)) (sym same) ∙ looks_front (passes kind test (head a)) a b v e same
where_looks kind test (x ∷ w) a b v e same = looks_behind (passes kind test (Some x)) x w a b v e

pub sound_where : (n m : ℕ) (kind : Kind) (test : Lexeme → Bool) → after_kind kind n ≡ Some m → Begins (lang.token_where kind test) [] → Sound n m (lang.token_where kind test) (expect_where kind test)
sound_where n m kind test neutral some = record {
  begins = some;
  took = λ ts v rest e. taken_where kind test n m (passes kind test (head ts)) ts v rest some neutral refl e;
  looks = λ w a b v e same. where_looks kind test w a b v e same;
}

-- ---- complete: a text of the language is read to its end, unless a parenthesis too many is met

abbrev pub Accepts : {A : Type 0} → Outcome A → A → Lexemes → Type 0
Accepts out a rest = (out ≡ (Done a, rest)) ⊎ ((stop : Lexemes) × (out ≡ (Deep, stop)))

-- the number: how tightly the next token may bind so that the reader does not go on with it
pub record Finds {A : Type 0} (rank : Kind → ℕ) (m : ℕ) (L : Language A) (p : Reader A) : Type 0 where
  pub finds : (w rest : Lexemes) (a : A) → L w a → rank (kind_at rest) ≤ m → Accepts (p (w ++ rest)) a rest

pub finds_then : {A B : Type 0} (before rank : Kind → ℕ) (l m : ℕ) (K : Language A) (M : A → Language B) (p : Reader A) (f : A → Reader B)
    → Finds before l K p → ((w : Lexemes) (a : A) → K w a → Finds rank m (M a) (f a))
    → ((a : A) (v rest : Lexemes) (b : B) → M a v b → rank (kind_at rest) ≤ m → before (kind_at (v ++ rest)) ≤ l)
    → Finds rank m (Then K M) (p >>= f)
finds_then before rank l m K M p f fp ff stops = record {
  finds = λ w rest b h small.
      let s = h.split in
      let at : w ++ rest ≡ s.front ++ (s.back ++ rest) = ap (λ t. t ++ rest) s.cut ∙ append_assoc s.front s.back rest in
      subst (λ t. Accepts ((p >>= f) t) b rest) (sym at)
      (go p f s.front s.back rest h.tree b (fp.finds s.front (s.back ++ rest) h.tree s.first (stops h.tree s.back rest b s.second small))
      ((ff s.front h.tree s.first).finds s.back rest b s.second small));
}
  where
    go : {A B : Type 0} (p : Reader A) (f : A → Reader B) (w v rest : Lexemes) (a : A) (b : B) → Accepts (p (w ++ (v ++ rest))) a (v ++ rest) → Accepts (f a (v ++ rest)) b rest → Accepts ((p >>= f) (w ++ (v ++ rest))) b rest
    go p f w v rest a b (inl e) two = subst (λ o. Accepts o b rest) (sym (bind_done p f (w ++ (v ++ rest)) a (v ++ rest) e)) two
    go p f w v rest a b (inr (stop, e)) two = inr (stop, bind_deep p f (w ++ (v ++ rest)) stop e)

pub finds_pure : {A : Type 0} (rank : Kind → ℕ) (m : ℕ) (a : A) → Finds rank m (lang.pure a) (pure a)
finds_pure rank m a = record { finds = λ w rest b h small. inl (ap (λ t. (Done a, t ++ rest)) h.0 ∙ ap (λ x. (Done x, rest)) (sym h.1)) }

pub narrow : {A : Type 0} (rank : Kind → ℕ) (m : ℕ) (K L : Language A) (p : Reader A) → ((w : Lexemes) (a : A) → L w a → K w a) → Finds rank m K p → Finds rank m L p
narrow rank m K L p into f = record { finds = λ w rest a h small. f.finds w rest a (into w a h) small }
