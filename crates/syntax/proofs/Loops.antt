-- Parentheses, and items as many as there are.
use Rattle.std.proofs.Common.{◌≡◌, ℕ, zero, suc, ◌+◌, ◌≤◌, Bool, true, false, ◌&&◌, List, [], ◌∷◌, ◌++◌, length, Some, refl, sym, ◌∙◌, ap, subst, inl, inr, arith, append_assoc, cond, length-append}
use Rattle.token.specs.declared.kinds.Kind.{Kind}
use Rattle.token.specs.declared.kinds.Kind.TheVariants as k
use Rattle.syntax.specs.Language.{Lexeme, Lexemes, head, kind_at, Language, Then, Each, Behind, Begins}
use Rattle.syntax.specs.Language as lang
use Rattle.syntax.specs.Reading.{Verdict, Done, Fail, Deep, Outcome, Reader, and_then, ◌>>=◌, ◌>>◌, pure, take, same_kind, expect, expect_where, full, parens, many, all}
use Rattle.syntax.proofs.WordLaws.{append-nil, kind_at-append, bind_done, bind_deep, Meets, TooMany, Took, Sound, sound_then, sound_pure, sound_by_kind, sound_cond, sound_expect, weaken, stays, same_kind_is, same_kind_self, some_lexeme, Accepts, Finds, finds_then, finds_pure}

-- ---- parentheses

-- after any opening parenthesis
begun_parens : {A : Type 0} (L : Language A) (x : Lexeme) → x.kind ≡ k.Open → (w : Lexemes) (a : A) → L w a → Begins (lang.parens L) (x ∷ [])
begun_parens L x is w a h = (
  w ++ some_lexeme k.Close ∷ [],
  a,
  record {
    tree = x;
    split = record {
      front = x ∷ [];
      back = w ++ some_lexeme k.Close ∷ [];
      cut = refl;
      first = (refl, is);
      second =
          record {
            tree = a;
            split = record {
              front = w;
              back = some_lexeme k.Close ∷ [];
              cut = refl;
              first = h;
              second =
                  record { tree = some_lexeme k.Close; split = record { front = some_lexeme k.Close ∷ []; back = []; cut = refl; first = (refl, refl); second = (refl, refl) } };
            };
          };
    };
  },
)

begun_nothing : {A : Type 0} (L : Language A) → Begins L [] → Begins (lang.parens L) []
begun_nothing L (w, a, h) = let b = begun_parens L (some_lexeme k.Open) refl w a h in (some_lexeme k.Open ∷ b.0, b.1, b.2)

full_took : {A : Type 0} (L : Language A) (n m : ℕ) (b : Bool) (ts : Lexemes) (v : Verdict A) (rest : Lexemes) → Begins L [] → n ≡ 0
    → same_kind (kind_at ts) k.Open ≡ b → ◌≡◌ {A = Outcome A} (cond b (Deep, ts) (Fail, ts)) (v, rest) → Took n m (lang.parens L) ts v rest
full_took L n m true [] v rest some none is e = absurd (cc (same_kind_is k.End k.Open is))
full_took L n m true (x ∷ ts) v rest (w, a, h) none is e =
    let begun = begun_parens L x (same_kind_is x.kind k.Open is) w a h in
    let over : TooMany n (lang.parens L) [] rest = record { token = x; more = ts; is = sym (ap (λ o. o.1) e); opens = same_kind_is x.kind k.Open is; full = ap (λ z. Some z) none; begins = begun } in
    record { text = []; cut = ap (λ o. o.1) e; meets = subst (λ u. Meets n m (lang.parens L) [] rest u) (ap (λ o. o.0) e) over }
full_took L n m false ts v rest some none is e =
    record { text = []; cut = ap (λ o. o.1) e; meets = subst (λ u. Meets n m (lang.parens L) [] rest u) (ap (λ o. o.0) e) (begun_nothing L some, (n, refl)) }

full_stays : {A : Type 0} (b : Bool) (w a c : Lexemes) (v : Verdict A) → ◌≡◌ {A = Outcome A} (cond b (Deep, w ++ a) (Fail, w ++ a)) (v, a) → ◌≡◌ {A = Outcome A} (cond b (Deep, w ++ c) (Fail, w ++ c)) (v, c)
full_stays true w a c v e = stays Deep v w a c e
full_stays false w a c v e = stays Fail v w a c e

full_looks : {A : Type 0} (w a c : Lexemes) (v : Verdict A) → full {A = A} (w ++ a) ≡ (v, a) → head a ≡ head c → full {A = A} (w ++ c) ≡ (v, c)
full_looks {A} w a c v e same =
    ap (λ kind. cond (same_kind kind k.Open) (let o : Outcome A = (Deep, w ++ c) in o) (Fail, w ++ c)) (sym (kind_at-append w a c same)) ∙ full_stays (same_kind (kind_at (w ++ a)) k.Open) w a c v e

pub sound_parens : {A : Type 0} (n : ℕ) (L : Language A) (p : Reader A) → Begins L [] → ((m : ℕ) → n ≡ suc m → Sound m m L p) → Sound n n (lang.parens L) (parens n p)
unfolding parens
sound_parens zero L p some s = record {
  begins = begun_nothing L some;
  took = λ ts v rest e. full_took L 0 0 (same_kind (kind_at ts) k.Open) ts v rest some refl refl e;
  looks = full_looks;
}
sound_parens (suc n) L p some s =
    sound_then (suc n) n (suc n) (lang.token k.Open) (λ _. Then L (λ x. Then (lang.token k.Close) (λ _. lang.pure x))) (expect k.Open) (λ _. p >>= (λ x. expect k.Close >> pure x))
    (sound_expect (suc n) n k.Open refl)
    (λ w a h. sound_then n n (suc n) L (λ x. Then (lang.token k.Close) (λ _. lang.pure x)) p (λ x. expect k.Close >> pure x) (s n refl)
    (λ w a h. sound_then n (suc n) (suc n) (lang.token k.Close) (λ _. lang.pure a) (expect k.Close) (λ _. pure a) (sound_expect n (suc n) k.Close refl) (λ w b h. sound_pure (suc n) a)))

-- ---- items as many as there are

behind_more : {A : Type 0} (found : List A) (L : Language A) (w : Lexemes) (all : List A) → Then L (λ x. Behind (found ++ x ∷ []) L) w all → Behind found L w all
behind_more found L w all h =
    let s = h.split in
    (h.tree ∷ s.second.0, s.second.1 ∙ append_assoc found (h.tree ∷ []) s.second.0, record { front = s.front; back = s.back; cut = s.cut; first = s.first; second = s.second.2 })

pub sound_many : {A : Type 0} (n : ℕ) (L : Language A) (goes_on : Kind → Bool) (item : Reader A) → Sound n n L item → (turns : ℕ) (found : List A) → Sound n n (Behind found L) (many goes_on item turns found)
unfolding many
sound_many n L goes_on item s zero found = weaken n n (lang.pure found) (Behind found L) (pure found) (λ w a h. ([], h.1 ∙ sym (append-nil found), h.0)) (sound_pure n found)
sound_many n L goes_on item s (suc turns) found =
    sound_by_kind n n (Behind found L) (λ kind. cond (goes_on kind) (item >>= (λ x. many goes_on item turns (found ++ x ∷ []))) (pure found)) (λ kind.
    sound_cond n n (Behind found L) (goes_on kind) (item >>= (λ x. many goes_on item turns (found ++ x ∷ []))) (pure found)
    (weaken n n (Then L (λ x. Behind (found ++ x ∷ []) L)) (Behind found L) (item >>= (λ x. many goes_on item turns (found ++ x ∷ []))) (behind_more found L)
    (sound_then n n n L (λ x. Behind (found ++ x ∷ []) L) item (λ x. many goes_on item turns (found ++ x ∷ [])) s (λ w x h. sound_many n L goes_on item s turns (found ++ x ∷ []))))
    (weaken n n (lang.pure found) (Behind found L) (pure found) (λ w a h. ([], h.1 ∙ sym (append-nil found), h.0)) (sound_pure n found)))

-- the same, whatever is done with what was read
bind_same_at : {A B : Type 0} (f g : A → Reader B) (u : Verdict A) (mid : Lexemes) → ((a : A) → u ≡ Done a → f a mid ≡ g a mid) → and_then u mid f ≡ and_then u mid g
bind_same_at f g (Done a) mid h = h a refl
bind_same_at f g Fail mid h = refl
bind_same_at f g Deep mid h = refl

bind_same : {A B : Type 0} (p : Reader A) (f g : A → Reader B) (ts : Lexemes) → ((a : A) (mid : Lexemes) → p ts ≡ (Done a, mid) → f a mid ≡ g a mid) → (p >>= f) ts ≡ (p >>= g) ts
bind_same {A} p f g ts h = bind_same_at f g (p ts).0 (p ts).1 (λ a e. let whole : ◌≡◌ {A = Outcome A} (p ts) (Done a, (p ts).1) = ap (λ u. (u, (p ts).1)) e in h a (p ts).1 whole)

-- turns enough are as good as more
chosen : {A : Type 0} (b : Bool) (p q r : Reader A) (ts : Lexemes) → p ts ≡ q ts → cond b p r ts ≡ cond b q r ts
chosen true p q r ts e = e
chosen false p q r ts e = refl

rest_shorter : (w mid ts : Lexemes) → ts ≡ w ++ mid → 1 ≤ length w → suc (length mid) ≤ length ts
rest_shorter w mid ts cut some = omega (arith, ap length cut, length-append w mid)

pub many_enough : {A : Type 0} (n : ℕ) (L : Language A) (goes_on : Kind → Bool) (item : Reader A) → Sound n n L item → ((w : Lexemes) (a : A) → L w a → 1 ≤ length w) → goes_on k.End ≡ false
    → (s t : ℕ) (ts : Lexemes) (found : List A) → length ts ≤ s → length ts ≤ t → many goes_on item s found ts ≡ many goes_on item t found ts
unfolding many
many_enough n L goes_on item sound some ends zero zero ts found hs ht = refl
many_enough n L goes_on item sound some ends zero (suc t) [] found hs ht = ap (λ b. cond b (item >>= (λ x. many goes_on item t (found ++ x ∷ []))) (pure found) []) (sym ends)
many_enough n L goes_on item sound some ends zero (suc t) (x ∷ ts) found hs ht = absurd (omega arith)
many_enough n L goes_on item sound some ends (suc s) zero [] found hs ht = ap (λ b. cond b (item >>= (λ x. many goes_on item s (found ++ x ∷ []))) (pure found) []) ends
many_enough n L goes_on item sound some ends (suc s) zero (x ∷ ts) found hs ht = absurd (omega arith)
many_enough n L goes_on item sound some ends (suc s) (suc t) ts found hs ht =
    chosen (goes_on (kind_at ts)) (item >>= (λ x. many goes_on item s (found ++ x ∷ []))) (item >>= (λ x. many goes_on item t (found ++ x ∷ []))) (pure found) ts
    (bind_same item (λ x. many goes_on item s (found ++ x ∷ [])) (λ x. many goes_on item t (found ++ x ∷ [])) ts (λ a mid e.
    let o = sound.took ts (Done a) mid e in
    let shorter : suc (length mid) ≤ length ts = rest_shorter o.text mid ts o.cut (some o.text a o.meets.0) in
    many_enough n L goes_on item sound some ends s t mid (found ++ a ∷ []) (omega arith) (omega arith)))

pub sound_all : {A : Type 0} (n : ℕ) (L : Language A) (goes_on : Kind → Bool) (item : Reader A) → Sound n n L item → ((w : Lexemes) (a : A) → L w a → 1 ≤ length w) → goes_on k.End ≡ false
    → (found : List A) → Sound n n (Behind found L) (all goes_on item found)
sound_all n L goes_on item sound some ends found = record {
  begins = (sound_many n L goes_on item sound 0 found).begins;
  took = λ ts v rest e. (sound_many n L goes_on item sound (length ts) found).took ts v rest e;
  looks = λ w a b v e same.
      let turns = length (w ++ a) + length (w ++ b) in
      let more : many goes_on item turns found (w ++ a) ≡ (v, a) = many_enough n L goes_on item sound some ends turns (length (w ++ a)) (w ++ a) found (omega arith) (omega arith) ∙ e in
      many_enough n L goes_on item sound some ends (length (w ++ b)) turns (w ++ b) found (omega arith) (omega arith) ∙ (sound_many n L goes_on item sound turns found).looks w a b v more same;
}

-- ---- complete

-- each text begins with a token whose kind passes the test
pub record Opening {A : Type 0} (test : Kind → Bool) (L : Language A) (w : Lexemes) : Type 0 where
  pub token : Lexeme
  pub more : Lexemes
  pub is : w ≡ token ∷ more
  pub passes : test token.kind ≡ true

pub finds_expect : (rank : Kind → ℕ) (m : ℕ) (kind : Kind) → Finds rank m (lang.token kind) (expect kind)
finds_expect rank m kind = record {
  finds = λ w rest x h small.
      let same : same_kind x.kind kind ≡ true = ap (λ a. same_kind a kind) h.1 ∙ same_kind_self kind in
      subst (λ v. Accepts (expect kind (v ++ rest)) x rest) (sym h.0) (inl (ap (λ b. cond b (take (x ∷ rest)) (Fail, x ∷ rest)) same));
}

pub finds_where : (rank : Kind → ℕ) (m : ℕ) (kind : Kind) (test : Lexeme → Bool) → Finds rank m (lang.token_where kind test) (expect_where kind test)
finds_where rank m kind test = record {
  finds = λ w rest x h small.
      let same : same_kind x.kind kind ≡ true = ap (λ a. same_kind a kind) h.1 ∙ same_kind_self kind in
      let passed : same_kind x.kind kind && test x ≡ true = ap (λ b. b && test x) same ∙ h.2 in
      subst (λ v. Accepts (expect_where kind test (v ++ rest)) x rest) (sym h.0) (inl (ap (λ b. cond b (take (x ∷ rest)) (Fail, x ∷ rest)) passed));
}

-- nothing that follows a token keeps it from being read
pub finds_after : {B : Type 0} (rank : Kind → ℕ) (m : ℕ) (kind : Kind) (M : Lexeme → Language B) (f : Lexeme → Reader B)
    → ((w : Lexemes) (x : Lexeme) → lang.token kind w x → Finds rank m (M x) (f x)) → Finds rank m (Then (lang.token kind) M) (expect kind >>= f)
finds_after rank m kind M f ff = finds_then (λ _. 0) rank 0 m (lang.token kind) M (expect kind) f (finds_expect (λ _. 0) 0 kind) ff (λ x v rest b h small. omega arith)

pub kind_first : {B : Type 0} (kind : Kind) (M : Lexeme → Language B) (v rest : Lexemes) (b : B) → Then (lang.token kind) M v b → kind_at (v ++ rest) ≡ kind
kind_first kind M v rest b h = ap (λ t. kind_at (t ++ rest)) (h.split.cut ∙ ap (λ t. t ++ h.split.back) h.split.first.0) ∙ h.split.first.1

full_deep : {A : Type 0} (x : Lexeme) (ts : Lexemes) → x.kind ≡ k.Open → full {A = A} (x ∷ ts) ≡ (Deep, x ∷ ts)
full_deep {A} x ts is =
    let same : same_kind x.kind k.Open ≡ true = ap (λ a. same_kind a k.Open) is ∙ same_kind_self k.Open in
    ap (λ b. cond b (let o : Outcome A = (Deep, x ∷ ts) in o) (Fail, x ∷ ts)) same

pub finds_parens : {A : Type 0} (rank : Kind → ℕ) (m n : ℕ) (L : Language A) (p : Reader A) → rank k.Close ≤ 0 → ((l : ℕ) → n ≡ suc l → Finds rank 0 L p) → Finds rank m (lang.parens L) (parens n p)
unfolding parens
finds_parens rank m zero L p close f = record {
  finds = λ w rest a h small.
      subst (λ t. Accepts (full t) a rest) (sym (ap (λ t. t ++ rest) (h.split.cut ∙ ap (λ t. t ++ h.split.back) h.split.first.0)))
      (inr (h.tree ∷ (h.split.back ++ rest), full_deep h.tree (h.split.back ++ rest) h.split.first.1));
}
finds_parens rank m (suc n) L p close f =
    finds_after rank m k.Open (λ _. Then L (λ x. Then (lang.token k.Close) (λ _. lang.pure x))) (λ _. p >>= (λ x. expect k.Close >> pure x))
    (λ w a h. finds_then rank rank 0 m L (λ x. Then (lang.token k.Close) (λ _. lang.pure x)) p (λ x. expect k.Close >> pure x) (f n refl)
    (λ w a h. finds_after rank m k.Close (λ _. lang.pure a) (λ _. pure a) (λ w x h. finds_pure rank m a))
    (λ a v rest b h small. subst (λ kind. rank kind ≤ 0) (sym (kind_first k.Close (λ _. lang.pure a) v rest b h)) close))

-- what a loop asks: items begin with what it goes on with, and stop before that; what it stops at it does not go on with
pub record Loops {A : Type 0} (rank : Kind → ℕ) (l m : ℕ) (goes_on : Kind → Bool) (L : Language A) : Type 0 where
  pub opening : (w : Lexemes) (a : A) → L w a → Opening goes_on L w
  pub binds : (kind : Kind) → goes_on kind ≡ true → rank kind ≤ l
  pub stops : (kind : Kind) → rank kind ≤ m → goes_on kind ≡ false
  pub below : m ≤ l

pub each_small : {A : Type 0} (rank : Kind → ℕ) (l m : ℕ) (goes_on : Kind → Bool) (L : Language A) → Loops rank l m goes_on L
    → (xs : List A) (w rest : Lexemes) → Each L w xs → rank (kind_at rest) ≤ m → rank (kind_at (w ++ rest)) ≤ l
each_small rank l m goes_on L loop [] w rest h small = let below = loop.below in let e = ap (λ t. rank (kind_at (t ++ rest))) h in omega arith
each_small rank l m goes_on L loop (x ∷ xs) w rest h small =
    let o = loop.opening h.front x h.first in
    let e : kind_at (w ++ rest) ≡ o.token.kind = ap (λ t. kind_at (t ++ rest)) (h.cut ∙ ap (λ t. t ++ h.back) o.is) in
    subst (λ kind. rank kind ≤ l) (sym e) (loop.binds o.token.kind o.passes)

pub accepts_through : {A B : Type 0} (p : Reader A) (f : A → Reader B) (ts rest stop : Lexemes) (a : A) (b : B) → Accepts (p ts) a rest → Accepts (f a rest) b stop → Accepts ((p >>= f) ts) b stop
accepts_through p f ts rest stop a b (inl e) two = subst (λ o. Accepts o b stop) (sym (bind_done p f ts a rest e)) two
accepts_through p f ts rest stop a b (inr (s, e)) two = inr (s, bind_deep p f ts s e)

pub finds_many : {A : Type 0} (rank : Kind → ℕ) (l m : ℕ) (goes_on : Kind → Bool) (L : Language A) (item : Reader A) → Loops rank l m goes_on L → Finds rank l L item
    → (xs : List A) (turns : ℕ) (found : List A) (w rest : Lexemes) → Each L w xs → rank (kind_at rest) ≤ m → length (w ++ rest) ≤ turns
    → Accepts (many goes_on item turns found (w ++ rest)) (found ++ xs) rest
unfolding many
finds_many {A} rank l m goes_on L item loop f [] zero found w rest h small enough =
    let e : ◌≡◌ {A = Outcome (List A)} (Done found, w ++ rest) (Done (found ++ []), rest) = ap (λ t. (Done found, t ++ rest)) h ∙ ap (λ t. (Done t, rest)) (sym (append-nil found)) in
    inl e
finds_many {A} rank l m goes_on L item loop f [] (suc turns) found w rest h small enough =
    let over = loop.stops (kind_at rest) small in
    let e : ◌≡◌ {A = Outcome (List A)} (Done found, rest) (Done (found ++ []), rest) = ap (λ t. (Done t, rest)) (sym (append-nil found)) in
    subst (λ t. Accepts (many goes_on item (suc turns) found (t ++ rest)) (found ++ []) rest) (sym h)
    (inl (ap (λ b. cond b (item >>= (λ x. many goes_on item turns (found ++ x ∷ []))) (pure found) rest) over ∙ e))
finds_many rank l m goes_on L item loop f (x ∷ xs) zero found w rest h small enough =
    let o = loop.opening h.front x h.first in
    let is : w ≡ o.token ∷ (o.more ++ h.back) = h.cut ∙ ap (λ t. t ++ h.back) o.is in
    let e = ap (λ t. length (t ++ rest)) is in
    absurd (omega arith)
finds_many {A} rank l m goes_on L item loop f (x ∷ xs) (suc turns) found w rest h small enough =
    let o = loop.opening h.front x h.first in
    let is : w ≡ o.token ∷ (o.more ++ h.back) = h.cut ∙ ap (λ t. t ++ h.back) o.is in
    let goes : goes_on (kind_at (w ++ rest)) ≡ true = ap (λ t. goes_on (kind_at (t ++ rest))) is ∙ o.passes in
    let at : w ++ rest ≡ h.front ++ (h.back ++ rest) = ap (λ t. t ++ rest) h.cut ∙ append_assoc h.front h.back rest in
    let some : 1 ≤ length h.front = let e = ap length o.is in omega arith in
    let shorter : suc (length (h.back ++ rest)) ≤ length (w ++ rest) = rest_shorter h.front (h.back ++ rest) (w ++ rest) at some in
    let one : Accepts (item (w ++ rest)) x (h.back ++ rest) = subst (λ t. Accepts (item t) x (h.back ++ rest)) (sym at) (f.finds h.front (h.back ++ rest) x h.first (each_small rank l m goes_on L loop xs h.back rest h.second small)) in
    let two = finds_many rank l m goes_on L item loop f xs turns (found ++ x ∷ []) h.back rest h.second small (omega arith) in
    let whole = accepts_through item (λ x. many goes_on item turns (found ++ x ∷ [])) (w ++ rest) (h.back ++ rest) rest x ((found ++ x ∷ []) ++ xs) one two in
    subst (λ ys. Accepts (many goes_on item (suc turns) found (w ++ rest)) ys rest) (append_assoc found (x ∷ []) xs)
    (subst (λ o. Accepts o ((found ++ x ∷ []) ++ xs) rest) (ap (λ b. cond b (item >>= (λ x. many goes_on item turns (found ++ x ∷ []))) (pure found) (w ++ rest)) (sym goes)) whole)

pub finds_all : {A : Type 0} (rank : Kind → ℕ) (l m : ℕ) (goes_on : Kind → Bool) (L : Language A) (item : Reader A) → Loops rank l m goes_on L → Finds rank l L item
    → (found : List A) → Finds rank m (Behind found L) (all goes_on item found)
finds_all rank l m goes_on L item loop f found = record {
  finds = λ w rest a h small.
      subst (λ ys. Accepts (all goes_on item found (w ++ rest)) ys rest) (sym h.1) (finds_many rank l m goes_on L item loop f h.0 (length (w ++ rest)) found w rest h.2 small (omega arith));
}
