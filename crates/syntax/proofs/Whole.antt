-- What the reader of a whole text answers.
use Rattle.std.proofs.Common.{◌≡◌, ℕ, zero, suc, ◌+◌, ◌≤◌, [], ◌∷◌, ◌++◌, length, Some, None, refl, sym, ◌∙◌, ap, subst, inl, inr, arith, append_assoc}
use Rattle.token.specs.declared.kinds.Kind.{Kind}
use Rattle.token.specs.declared.kinds.Kind.TheVariants as k
use Rattle.syntax.specs.Language.{Lexemes, head, Language, Then, Begins, Some_level, after_kind, room_after, room}
use Rattle.syntax.specs.Language as lang
use Rattle.syntax.specs.Answer.{Fits, NoneGoesOn, IsWrong, IsTooDeep}
use Rattle.syntax.specs.Reading.{Verdict, Done, Fail, Deep, Reader, at_end, whole}
use Rattle.syntax.proofs.WordLaws.{append-nil, room-append, Meets, Took, Sound, stays, Bound, Through, Failed, Deepened, bound, Accepts, Finds}
use Rattle.syntax.proofs.Loops.{accepts_through}
use Rattle.syntax.proofs.Short.{then_s, weak}
use Rattle.syntax.proofs.Follow.{rank}

-- ---- the end

ended_took : {A : Type 0} (n : ℕ) (x : A) (ts : Lexemes) (v : Verdict A) (rest : Lexemes) → at_end x ts ≡ (v, rest) → Took n n (lang.pure x) ts v rest
ended_took n x [] v rest e = record { text = []; cut = ap (λ o. o.1) e; meets = subst (λ u. Meets n n (lang.pure x) [] rest u) (ap (λ o. o.0) e) ((refl, refl), refl) }
ended_took n x (t ∷ ts) v rest e = record { text = []; cut = ap (λ o. o.1) e; meets = subst (λ u. Meets n n (lang.pure x) [] rest u) (ap (λ o. o.0) e) (([], x, (refl, refl)), (n, refl)) }

ended_looks : {A : Type 0} (x : A) (w a b : Lexemes) (v : Verdict A) → at_end x (w ++ a) ≡ (v, a) → head a ≡ head b → at_end x (w ++ b) ≡ (v, b)
ended_looks x [] [] [] v e same = e
ended_looks x [] [] (t ∷ b) v e same = absurd (cc)
ended_looks x [] (t ∷ a) [] v e same = absurd (cc)
ended_looks x [] (t ∷ a) (u ∷ b) v e same = stays Fail v [] (t ∷ a) (u ∷ b) e
ended_looks x (t ∷ w) a b v e same = stays Fail v (t ∷ w) a b e

ended_s : {A : Type 0} (n : ℕ) (x : A) → Sound n n (lang.pure x) (at_end x)
ended_s n x = record { begins = ([], x, (refl, refl)); took = ended_took n x; looks = ended_looks x }

-- ---- what a reader of whole texts stands on

-- For each limit of parentheses a reader: sound for the language at the levels that it can reach, and finding its texts of each level.
pub record Exact {A : Type 0} (L : ℕ → Language A) (p : ℕ → Reader A) : Type 0 where
  pub sound : (n : ℕ) → Sound n n (L (n + 2)) (p n)
  pub finds : (n l : ℕ) → Finds rank 0 (L l) (p n)

left_enough : (kind : Kind) (n : ℕ) → 1 ≤ n → (m : ℕ) × (after_kind kind n ≡ Some m) × (n ≤ m + 1)
left_enough k.Open zero h = absurd (omega arith)
left_enough k.Open (suc n) h = (n, refl, omega arith)
left_enough k.Close n h = (suc n, refl, omega arith)
left_enough _ n h = (n, refl, omega arith)

room_enough : (n : ℕ) (ts : Lexemes) → length ts ≤ n → Fits n ts
room_enough n [] h = (n, refl)
room_enough n (x ∷ ts) h =
    let l = left_enough x.kind n (omega arith) in
    let more = room_enough l.0 ts (omega (arith, l.2)) in
    (more.0, ap (λ o. room o ts) l.1 ∙ more.1)

room_none : (ts : Lexemes) → room None ts ≡ None
room_none [] = refl
room_none (x ∷ ts) = room_none ts

module _ {A : Type 0} (L : ℕ → Language A) (p : ℕ → Reader A) (exact : Exact L p) where
  whole_text : (n : ℕ) (w : Lexemes) (a : A) → Then (L (n + 2)) lang.pure w a → L (n + 2) w a
  whole_text n w a h =
      let s = h.split in
      let same : s.front ≡ w = sym (append-nil s.front) ∙ ap (λ t. s.front ++ t) (sym s.second.0) ∙ sym s.cut in
      subst (λ z. L (n + 2) w z) (sym s.second.1) (subst (λ t. L (n + 2) t h.tree) same s.first)

  whole_s : (n : ℕ) → Sound n n (L (n + 2)) (whole (p n))
  whole_s n = weak (whole_text n) (then_s (exact.sound n) (λ w x h. ended_s n x))

  into_some : (n : ℕ) (w : Lexemes) → Begins (L (n + 2)) w → Begins (Some_level L) w
  into_some n w (more, a, h) = (more, a, (n + 2, h))

  -- a text is read to its end, or a parenthesis too many is met
  whole_accepts : (n : ℕ) (w : Lexemes) (a : A) → Some_level L w a → Accepts (whole (p n) w) a []
  whole_accepts n w a (l, h) =
      let one = (exact.finds n l).finds w [] a h (omega arith) in
      let two = accepts_through (p n) at_end (w ++ []) [] [] a a one (inl refl) in
      subst (λ t. Accepts (whole (p n) t) a []) (append-nil w) two

  fail_not_accepts : (n : ℕ) (w rest : Lexemes) (a : A) → whole (p n) w ≡ (Fail, rest) → Accepts (whole (p n) w) a [] → ⊥
  fail_not_accepts n w rest a e (inl h) = let x = ap (λ o. o.0) (sym e ∙ h) in cc
  fail_not_accepts n w rest a e (inr h) = let x = ap (λ o. o.0) (sym e ∙ h.1) in cc

  none_goes_on : (n : ℕ) (before rest : Lexemes) → whole (p n) (before ++ rest) ≡ (Fail, rest) → NoneGoesOn (Some_level L) before rest
  none_goes_on n before [] e = λ a h. fail_not_accepts n (before ++ []) [] a e (subst (λ t. Accepts (whole (p n) t) a []) (sym (append-nil before)) (whole_accepts n before a h))
  none_goes_on n before (x ∷ rest) e = λ b.
      let moved = (whole_s n).looks before (x ∷ rest) (x ∷ b.0) Fail e refl in
      let text : (before ++ x ∷ []) ++ b.0 ≡ before ++ (x ∷ b.0) = append_assoc before (x ∷ []) b.0 in
      fail_not_accepts n (before ++ (x ∷ b.0)) (x ∷ b.0) b.1 moved (subst (λ t. Accepts (whole (p n) t) b.1 []) text (whole_accepts n ((before ++ x ∷ []) ++ b.0) b.1 b.2))

  pub whole_fails : (n : ℕ) (ts rest : Lexemes) → whole (p n) ts ≡ (Fail, rest) → IsWrong (Some_level L) n ts rest
  whole_fails n ts rest e =
      let t = (whole_s n).took ts Fail rest e in
      record {
        before = t.text;
        cut = t.cut;
        begins = into_some n t.text t.meets.0;
        fits = t.meets.1;
        stops = none_goes_on n t.text rest (subst (λ w. whole (p n) w ≡ (Fail, rest)) t.cut e);
      }

  pub whole_deep : (n : ℕ) (ts rest : Lexemes) → whole (p n) ts ≡ (Deep, rest) → IsTooDeep (Some_level L) n ts rest
  whole_deep n ts rest e =
      let t = (whole_s n).took ts Deep rest e in
      let o = t.meets in
      record { before = t.text; token = o.token; more = o.more; cut = t.cut; is = o.is; opens = o.opens; full = o.full; begins = into_some n (t.text ++ o.token ∷ []) o.begins }

  -- nothing stands behind what is read
  whole_ends : (n : ℕ) (ts rest : Lexemes) (a : A) → whole (p n) ts ≡ (Done a, rest) → rest ≡ []
  whole_ends n ts rest a e = by_bound ts rest a (bound (p n) at_end ts (Done a) rest e)
    where
      by_end : (x : A) (mid rest : Lexemes) (a : A) → at_end x mid ≡ (Done a, rest) → rest ≡ []
      by_end x [] rest a e = sym (ap (λ o. o.1) e)
      by_end x (t ∷ mid) rest a e = let f = ap (λ o. o.0) e in absurd (cc)

      by_bound : (ts rest : Lexemes) (a : A) → Bound (p n) at_end ts (Done a) rest → rest ≡ []
      by_bound ts rest a (Through x mid h k) = by_end x mid rest a k
      by_bound ts rest a (Failed h k) = absurd (cc)
      by_bound ts rest a (Deepened h k) = absurd (cc)

  pub whole_done : (n : ℕ) (ts rest : Lexemes) (a : A) → whole (p n) ts ≡ (Done a, rest) → Some_level L ts a × Fits n ts
  whole_done n ts rest a e =
      let t = (whole_s n).took ts (Done a) rest e in
      let all : ts ≡ t.text = t.cut ∙ ap (λ r. t.text ++ r) (whole_ends n ts rest a e) ∙ append-nil t.text in
      ((n + 2, subst (λ w. L (n + 2) w a) (sym all) t.meets.0), (n, ap (λ w. room (Some n) w) all ∙ t.meets.1))

  -- where the reader meets a parenthesis too many, there is one
  deep_not_fits : (n : ℕ) (ts rest : Lexemes) → IsTooDeep (Some_level L) n ts rest → Fits n ts → ⊥
  deep_not_fits n ts rest d f =
      let none : room (room (Some n) d.before) rest ≡ None = ap (λ o. room o rest) d.full ∙ ap (λ t. room (Some 0) t) d.is ∙ ap (λ kind. room (room_after (Some 0) kind) d.more) d.opens ∙ room_none d.more in
      let all : room (Some n) ts ≡ None = ap (λ t. room (Some n) t) d.cut ∙ room-append (Some n) d.before rest ∙ none in
      let both = sym all ∙ f.1 in absurd (cc)

  pub whole_finds : (n : ℕ) (ts : Lexemes) (a : A) → Some_level L ts a → Fits n ts → whole (p n) ts ≡ (Done a, [])
  whole_finds n ts a h f = elim (whole_accepts n ts a h) [ inl e ↦ e | inr d ↦ absurd (deep_not_fits n ts d.0 (whole_deep n ts d.0 d.1) f) ]

  -- no text has two trees
  pub one_tree : (ts : Lexemes) (a b : A) → Some_level L ts a → Some_level L ts b → a ≡ b
  one_tree ts a b g h =
      let f = room_enough (length ts) ts (omega arith) in
      let both = sym (whole_finds (length ts) ts a g f) ∙ whole_finds (length ts) ts b h f in
      let v = ap (λ o. o.0) both in cc
