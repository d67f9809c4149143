-- What a map of lists says at each key, where a test of keys agrees with its order and tells all keys apart: before and
-- after a change of one key, and where some of the entries are kept.
use Rattle.std.proofs.Common.{◌≡◌, Bool, true, false, cond, List, [], ◌∷◌, Option, Some, None, refl, sym, ap, ◌∙◌, subst, inl, inr}
use Rattle.std.specs.Prelude.{unwrap_or}
use Rattle.std.specs.Ordering.{is_eq}
use Rattle.std.specs.declared.cmp.Ordering.{Ordering}
use Rattle.std.specs.List.{IsDistinct, AllByRecursion}
use Rattle.std.specs.List.Sorted.{IsStrictlySortedBy}
use Rattle.std.specs.Map.{lookup, keys_of}
use Rattle.std.specs.Map.Calls.{RetainsPairs}
use Rattle.std.specs.BTreeMap.{BTreeMap, get, is_at}
use Rattle.std.proofs.lemmas.Bool.{cases_Bool}
use Rattle.std.proofs.lemmas.Map.Keys.{IsDistinct-from_sorted}

module _ {K : Type 0} (order : K → K → Ordering) (same : K → K → Bool) (tested : (a b : K) → is_eq (order a b) ≡ same a b) where
  pub distinct_by : (ks : List K) → IsStrictlySortedBy order ks → IsDistinct same ks
  distinct_by ks sorted = subst (λ eq. IsDistinct eq ks) (λ i a b. tested a b i) (IsDistinct-from_sorted order ks sorted)

  pub found_by : {X : Type 0} (m : BTreeMap K (List X)) (q : K) (found : Option (List X)) → found ≡ get order m q
      → unwrap_or found [] ≡ unwrap_or (lookup (same q) m.entries) []
  found_by m q found e = ap (λ o. unwrap_or o []) (e ∙ ap (λ test. lookup test m.entries) (λ i k. tested q k i))

module _ {K : Type 0} (order : K → K → Ordering) (same : K → K → Bool) (tested : (a b : K) → is_eq (order a b) ≡ same a b)
    (exact : (a b : K) → same a b ≡ true → a ≡ b) {X R : Type 0} (read : List X → R) where
  abbrev at : List (K × List X) → K → R
  at es q = read (unwrap_or (lookup (same q) es) [])

  -- a change of what one key has
  pub changed_by : (old new : BTreeMap K (List X)) (key : K) (w : Option (List X)) (f : R → R)
      → ((q : K) → get order new q ≡ cond (is_at (order key) q) w (get order old q))
      → read (unwrap_or w []) ≡ f (at old.entries key)
      → (q : K) → at new.entries q ≡ cond (same key q) (f (at old.entries q)) (at old.entries q)
  changed_by old new key w f updates there q =
      sym (ap read (found_by order same tested new q (get order new q) refl)) ∙ ap (λ o. read (unwrap_or o [])) (updates q) ∙ elim (cases_Bool (same key q)) [
        | inl here ↦ ap (λ b. read (unwrap_or (cond b w (get order old q)) [])) (tested key q ∙ here)
            ∙ there ∙ ap (λ k. f (at old.entries k)) (exact key q here)
            ∙ sym (ap (λ b. cond b (f (at old.entries q)) (at old.entries q)) here)
        | inr apart ↦ ap (λ b. read (unwrap_or (cond b w (get order old q)) [])) (tested key q ∙ apart)
            ∙ ap read (found_by order same tested old q (get order old q) refl)
            ∙ sym (ap (λ b. cond b (f (at old.entries q)) (at old.entries q)) apart)
      ]

none_found : {K V : Type 0} (same : K → K → Bool) (k : K) (es : List (K × V)) → AllByRecursion (λ y. same k y ≡ false) (keys_of es) → lookup (same k) es ≡ None
none_found same k [] h = refl
none_found same k (e ∷ es) h = ap (λ b. cond b (Some e.1) (lookup (same k) es)) h.0 ∙ none_found same k es h.1

-- Some entries are kept, each made into another that reads as a function of what it read; and an entry goes only where
-- it then reads as none.
module _ {K : Type 0} (same : K → K → Bool) (exact : (a b : K) → same a b ≡ true → a ≡ b) {X R : Type 0} (read : List X → R) (f : R → R) (none : read [] ≡ f (read []))
    {F : Type 0} (T : F → K → List X → Bool → List X → F → Type 0) (Keeps : F → Type 0)
    (says : (s : F) (k : K) (v : List X) (b : Bool) (w : List X) (s' : F) → Keeps s → T s k v b w s' → (b ≡ false → read w ≡ read []) × (read w ≡ f (read v)) × Keeps s') where
  abbrev among : List (K × List X) → K → R
  among es q = read (unwrap_or (lookup (same q) es) [])

  passed_over : (b : Bool) (k : K) (w : List X) (rest : List (K × List X)) (q : K) → same q k ≡ false → among (cond b ((k, w) ∷ rest) rest) q ≡ among rest q
  passed_over true k w rest q apart = ap (λ a. read (unwrap_or (cond a (Some w) (lookup (same q) rest)) [])) apart
  passed_over false k w rest q apart = refl

  pub kept_by : (s : F) (es kept : List (K × List X)) → Keeps s → IsDistinct same (keys_of es) → RetainsPairs T s es kept → (q : K) → among kept q ≡ f (among es q)
  unfolding IsDistinct
  kept_by s [] kept i d r q = ap (λ es. among es q) r ∙ none
  kept_by s (e ∷ es) kept i d r q =
      let b = r.0 in
      let w = r.1 in
      let rest = r.3 in
      let said = says s e.0 e.1 b w r.2 i r.4 in
      let more : among rest q ≡ f (among es q) = kept_by r.2 es rest said.2 d.1 r.5 q in
      ap (λ those. among those q) r.6
      ∙ elim (cases_Bool (same q e.0)) [
        | inl here ↦
            let gone : lookup (same q) es ≡ None = subst (λ k. lookup (same k) es ≡ None) (sym (exact q e.0 here)) (none_found same e.0 es d.0) in
            let was : f (read e.1) ≡ f (among (e ∷ es) q) = sym (ap (λ c. f (read (unwrap_or (cond c (Some e.1) (lookup (same q) es)) []))) here) in
            elim (cases_Bool b) [
              | inl stays ↦ ap (λ c. among (cond c ((e.0, w) ∷ rest) rest) q) stays
                  ∙ ap (λ c. read (unwrap_or (cond c (Some w) (lookup (same q) rest)) [])) here
                  ∙ said.1 ∙ was
              | inr goes ↦ ap (λ c. among (cond c ((e.0, w) ∷ rest) rest) q) goes
                  ∙ more
                  ∙ ap (λ o. f (read (unwrap_or o []))) gone
                  ∙ sym none
                  ∙ sym (said.0 goes)
                  ∙ said.1 ∙ was
            ]
        | inr apart ↦
            passed_over b e.0 w rest q apart
            ∙ more
            ∙ sym (ap (λ c. f (read (unwrap_or (cond c (Some e.1) (lookup (same q) es)) []))) apart)
      ]
