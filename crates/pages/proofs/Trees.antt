-- Nodes beside each other: what stands below them at a key, and a change of one of them.
use Rattle.std.proofs.lemmas.List.{append-nil, length-append, at_drop_more}
use Rattle.std.proofs.Common.{◌≡◌, ℕ, zero, suc, ◌+◌, ◌-◌, ◌<◌, ◌≤◌, List, [], ◌∷◌, ◌++◌, take, drop, length, refl, sym, ◌∙◌, ap, arith, append_assoc, slice_index_or, set, subst}
use Rattle.std.specs.List.{insert, remove}
use Rattle.pages.specs.Levels.{Tree, entries_of, entries_at, highest, HaveHeight, HaveEntries, HaveEntriesBut, IsSoAt}
use Rattle.pages.proofs.Orders.{drop_within, drop_past}

module _ {V : Type 0} where
  pub entries_of-append : (ts us : List (Tree V)) → entries_of (ts ++ us) ≡ entries_of ts ++ entries_of us
  entries_of-append [] us = refl
  entries_of-append (t ∷ ts) us = ap (λ es. t.1 ++ es) (entries_of-append ts us) ∙ sym (append_assoc t.1 (entries_of ts) (entries_of us))

  -- the entries before a node, its own, and those behind
  around_suc : (ts : List (Tree V)) (r : ℕ) → r < length ts → entries_of ts ≡ entries_of (take r ts) ++ (entries_at ts r ++ entries_of (drop (suc r) ts))
  around_suc [] r h = absurd (omega (arith, h))
  around_suc (t ∷ ts) zero h = refl
  around_suc (t ∷ ts) (suc r) h = ap (λ es. t.1 ++ es) (around_suc ts r (omega (arith, h))) ∙ sym (append_assoc t.1 (entries_of (take r ts)) (entries_at ts r ++ entries_of (drop (suc r) ts)))

  pub around : (ts : List (Tree V)) (r : ℕ) → r < length ts → entries_of ts ≡ entries_of (take r ts) ++ (entries_at ts r ++ entries_of (drop (r + 1) ts))
  around ts r h =
      let one : suc r ≡ r + 1 = omega arith in
      around_suc ts r h ∙ ap (λ (n : ℕ). entries_of (take r ts) ++ (entries_at ts r ++ entries_of (drop n ts))) one

  -- the entries up to a node
  entries_of-take : (ts : List (Tree V)) (r : ℕ) → r < length ts → entries_of (take (suc r) ts) ≡ entries_of (take r ts) ++ entries_at ts r
  entries_of-take [] r h = absurd (omega (arith, h))
  entries_of-take (t ∷ ts) zero h = append-nil t.1
  entries_of-take (t ∷ ts) (suc r) h = ap (λ es. t.1 ++ es) (entries_of-take ts r (omega (arith, h))) ∙ sym (append_assoc t.1 (entries_of (take r ts)) (entries_at ts r))

  pub up_to : (ts : List (Tree V)) (r : ℕ) → r < length ts → entries_of (take (r + 1) ts) ≡ entries_of (take r ts) ++ entries_at ts r
  up_to ts r h =
      let one : r + 1 ≡ suc r = omega arith in
      ap (λ (n : ℕ). entries_of (take n ts)) one ∙ entries_of-take ts r h

  -- the entries of the node at a place
  pub entries_at-is : (ts : List (Tree V)) (r : ℕ) (d : Tree V) → r < length ts → entries_at ts r ≡ (slice_index_or ts r d).1
  entries_at-is [] r d h = absurd (omega (arith, h))
  entries_at-is (t ∷ ts) zero d h = refl
  entries_at-is (t ∷ ts) (suc r) d h = entries_at-is ts r d (omega (arith, h))

  -- nodes of one height
  pub HaveHeight-append : (h : ℕ) (ts us : List (Tree V)) → HaveHeight h ts → HaveHeight h us → HaveHeight h (ts ++ us)
  HaveHeight-append h [] us a b = b
  HaveHeight-append h (t ∷ ts) us a b = (a.0, HaveHeight-append h ts us a.1 b)

  pub HaveHeight-take : (h : ℕ) (ts : List (Tree V)) (r : ℕ) → HaveHeight h ts → HaveHeight h (take r ts)
  HaveHeight-take h [] zero a = tt
  HaveHeight-take h [] (suc r) a = tt
  HaveHeight-take h (t ∷ ts) zero a = tt
  HaveHeight-take h (t ∷ ts) (suc r) a = (a.0, HaveHeight-take h ts r a.1)

  pub HaveHeight-drop : (h : ℕ) (ts : List (Tree V)) (r : ℕ) → HaveHeight h ts → HaveHeight h (drop r ts)
  HaveHeight-drop h [] zero a = tt
  HaveHeight-drop h [] (suc r) a = tt
  HaveHeight-drop h (t ∷ ts) zero a = a
  HaveHeight-drop h (t ∷ ts) (suc r) a = HaveHeight-drop h ts r a.1

  pub height_at : (h : ℕ) (ts : List (Tree V)) (r : ℕ) (d : Tree V) → r < length ts → HaveHeight h ts → (slice_index_or ts r d).0.0 ≡ h
  height_at h [] r d n a = absurd (omega (arith, n))
  height_at h (t ∷ ts) zero d n a = a.0
  height_at h (t ∷ ts) (suc r) d n a = height_at h ts r d (omega (arith, n)) a.1

  pub height_is : (h : ℕ) (ts : List (Tree V)) → 0 < length ts → HaveHeight h ts → highest ts ≡ h
  height_is h [] n a = absurd (omega (arith, n))
  height_is h (t ∷ []) n a = omega (arith, a.0)
  height_is h (t ∷ u ∷ ts) n a = omega (arith, a.0, height_is h (u ∷ ts) (omega arith) a.1)

  pub own_height : (h : ℕ) (ts : List (Tree V)) → HaveHeight h ts → HaveHeight (highest ts) ts
  own_height h [] a = tt
  own_height h (t ∷ ts) a = subst (λ (n : ℕ). HaveHeight n (t ∷ ts)) (sym (height_is h (t ∷ ts) (omega arith) a)) a

  -- a node is no higher than the highest
  pub is_lower : (ts : List (Tree V)) (r : ℕ) (d : Tree V) → r < length ts → (slice_index_or ts r d).0.0 ≤ highest ts
  is_lower [] r d h = absurd (omega (arith, h))
  is_lower (t ∷ ts) zero d h = omega arith
  is_lower (t ∷ ts) (suc r) d h = omega (arith, is_lower ts r d (omega (arith, h)))

  -- counting the entries
  pub entries_left : (ts : List (Tree V)) (i : ℕ) (t : Tree V) → i < length ts → t ≡ slice_index_or ts i t → entries_of (drop i ts) ≡ t.1 ++ entries_of (drop (i + 1) ts)
  entries_left ts i t h e = at_drop_more entries_of ts i t h ∙ ap (λ (u : Tree V). entries_of (u ∷ drop (i + 1) ts)) (sym e)

  pub count_left : (ts : List (Tree V)) (i : ℕ) (t : Tree V) → i < length ts → t ≡ slice_index_or ts i t → length (entries_of (drop i ts)) ≡ length t.1 + length (entries_of (drop (i + 1) ts))
  count_left ts i t h e = ap length (entries_left ts i t h e) ∙ length-append t.1 (entries_of (drop (i + 1) ts))

  -- an entry counted from a node on stands below the node, or behind it
  pub here : (ts : List (Tree V)) (i : ℕ) (t : Tree V) (rest : ℕ) → i < length ts → t ≡ slice_index_or ts i t → rest < length t.1
      → drop rest (entries_of (drop i ts)) ≡ drop rest t.1 ++ entries_of (drop (i + 1) ts)
  here ts i t rest h e within = ap (drop rest) (entries_left ts i t h e) ∙ drop_within rest t.1 (entries_of (drop (i + 1) ts)) within

  pub further : (ts : List (Tree V)) (i : ℕ) (t : Tree V) (rest : ℕ) → i < length ts → t ≡ slice_index_or ts i t → length t.1 ≤ rest
      → drop rest (entries_of (drop i ts)) ≡ drop (rest - length t.1) (entries_of (drop (i + 1) ts))
  further ts i t rest h e past = ap (drop rest) (entries_left ts i t h e) ∙ drop_past rest t.1 (entries_of (drop (i + 1) ts)) past

  -- what holds of the node at a place
  pub so_there : (P : Tree V → Type 0) (ts : List (Tree V)) (r : ℕ) (t : Tree V) → r < length ts → t ≡ slice_index_or ts r t → P t → IsSoAt P ts r
  so_there P [] r t h e p = absurd (omega (arith, h))
  so_there P (u ∷ ts) zero t h e p = subst P e p
  so_there P (u ∷ ts) (suc r) t h e p = so_there P ts r t (omega (arith, h)) e p

  pub so_back : (P : Tree V → Type 0) (ts : List (Tree V)) (r : ℕ) (t : Tree V) → t ≡ slice_index_or ts r t → IsSoAt P ts r → P t
  so_back P [] r t e s = absurd s
  so_back P (u ∷ ts) zero t e s = subst P (sym e) s
  so_back P (u ∷ ts) (suc r) t e s = so_back P ts r t e s

  -- nodes with entries
  pub HaveEntries-take : (ts : List (Tree V)) (n : ℕ) → HaveEntries ts → HaveEntries (take n ts)
  HaveEntries-take [] zero a = tt
  HaveEntries-take [] (suc n) a = tt
  HaveEntries-take (t ∷ ts) zero a = tt
  HaveEntries-take (t ∷ ts) (suc n) a = (a.0, HaveEntries-take ts n a.1)

  pub HaveEntries-drop : (ts : List (Tree V)) (n : ℕ) → HaveEntries ts → HaveEntries (drop n ts)
  HaveEntries-drop [] zero a = tt
  HaveEntries-drop [] (suc n) a = tt
  HaveEntries-drop (t ∷ ts) zero a = a
  HaveEntries-drop (t ∷ ts) (suc n) a = HaveEntries-drop ts n a.1

  pub entries_there : (ts : List (Tree V)) (n : ℕ) → n < length ts → HaveEntries ts → 0 < length (entries_at ts n)
  entries_there [] n h a = absurd (omega (arith, h))
  entries_there (t ∷ ts) zero h a = a.0
  entries_there (t ∷ ts) (suc n) h a = entries_there ts n (omega (arith, h)) a.1

  -- and but one that may have none
  pub but_set : (r : ℕ) (ts : List (Tree V)) (t : Tree V) → HaveEntries ts → HaveEntriesBut r (set ts r t)
  but_set r [] t a = tt
  but_set zero (u ∷ ts) t a = a.1
  but_set (suc r) (u ∷ ts) t a = (a.0, but_set r ts t a.1)

  pub but_there : (r : ℕ) (ts : List (Tree V)) → 0 < length (entries_at ts r) → HaveEntriesBut r ts → HaveEntries ts
  but_there r [] h a = tt
  but_there zero (u ∷ ts) h a = (h, a)
  but_there (suc r) (u ∷ ts) h a = (a.0, but_there r ts h a.1)

  pub but_remove : (r : ℕ) (ts : List (Tree V)) → HaveEntriesBut r ts → HaveEntries (remove ts r)
  but_remove zero [] a = tt
  but_remove (suc r) [] a = tt
  but_remove zero (u ∷ ts) a = a
  but_remove (suc r) (u ∷ ts) a = (a.0, but_remove r ts a.1)

  pub HaveEntries-cut : (r : ℕ) (ts : List (Tree V)) (new half : Tree V) → 0 < length new.1 → 0 < length half.1 → HaveEntries ts → HaveEntries (insert (set ts r new) (suc r) half)
  HaveEntries-cut r [] new half m n a = (n, tt)
  HaveEntries-cut zero (u ∷ []) new half m n a = (m, (n, tt))
  HaveEntries-cut zero (u ∷ v ∷ ts) new half m n a = (m, (n, a.1))
  HaveEntries-cut (suc r) (u ∷ ts) new half m n a = (a.0, HaveEntries-cut r ts new half m n a.1)
