-- Nodes that are cut, put in and taken out.
use Rattle.std.proofs.lemmas.List.{append-nil, take-append-drop, length-drop, length-append}
use Rattle.std.proofs.Common.{◌≡◌, ℕ, zero, suc, ◌+◌, ◌-◌, ◌<◌, ◌≤◌, ◌⊎◌, inl, inr, min, false, List, [], ◌∷◌, ◌++◌, take, drop, length, refl, sym, ◌∙◌, ap, arith, append_assoc, slice_index_or, set, subst, map}
use Rattle.std.specs.List.{insert, remove}
use Rattle.std.specs.Ordering.{is_gt, ordering_reverse}
use Rattle.std.specs.declared.cmp.Ordering.{Ordering}
use Rattle.std.specs.declared.cmp.Ordering.TheVariants.{Less, Equal, Greater}
use Rattle.value.specs.declared.values.Value.{Value}
use Rattle.value.specs.ValueOrder.{value_cmp}
use Rattle.value.specs.Ordered.{AreAbove}
use Rattle.value.proofs.ValueOrders.{value_cmp_total}
use Rattle.pages.specs.Reach.{key_of, reaches, AreInOrder}
use Rattle.pages.specs.Levels.{Tree, entries_of, entries_at, highest, HaveHeight, HaveEntries, IsSoAt}
use Rattle.pages.specs.Parts.{AreFrom, AreRising, Parted, AreBelow, AreFilled, AreFilledBut, AreSame, AreWithout}
use Rattle.pages.specs.Shapes.{tree_over}
use Rattle.pages.specs.Cuts.{AreHalves}
use Rattle.pages.proofs.Orders.{order_front, order_behind, last_reaches, passed_first, length-take_le, long_take}
use Rattle.pages.proofs.Trees.{entries_of-append, up_to, HaveHeight-take, HaveHeight-drop, height_is, own_height, HaveEntries-take, HaveEntries-drop, HaveEntries-cut, entries_there, but_remove}
use Rattle.pages.proofs.Parting.{passed_both, height_set}
use Rattle.pages.proofs.Separators.{rising_take, rising_drop, rising_remove, rising_first, above_insert, less_past}

-- what is above an entry that isn't below the key isn't below it either
not_gt_above : (k x y : Value) → is_gt (value_cmp k x) ≡ false → value_cmp x y ≡ Less → is_gt (value_cmp k y) ≡ false
not_gt_above k x y g h =
    let case : (c : Ordering) → value_cmp k x ≡ c → is_gt c ≡ false → is_gt (value_cmp k y) ≡ false = λ c. elim c as (λ c. value_cmp k x ≡ c → is_gt c ≡ false → is_gt (value_cmp k y) ≡ false) [
      | Less ↦ λ e n. ap is_gt (value_cmp_total.trans k x y e h)
      | Equal ↦ λ e n. ap is_gt (value_cmp_total.congr k x y e ∙ h)
      | Greater ↦ λ e n. cc
    ]
    in case (value_cmp k x) refl g

module _ {V : Type 0} where
  from_above_entry : (k x : Value) (ys : List (Value × V)) → is_gt (value_cmp k x) ≡ false → AreAbove value_cmp key_of x ys → AreFrom k ys
  from_above_entry k x [] g a = tt
  from_above_entry k x (y ∷ ys) g a = (not_gt_above k x (key_of y) g a.0, from_above_entry k x ys g a.1)

  from_behind : (k : Value) (xs ys : List (Value × V)) → AreInOrder (xs ++ ys) → 0 < length xs → AreFrom k xs → AreFrom k (xs ++ ys)
  from_behind k [] ys s n a = absurd (omega (arith, n))
  from_behind k (x ∷ xs) ys s n a = (a.0, from_above_entry k (key_of x) (xs ++ ys) a.0 s.0)

  from_front : (k : Value) (xs ys : List (Value × V)) → AreFrom k (xs ++ ys) → AreFrom k xs
  from_front k [] ys a = tt
  from_front k (x ∷ xs) ys a = (a.0, from_front k xs ys a.1)

  reaches_behind : (k : Value) (xs ys : List (Value × V)) → reaches k (xs ++ ys) ≡ false → reaches k ys ≡ false
  reaches_behind k [] ys r = r
  reaches_behind k (x ∷ xs) ys r = reaches_behind k xs ys (passed_both (value_cmp k (key_of x)) (reaches k (xs ++ ys)) r)

  pub parted_length : (seps : List Value) (ts : List (Tree V)) → Parted seps ts → length ts ≡ length seps + 1
  parted_length [] [] p = absurd p
  parted_length [] (t ∷ []) p = omega arith
  parted_length [] (t ∷ u ∷ ts) p = absurd p
  parted_length (s ∷ seps) [] p = absurd p
  parted_length (s ∷ seps) (t ∷ ts) p = omega (arith, parted_length seps ts p.1.1)

  -- the nodes before a place, and those behind it
  entries_front : (n : ℕ) (ts : List (Tree V)) → entries_of (take n ts) ++ entries_of (drop n ts) ≡ entries_of ts
  entries_front n ts = sym (entries_of-append (take n ts) (drop n ts)) ∙ ap entries_of (take-append-drop n ts)

  parted_take : (n : ℕ) (seps : List Value) (ts : List (Tree V)) → n < length ts → Parted seps ts → Parted (take n seps) (take (suc n) ts)
  parted_take n [] [] h p = absurd p
  parted_take zero [] (t ∷ []) h p = tt
  parted_take (suc n) [] (t ∷ []) h p = absurd (omega (arith, h))
  parted_take n [] (t ∷ u ∷ ts) h p = absurd p
  parted_take n (s ∷ seps) [] h p = absurd p
  parted_take zero (s ∷ seps) (t ∷ []) h p = tt
  parted_take zero (s ∷ seps) (t ∷ u ∷ ts) h p = tt
  parted_take (suc n) (s ∷ seps) (t ∷ ts) h p =
      (p.0, (from_front s (entries_of (take (suc n) ts)) (entries_of (drop (suc n) ts)) (subst (AreFrom s) (sym (entries_front (suc n) ts)) p.1.0), parted_take n seps ts (omega (arith, h)) p.1.1))

  parted_drop : (n : ℕ) (seps : List Value) (ts : List (Tree V)) → n < length ts → Parted seps ts → Parted (drop n seps) (drop n ts)
  parted_drop n [] [] h p = absurd p
  parted_drop zero [] (t ∷ []) h p = tt
  parted_drop (suc n) [] (t ∷ []) h p = absurd (omega (arith, h))
  parted_drop n [] (t ∷ u ∷ ts) h p = absurd p
  parted_drop n (s ∷ seps) [] h p = absurd p
  parted_drop zero (s ∷ seps) (t ∷ ts) h p = p
  parted_drop (suc n) (s ∷ seps) (t ∷ ts) h p = parted_drop n seps ts (omega (arith, h)) p.1.1

  -- a separator, the node before it and those behind it
  record Stands (s : Value) (before : List (Value × V)) (behind : List (Tree V)) : Type 0 where
    below : reaches s before ≡ false
    from : AreFrom s (entries_of behind)

  stands : (n : ℕ) (s : Value) (seps : List Value) (ts : List (Tree V)) → n < length seps → s ≡ slice_index_or seps n s → Parted seps ts → Stands s (entries_at ts n) (drop (suc n) ts)
  stands n s [] ts h e p = absurd (omega (arith, h))
  stands n s (z ∷ seps) [] h e p = absurd p
  stands zero s (z ∷ seps) (t ∷ []) h e p = record { below = ap (λ k. reaches k t.1) e ∙ p.0; from = tt }
  stands zero s (z ∷ seps) (t ∷ u ∷ ts) h e p = record { below = ap (λ k. reaches k t.1) e ∙ p.0; from = subst (λ k. AreFrom k (entries_of (u ∷ ts))) (sym e) p.1.0 }
  stands (suc n) s (z ∷ seps) (t ∷ ts) h e p = stands n s seps ts (omega (arith, h)) e p.1.1

  pub record AreCut (fore aft : List Value) (ts front behind : List (Tree V)) (key : Value) : Type 0 where
    pub halves : AreHalves (tree_over ts) (tree_over front) key (tree_over behind)
    pub before : AreBelow fore front
    pub after : AreBelow aft behind
    pub before_filled : AreFilled front
    pub after_filled : AreFilled behind

  pub nodes_cut : (n : ℕ) (seps fore aft : List Value) (ts front behind : List (Tree V)) (key : Value) → suc n < length ts
      → key ≡ slice_index_or seps n key → fore ≡ take n seps → aft ≡ drop (suc n) seps → front ≡ take (suc n) ts → behind ≡ drop (suc n) ts → AreBelow seps ts → AreFilled ts → AreCut fore aft ts front behind key
  nodes_cut n seps fore aft ts front behind key h e a b c d below filled =
      let full : HaveEntries ts = filled (omega (arith, h)) in
      let f : 0 < length (entries_at ts n) = entries_there ts n (omega (arith, h)) full in
      let g : 0 < length (entries_at ts (suc n)) = entries_there ts (suc n) h full in
      let here : n < length seps = omega (arith, h, parted_length seps ts below.parted) in
      let one : n + 1 ≡ suc n = omega arith in
      let there : Stands key (entries_at ts n) (drop (suc n) ts) = stands n key seps ts here e below.parted in
      let both : entries_of front ++ entries_of behind ≡ entries_of ts = ap (λ us. entries_of us ++ entries_of behind) c ∙ ap (λ us. entries_of (take (suc n) ts) ++ entries_of us) d ∙ entries_front (suc n) ts in
      let order : AreInOrder (entries_of front ++ entries_of behind) = subst AreInOrder (sym both) below.order in
      let last : entries_of front ≡ entries_of (take n ts) ++ entries_at ts n = ap entries_of c ∙ ap (λ (m : ℕ). entries_of (take m ts)) (sym one) ∙ up_to ts n (omega (arith, h)) in
      let first : entries_of behind ≡ entries_at ts (suc n) ++ entries_of (drop (suc n + 1) ts) = ap entries_of d ∙ at_front (suc n) ts h in
      let front_level : HaveHeight (highest ts) front = subst (HaveHeight (highest ts)) (sym c) (HaveHeight-take (highest ts) ts (suc n) below.level) in
      let behind_level : HaveHeight (highest ts) behind = subst (HaveHeight (highest ts)) (sym d) (HaveHeight-drop (highest ts) ts (suc n) below.level) in
      let front_some : 0 < length front = omega (arith, ap length c, long_take (suc n) ts (omega (arith, h))) in
      let front_few : length front < length ts = omega (arith, ap length c, length-take_le (suc n) ts, h) in
      let behind_is : length behind ≡ length ts - suc n = ap length d ∙ length-drop (suc n) ts in
      record {
        halves = record {
          items = both;
          first_height = ap (λ (m : ℕ). m + 1) (height_is (highest ts) front front_some front_level);
          second_height = ap (λ (m : ℕ). m + 1) (height_is (highest ts) behind (omega (arith, behind_is, h)) behind_level);
          first_room = omega (arith, front_few, below.most);
          second_room = omega (arith, behind_is, h, below.most);
          first_some = omega (arith, f, ap length last, length-append (entries_of (take n ts)) (entries_at ts n));
          second_some = omega (arith, g, ap length first, length-append (entries_at ts (suc n)) (entries_of (drop (suc n + 1) ts)));
          below = ap (reaches key) last ∙ last_reaches key (entries_of (take n ts)) (entries_at ts n) (subst AreInOrder last (order_front (entries_of front) (entries_of behind) order)) f ∙ there.below;
          from = subst (λ us. AreFrom key (entries_of us)) (sym d) there.from;
        };
        before = record {
          most = omega (arith, front_few, below.most);
          level = own_height (highest ts) front front_level;
          order = order_front (entries_of front) (entries_of behind) order;
          rising = subst AreRising (sym a) (rising_take n seps below.rising);
          parted = subst (λ ss. Parted ss front) (sym a) (subst (Parted (take n seps)) (sym c) (parted_take n seps ts (omega (arith, h)) below.parted));
        };
        after = record {
          most = omega (arith, behind_is, below.most);
          level = own_height (highest ts) behind behind_level;
          order = order_behind (entries_of front) (entries_of behind) order;
          rising = subst AreRising (sym b) (rising_drop (suc n) seps below.rising);
          parted = subst (λ ss. Parted ss behind) (sym b) (subst (Parted (drop (suc n) seps)) (sym d) (parted_drop (suc n) seps ts h below.parted));
        };
        before_filled = λ _. subst HaveEntries (sym c) (HaveEntries-take ts (suc n) full);
        after_filled = λ _. subst HaveEntries (sym d) (HaveEntries-drop ts (suc n) full);
      }
    where
      at_front : (m : ℕ) (us : List (Tree V)) → m < length us → entries_of (drop m us) ≡ entries_at us m ++ entries_of (drop (m + 1) us)
      at_front m [] h = absurd (omega (arith, h))
      at_front zero (u ∷ us) h = refl
      at_front (suc m) (u ∷ us) h = at_front m us (omega (arith, h)) ∙ (let two : m + 1 ≡ suc m = omega arith in let three : suc (suc m) ≡ suc m + 1 = omega arith in ap (λ (i : ℕ). entries_at us m ++ entries_of (drop i us)) two ∙ ap (λ (i : ℕ). entries_at us m ++ entries_of (drop i (u ∷ us))) three)

  -- a node that is cut where it stands
  entries_cut : (r : ℕ) (ts : List (Tree V)) (new half : Tree V) → r < length ts → new.1 ++ half.1 ≡ entries_at ts r → entries_of (insert (set ts r new) (suc r) half) ≡ entries_of ts
  entries_cut r [] new half h e = absurd (omega (arith, h))
  entries_cut zero (t ∷ []) new half h e = sym (append_assoc new.1 half.1 []) ∙ ap (λ es. es ++ []) e
  entries_cut zero (t ∷ u ∷ ts) new half h e = sym (append_assoc new.1 half.1 (entries_of (u ∷ ts))) ∙ ap (λ es. es ++ entries_of (u ∷ ts)) e
  entries_cut (suc r) (t ∷ ts) new half h e = ap (λ es. t.1 ++ es) (entries_cut r ts new half (omega (arith, h)) e)

  height_insert : (h m : ℕ) (ts : List (Tree V)) (t : Tree V) → t.0.0 ≡ h → HaveHeight h ts → HaveHeight h (insert ts m t)
  height_insert h zero [] t e l = (e, tt)
  height_insert h (suc m) [] t e l = (e, tt)
  height_insert h zero (u ∷ ts) t e l = (e, l)
  height_insert h (suc m) (u ∷ ts) t e l = (l.0, height_insert h m ts t e l.1)

  parted_cut : (r : ℕ) (seps : List Value) (ts : List (Tree V)) (key : Value) (old new half : Tree V) → r < length ts → AreHalves old new key half → old.1 ≡ entries_at ts r → AreInOrder (entries_of ts) → Parted seps ts
      → Parted (insert seps r key) (insert (set ts r new) (suc r) half)
  parted_cut r [] [] key old new half h c e s p = absurd p
  parted_cut zero [] (t ∷ []) key old new half h c e s p = (c.below, (subst (AreFrom key) (sym (append-nil half.1)) c.from, tt))
  parted_cut (suc r) [] (t ∷ []) key old new half h c e s p = absurd (omega (arith, h))
  parted_cut r [] (t ∷ u ∷ ts) key old new half h c e s p = absurd p
  parted_cut r (z ∷ seps) [] key old new half h c e s p = absurd p
  parted_cut zero (z ∷ seps) (t ∷ []) key old new half h c e s p = absurd (omega (arith, parted_length (z ∷ seps) (t ∷ []) p))
  parted_cut zero (z ∷ seps) (t ∷ u ∷ ts) key old new half h c e s p =
      let whole : t.1 ≡ new.1 ++ half.1 = sym (c.items ∙ e) in
      let order : AreInOrder (new.1 ++ (half.1 ++ entries_of (u ∷ ts))) = subst AreInOrder (ap (λ es. es ++ entries_of (u ∷ ts)) whole ∙ append_assoc new.1 half.1 (entries_of (u ∷ ts))) s in (
        c.below,
        (
          from_behind key half.1 (entries_of (u ∷ ts)) (order_behind new.1 (half.1 ++ entries_of (u ∷ ts)) order) c.second_some c.from,
          (reaches_behind z new.1 half.1 (ap (reaches z) (sym whole) ∙ p.0), p.1),
        ),
      )
  parted_cut (suc r) (z ∷ seps) (t ∷ ts) key old new half h c e s p =
      (p.0, (subst (AreFrom z) (sym (entries_cut r ts new half (omega (arith, h)) (c.items ∙ e))) p.1.0, parted_cut r seps ts key old new half (omega (arith, h)) c e (order_behind t.1 (entries_of ts) s) p.1.1))

  -- the separator of a cut goes up with the others
  key_below : (key z : Value) (es : List (Value × V)) → 0 < length es → AreFrom key es → reaches z es ≡ false → value_cmp key z ≡ Less
  key_below key z [] n a r = absurd (omega (arith, n))
  key_below key z (x ∷ es) n a r =
      less_past key (key_of x) z a.0 (value_cmp_total.antisymm (key_of x) z ∙ ap ordering_reverse (passed_first (value_cmp z (key_of x)) (reaches z es) r))

  from_back : (k : Value) (xs ys : List (Value × V)) → AreFrom k (xs ++ ys) → AreFrom k ys
  from_back k [] ys a = a
  from_back k (x ∷ xs) ys a = from_back k xs ys a.1

  from_at : (k : Value) (r : ℕ) (ts : List (Tree V)) → AreFrom k (entries_of ts) → AreFrom k (entries_at ts r)
  from_at k r [] a = tt
  from_at k zero (t ∷ ts) a = from_front k t.1 (entries_of ts) a
  from_at k (suc r) (t ∷ ts) a = from_at k r ts (from_back k t.1 (entries_of ts) a)

  rising_cut : (r : ℕ) (seps : List Value) (ts : List (Tree V)) (key : Value) (old new half : Tree V) → AreHalves old new key half → old.1 ≡ entries_at ts r → Parted seps ts → AreRising seps → AreRising (insert seps r key)
  rising_cut zero [] ts key old new half c e p s = (tt, tt)
  rising_cut (suc r) [] ts key old new half c e p s = (tt, tt)
  rising_cut r (z ∷ seps) [] key old new half c e p s = absurd p
  rising_cut zero (z ∷ seps) (t ∷ ts) key old new half c e p s =
      rising_first key z seps (key_below key z half.1 c.second_some c.from (reaches_behind z new.1 half.1 (ap (reaches z) (c.items ∙ e) ∙ p.0))) s
  rising_cut (suc r) (z ∷ seps) (t ∷ ts) key old new half c e p s =
      let there : AreFrom z (new.1 ++ half.1) = subst (AreFrom z) (sym (c.items ∙ e)) (from_at z r ts p.1.0) in
      (above_insert z r seps key (key_below z key new.1 c.first_some (from_front z new.1 half.1 there) c.below) s.0, rising_cut r seps ts key old new half c e p.1.1 s.1)

  pub length_insert : (m : ℕ) (ts : List (Tree V)) (t : Tree V) → length (insert ts m t) ≡ length ts + 1
  length_insert zero [] t = refl
  length_insert (suc m) [] t = refl
  length_insert zero (u ∷ ts) t = omega arith
  length_insert (suc m) (u ∷ ts) t = omega (arith, length_insert m ts t)

  pub length_set : (r : ℕ) (us : List (Tree V)) (t : Tree V) → length (set us r t) ≡ length us
  length_set r [] t = refl
  length_set zero (u ∷ us) t = refl
  length_set (suc r) (u ∷ us) t = omega (arith, length_set r us t)

  all_filled : (r : ℕ) (ts : List (Tree V)) → r < length ts → 0 < length (entries_at ts r) → AreFilled ts → HaveEntries ts
  all_filled r [] h n f = tt
  all_filled zero (t ∷ []) h n f = (n, tt)
  all_filled (suc r) (t ∷ []) h n f = absurd (omega (arith, h))
  all_filled r (t ∷ u ∷ ts) h n f = f (omega arith)

  pub cut_same : (r : ℕ) (seps newer : List Value) (ts us : List (Tree V)) (key : Value) (old new half : Tree V) → r < length ts → length ts < 15 → AreHalves old new key half → old.1 ≡ entries_at ts r → old.0.0 ≡ highest ts
      → newer ≡ insert seps r key → us ≡ insert (set ts r new) (suc r) half → AreBelow seps ts → AreFilled ts → AreSame seps newer ts us
  cut_same r seps newer ts us key old new half h l c e f a b below filled =
      let items : entries_of us ≡ entries_of ts = ap entries_of b ∙ entries_cut r ts new half h (c.items ∙ e) in
      let level : HaveHeight (highest ts) us = subst (HaveHeight (highest ts)) (sym b) (height_insert (highest ts) (suc r) (set ts r new) half (c.second_height ∙ f) (height_set (highest ts) r ts new (c.first_height ∙ f) below.level)) in
      let long : length us ≡ length ts + 1 = ap length b ∙ length_insert (suc r) (set ts r new) half ∙ ap (λ (n : ℕ). n + 1) (length_set r ts new) in
      let some : 0 < length (entries_at ts r) = omega (arith, c.first_some, ap length (sym (c.items ∙ e)), length-append new.1 half.1) in
      record {
        items = items;
        height = height_is (highest ts) us (omega (arith, long)) level;
        below = record {
          most = omega (arith, long, l);
          level = own_height (highest ts) us level;
          order = subst AreInOrder (sym items) below.order;
          rising = subst AreRising (sym a) (rising_cut r seps ts key old new half c e below.parted below.rising);
          parted = subst (λ ss. Parted ss us) (sym a) (subst (Parted (insert seps r key)) (sym b) (parted_cut r seps ts key old new half h c e below.order below.parted));
        };
        filled = λ _. subst HaveEntries (sym b) (HaveEntries-cut r ts new half c.first_some c.second_some (all_filled r ts h some filled));
      }

  -- the two nodes of a cut, where they stand
  pub first_so : (P : Tree V → Type 0) (r : ℕ) (ts : List (Tree V)) (new half : Tree V) → r < length ts → P new → IsSoAt P (insert (set ts r new) (suc r) half) r
  first_so P r [] new half h p = absurd (omega (arith, h))
  first_so P zero (t ∷ ts) new half h p = p
  first_so P (suc r) (t ∷ ts) new half h p = first_so P r ts new half (omega (arith, h)) p

  pub second_so : (P : Tree V → Type 0) (r : ℕ) (ts : List (Tree V)) (new half : Tree V) → r < length ts → P half → IsSoAt P (insert (set ts r new) (suc r) half) (suc r)
  second_so P r [] new half h p = absurd (omega (arith, h))
  second_so P zero (t ∷ []) new half h p = p
  second_so P zero (t ∷ u ∷ ts) new half h p = p
  second_so P (suc r) (t ∷ ts) new half h p = second_so P r ts new half (omega (arith, h)) p

  -- a node without entries that is taken out
  entries_out : (r : ℕ) (ts : List (Tree V)) → entries_at ts r ≡ [] → entries_of (remove ts r) ≡ entries_of ts
  entries_out zero [] e = refl
  entries_out (suc r) [] e = refl
  entries_out zero (t ∷ ts) e = ap (λ es. es ++ entries_of ts) (sym e)
  entries_out (suc r) (t ∷ ts) e = ap (λ es. t.1 ++ es) (entries_out r ts e)

  height_out : (h r : ℕ) (ts : List (Tree V)) → HaveHeight h ts → HaveHeight h (remove ts r)
  height_out h zero [] l = tt
  height_out h (suc r) [] l = tt
  height_out h zero (t ∷ ts) l = l.1
  height_out h (suc r) (t ∷ ts) l = (l.0, height_out h r ts l.1)

  parted_out : (r : ℕ) (seps : List Value) (ts : List (Tree V)) → r < length seps → entries_at ts r ≡ [] → Parted seps ts → Parted (remove seps r) (remove ts r)
  parted_out r [] ts h e p = absurd (omega (arith, h))
  parted_out r (s ∷ seps) [] h e p = absurd p
  parted_out zero (s ∷ seps) (t ∷ ts) h e p = p.1.1
  parted_out (suc r) (s ∷ seps) (t ∷ ts) h e p = (p.0, (subst (AreFrom s) (sym (entries_out r ts e)) p.1.0, parted_out r seps ts (omega (arith, h)) e p.1.1))

  parted_out_last : (m : ℕ) (seps : List Value) (ts : List (Tree V)) → suc m ≡ length seps → entries_at ts (suc m) ≡ [] → Parted seps ts → Parted (remove seps m) (remove ts (suc m))
  parted_out_last m [] ts h e p = absurd (omega (arith, h))
  parted_out_last m (s ∷ seps) [] h e p = absurd p
  parted_out_last zero (s ∷ []) (t ∷ []) h e p = absurd p.1.1
  parted_out_last zero (s ∷ []) (t ∷ u ∷ []) h e p = tt
  parted_out_last zero (s ∷ []) (t ∷ u ∷ v ∷ ts) h e p = absurd p.1.1
  parted_out_last zero (s ∷ z ∷ seps) (t ∷ ts) h e p = absurd (omega (arith, h))
  parted_out_last (suc m) (s ∷ seps) (t ∷ ts) h e p = (p.0, (subst (AreFrom s) (sym (entries_out (suc m) ts e)) p.1.0, parted_out_last m seps ts (omega (arith, h)) e p.1.1))

  some_out : (r : ℕ) (ts : List (Tree V)) → 1 < length ts → 0 < length (remove ts r)
  some_out r [] h = absurd (omega (arith, h))
  some_out r (t ∷ []) h = absurd (omega (arith, h))
  some_out zero (t ∷ u ∷ ts) h = omega arith
  some_out (suc r) (t ∷ u ∷ ts) h = omega arith

  few_out : (r : ℕ) (ts : List (Tree V)) → length (remove ts r) ≤ length ts
  few_out zero [] = omega arith
  few_out (suc r) [] = omega arith
  few_out zero (t ∷ ts) = omega arith
  few_out (suc r) (t ∷ ts) = omega (arith, few_out r ts)

  out : (r : ℕ) (seps newer : List Value) (ts us : List (Tree V)) → entries_at ts r ≡ [] → us ≡ remove ts r → 0 < length seps → AreBelow seps ts → AreFilledBut r ts → Parted newer (remove ts r) → AreRising newer → AreSame seps newer ts us
  out r seps newer ts us e b n below filled p rising =
      let items : entries_of us ≡ entries_of ts = ap entries_of b ∙ entries_out r ts e in
      let level : HaveHeight (highest ts) us = subst (HaveHeight (highest ts)) (sym b) (height_out (highest ts) r ts below.level) in
      let many : 1 < length ts = omega (arith, n, parted_length seps ts below.parted) in
      record {
        items = items;
        height = height_is (highest ts) us (omega (arith, ap length b, some_out r ts many)) level;
        below = record {
          most = omega (arith, ap length b, few_out r ts, below.most);
          level = own_height (highest ts) us level;
          order = subst AreInOrder (sym items) below.order;
          rising = rising;
          parted = subst (Parted newer) (sym b) p;
        };
        filled = λ _. subst HaveEntries (sym b) (but_remove r ts (filled many));
      }

  pub out_within : (r : ℕ) (seps newer : List Value) (ts us : List (Tree V)) → r < length seps → entries_at ts r ≡ [] → newer ≡ remove seps r → us ≡ remove ts r → AreBelow seps ts → AreFilledBut r ts → AreSame seps newer ts us
  out_within r seps newer ts us h e a b below filled =
      out r seps newer ts us e b (omega (arith, h)) below filled (subst (λ ss. Parted ss (remove ts r)) (sym a) (parted_out r seps ts h e below.parted)) (subst AreRising (sym a) (rising_remove r seps below.rising))

  pub out_last : (r m : ℕ) (seps newer : List Value) (ts us : List (Tree V)) → r ≡ suc m → suc m ≡ length seps → entries_at ts r ≡ [] → newer ≡ remove seps m → us ≡ remove ts r → AreBelow seps ts → AreFilledBut r ts → AreSame seps newer ts us
  out_last r m seps newer ts us q h e a b below filled =
      out r seps newer ts us e b (omega (arith, h)) below filled (subst (λ ss. Parted ss (remove ts r)) (sym a) (subst (λ (i : ℕ). Parted (remove seps m) (remove ts i)) (sym q)
      (parted_out_last m seps ts h (subst (λ (i : ℕ). entries_at ts i ≡ []) q e) below.parted))) (subst AreRising (sym a) (rising_remove m seps below.rising))

last_or : (r n : ℕ) → r < n + 1 → (r < n) ⊎ (r ≡ n)
last_or zero zero h = inr refl
last_or zero (suc n) h = inl (omega arith)
last_or (suc r) zero h = absurd (omega (arith, h))
last_or (suc r) (suc n) h = next (last_or r n (omega (arith, h)))
  where
    next : (r < n) ⊎ (r ≡ n) → (suc r < suc n) ⊎ (suc r ≡ suc n)
    next (inl w) = inl (omega (arith, w))
    next (inr e) = inr (ap suc e)

module _ {V : Type 0} where
  pub out_without : (r : ℕ) (seps newer : List Value) (ts us : List (Tree V)) → r < length ts → entries_at ts r ≡ [] → AreWithout r seps newer → us ≡ remove ts r → AreBelow seps ts → AreFilledBut r ts → AreSame seps newer ts us
  out_without r seps newer ts us h e a b below filled = by (last_or r (length seps) (omega (arith, h, parted_length seps ts below.parted)))
    where
      by : (r < length seps) ⊎ (r ≡ length seps) → AreSame seps newer ts us
      by (inl w) =
          let here : min r (length seps - 1) ≡ r = omega (arith, w) in
          out_within r seps newer ts us w e (a.items ∙ ap (remove seps) here) b below filled
      by (inr q) =
          let here : min r (length seps - 1) ≡ length seps - 1 = omega (arith, q) in
          let last : r ≡ suc (length seps - 1) = omega (arith, q, a.several) in
          out_last r (length seps - 1) seps newer ts us last (omega (arith, a.several)) e (a.items ∙ ap (remove seps) here) b below filled

pub map_set : {X Y : Type 0} (f : X → Y) (xs : List X) (i : ℕ) (y : X) → map f (set xs i y) ≡ set (map f xs) i (f y)
map_set f [] i y = refl
map_set f (x ∷ xs) zero y = refl
map_set f (x ∷ xs) (suc i) y = ap (λ zs. f x ∷ zs) (map_set f xs i y)

pub map_insert : {X Y : Type 0} (f : X → Y) (xs : List X) (i : ℕ) (y : X) → map f (insert xs i y) ≡ insert (map f xs) i (f y)
map_insert f [] zero y = refl
map_insert f [] (suc i) y = refl
map_insert f (x ∷ xs) zero y = refl
map_insert f (x ∷ xs) (suc i) y = ap (λ zs. f x ∷ zs) (map_insert f xs i y)

pub map_remove : {X Y : Type 0} (f : X → Y) (xs : List X) (i : ℕ) → map f (remove xs i) ≡ remove (map f xs) i
map_remove f [] zero = refl
map_remove f [] (suc i) = refl
map_remove f (x ∷ xs) zero = refl
map_remove f (x ∷ xs) (suc i) = ap (λ zs. f x ∷ zs) (map_remove f xs i)

-- what stands at a place, written there again
pub set_itself : {X : Type 0} (xs : List X) (i : ℕ) (y : X) → y ≡ slice_index_or xs i y → set xs i y ≡ xs
set_itself [] i y e = refl
set_itself (x ∷ xs) zero y e = ap (λ z. z ∷ xs) e
set_itself (x ∷ xs) (suc i) y e = ap (λ zs. x ∷ zs) (set_itself xs i y e)
