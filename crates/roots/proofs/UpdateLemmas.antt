-- The maintained bad roots follow a change.
use Rattle.std.proofs.Common.{◌≡◌, ◌≢◌, ℕ, zero, suc, arith, ◌+◌, ◌-◌, ◌<◌, Bool, true, false, cond, List, [], ◌∷◌, ◌++◌, Option, Some, None, length, take, get_or, refl, sym, ◌∙◌, ap, subst}
use Rattle.std.specs.Prelude.{◌==◌, ◌||◌, ◌≤◌, ◌^◌, All, is_some, option_to_list, if◌then◌else◌}
use Rattle.std.proofs.lemmas.List.{take_more, get_or_default}
use Rattle.std.proofs.lemmas.List.Elements.{All-nil, All-cons, All-head, All-tail}
use Rattle.std.specs.Ordering.{eq_by_cmp}
use Rattle.std.proofs.lemmas.Cmp.{tied_itself}
use Rattle.std.proofs.Math.Bool.{or-true}
use Rattle.value.specs.declared.values.Root.{Root}
use Rattle.value.specs.declared.values.Root.TheVariants.{All as Whole, Of}
use Rattle.value.specs.ValueOrder.{root_cmp}
use Rattle.value.specs.Ordered.{IsAscending, at, HoldsOf}
use Rattle.value.proofs.ValueOrders.{root_cmp_total, root_exact}
use Rattle.value.proofs.OrderedLists.{has, at-put, IsAscending-put, equal_from}
use Rattle.table.specs.declared.rows.Change.{Change}
use Rattle.table.specs.Rows.{RowValues, Layout, value_in}
use Rattle.table.specs.Bounds.{IsSmallRow}
use Rattle.table.specs.Slots.{magnitude}
use Rattle.assertion.specs.declared.forms.Form.{Form}
use Rattle.assertion.specs.declared.forms.Form.TheVariants.{ByRow, ByGroup, Single}
use Rattle.assertion.specs.Candidates.{candidates, group_candidates, rows_of_change}
use Rattle.assertion.specs.Meaning.{State}
use Rattle.assertion.specs.Roots.{is_bad_root, is_among, AreBad}
use Rattle.assertion.specs.Changes.{IsOrdered, IsChangeOf, state_after}
use Rattle.assertion.proofs.KeptTruth.{kept_truth}
use Rattle.roots.specs.Bad.{put_root, is_touched, AreUpdated, KeepOthers}
use Rattle.roots.specs.Maintained.{IsSmallRoot}

-- the roots after one is put in or taken out
is_among-put : (q : Root) (b : Bool) (rs : List Root) → IsAscending root_cmp (λ k. k) rs → (r : Root) → is_among r (put_root q b rs) ≡ cond (eq_by_cmp root_cmp r q) b (is_among r rs)
is_among-put q true rs s r =
    ap is_some (at-put root_cmp_total (λ k. k) q (Some q) rs refl s r)
    ∙ elim (eq_by_cmp root_cmp r q) as (λ c. is_some (cond c (Some q) (at root_cmp (λ k. k) r rs)) ≡ cond c true (is_among r rs)) [ true ↦ refl | false ↦ refl ]
is_among-put q false rs s r =
    let none : Option Root = None in
    ap is_some (at-put root_cmp_total (λ k. k) q none rs tt s r)
    ∙ elim (eq_by_cmp root_cmp r q) as (λ c. is_some (cond c none (at root_cmp (λ k. k) r rs)) ≡ cond c false (is_among r rs)) [ true ↦ refl | false ↦ refl ]

put_root-ordered : (q : Root) (b : Bool) (rs : List Root) → IsAscending root_cmp (λ k. k) rs → IsAscending root_cmp (λ k. k) (put_root q b rs)
put_root-ordered q true rs s = IsAscending-put root_cmp_total (λ k. k) q (Some q) rs refl s
put_root-ordered q false rs s = IsAscending-put root_cmp_total (λ k. k) q None rs tt s

is_touched-push : (r : Root) (qs : List Root) (q : Root) → is_touched r (qs ++ q ∷ []) ≡ (if eq_by_cmp root_cmp r q then true else is_touched r qs)
is_touched-push r [] q = elim (eq_by_cmp root_cmp r q) as (λ b. b || false ≡ (if b then true else false)) [ true ↦ refl | false ↦ refl ]
is_touched-push r (p ∷ qs) q =
    ap (λ b. eq_by_cmp root_cmp r p || b) (is_touched-push r qs q)
    ∙ elim (eq_by_cmp root_cmp r q) as (λ b. eq_by_cmp root_cmp r p || (if b then true else is_touched r qs) ≡ (if b then true else eq_by_cmp root_cmp r p || is_touched r qs)) [ true ↦ or-true (eq_by_cmp root_cmp r p) | false ↦ refl ]

pub is_touched-has : (r : Root) (qs : List Root) → is_touched r qs ≡ has root_cmp r qs
is_touched-has r [] = refl
is_touched-has r (q ∷ qs) = ap (λ b. eq_by_cmp root_cmp r q || b) (is_touched-has r qs)

module _ (layouts : List Layout) (form : Form) (state : State) (bad : List Root) where
  -- one more of them
  pub AreUpdated-more : (ts : List Root) (i : ℕ) (q : Root) (b : Bool) (made more : List Root) → i < length ts → q ≡ get_or ts i q → b ≡ is_bad_root layouts form state q → more ≡ put_root q b made
      → AreUpdated layouts form state (take i ts) bad made → AreUpdated layouts form state (take (i + 1) ts) bad more
  AreUpdated-more ts i q b made more h at_i is e u = record {
    in_order = rw e (put_root-ordered q b made u.in_order);
    right = λ r.
        ap (is_among r) e ∙ is_among-put q b made u.in_order r ∙ case r (eq_by_cmp root_cmp r q) refl
        ∙ sym (ap (λ t. if t then is_bad_root layouts form state r else is_among r bad) (ap (is_touched r) (take_more ts i q h ∙ ap (λ x. take i ts ++ x ∷ []) (sym at_i)) ∙ is_touched-push r (take i ts) q));
  }
    where
      case : (r : Root) (c : Bool) → eq_by_cmp root_cmp r q ≡ c → cond c b (is_among r made) ≡ (if (if c then true else is_touched r (take i ts)) then is_bad_root layouts form state r else is_among r bad)
      case r true f = is ∙ ap (is_bad_root layouts form state) (sym (root_exact r q (equal_from (root_cmp r q) f)))
      case r false f = u.right r

  -- one more that is among them already
  pub AreUpdated-again : (ts : List Root) (i : ℕ) (made : List Root) → i < length ts → ((d : Root) → is_touched (get_or ts i d) (take i ts) ≡ true)
      → AreUpdated layouts form state (take i ts) bad made → AreUpdated layouts form state (take (i + 1) ts) bad made
  AreUpdated-again ts i made h again u = record {
    in_order = u.in_order;
    right = λ r.
        u.right r
        ∙ ap (λ t. if t then is_bad_root layouts form state r else is_among r bad)
        (case r (eq_by_cmp root_cmp r q) refl ∙ sym (ap (is_touched r) (take_more ts i Whole h) ∙ is_touched-push r (take i ts) q));
  }
    where
      q : Root
      q = get_or ts i Whole

      case : (r : Root) (c : Bool) → eq_by_cmp root_cmp r q ≡ c → is_touched r (take i ts) ≡ (if c then true else is_touched r (take i ts))
      case r true f = ap (λ p. is_touched p (take i ts)) (root_exact r q (equal_from (root_cmp r q) f)) ∙ again Whole
      case r false f = refl

-- the last of roots is among them
touched-last : (ts : List Root) (i : ℕ) (p : Root) → i < length ts → p ≡ get_or ts i p → is_touched p (take (i + 1) ts) ≡ true
touched-last ts i p h at_i =
    ap (is_touched p) (take_more ts i p h ∙ ap (λ x. take i ts ++ x ∷ []) (sym at_i)) ∙ is_touched-push p (take i ts) p
    ∙ ap (λ (c : Bool). if c then true else is_touched p (take i ts)) tied
  where
    tied : eq_by_cmp root_cmp p p ≡ true
    tied = rw (tied_itself root_cmp_total p) refl

some : (n : ℕ) → n ≢ 0 → 0 < n
some zero ne = absurd (ne refl)
some (suc n) ne = omega arith

-- a root that is the one before it is among those before it
pub touched-before : (ts : List Root) (i : ℕ) (p q : Root) → i ≢ 0 → i < length ts → p ≡ get_or ts (i - 1) p → q ≡ get_or ts i q → p ≡ q → (d : Root) → is_touched (get_or ts i d) (take i ts) ≡ true
touched-before ts i p q ne h before here same d =
    let low : 0 < i = some i ne in
    let e : i - 1 + 1 ≡ i = omega (arith, low) in
    let at_i : p ≡ get_or ts i d = same ∙ here ∙ get_or_default ts i q d h in
    subst (λ r. is_touched r (take i ts) ≡ true) at_i (subst (λ n. is_touched p (take n ts) ≡ true) e (touched-last ts (i - 1) p (omega (arith, low, h)) before))

-- each root that is no candidate of a change keeps its truth
pub candidates_keep : (layouts : List Layout) (change : Change) (state : State) (form : Form) → IsChangeOf layouts change state → IsOrdered layouts state → KeepOthers layouts form state (state_after layouts change state) (candidates layouts (state_after layouts change state) change form)
candidates_keep layouts change state form is asc r h = kept_truth layouts change state is asc form r (sym (is_touched-has r (candidates layouts (state_after layouts change state) change form)) ∙ h)

-- the bad roots of a state, where those at which it can differ from another were looked at
pub AreBad-after : (layouts : List Layout) (before after : State) (form : Form) (bad made touched : List Root) → AreBad layouts form before bad → KeepOthers layouts form before after touched → AreUpdated layouts form after touched bad made → AreBad layouts form after made
AreBad-after layouts before after form bad made touched old others u = record {
  in_order = u.in_order;
  exact = λ r. u.right r ∙ case r (is_touched r touched) refl;
}
  where
    case : (r : Root) (t : Bool) → is_touched r touched ≡ t → (if t then is_bad_root layouts form after r else is_among r bad) ≡ is_bad_root layouts form after r
    case r true e = refl
    case r false e = old.exact r ∙ sym (others r e)

-- the candidates by groups are values of the rows
pub column_small : (row : RowValues) (c : ℕ) → IsSmallRow row → magnitude (value_in c row) ≤ 10 ^ 15
column_small [] c h = omega arith
column_small (v ∷ vs) zero h = All-head (λ v. magnitude v ≤ 10 ^ 15) v vs h
column_small (v ∷ vs) (suc c) h = column_small vs c (All-tail (λ v. magnitude v ≤ 10 ^ 15) v vs h)

pub groups_small : (g : ℕ) (form : Form) (rows : List RowValues) → ((row : RowValues) → IsSmallRow row → IsSmallRoot form (Of (value_in g row))) → All IsSmallRow rows → All (IsSmallRoot form) (group_candidates g rows)
groups_small g form [] f h = All-nil (IsSmallRoot form)
groups_small g form (row ∷ rows) f h = All-cons (IsSmallRoot form) (Of (value_in g row)) (group_candidates g rows) (f row (All-head IsSmallRow row rows h)) (groups_small g form rows f (All-tail IsSmallRow row rows h))

touched_small : (old new : Option RowValues) → HoldsOf IsSmallRow old → HoldsOf IsSmallRow new → All IsSmallRow (option_to_list old ++ option_to_list new)
touched_small None None h k = All-nil IsSmallRow
touched_small None (Some n) h k = All-cons IsSmallRow n [] k (All-nil IsSmallRow)
touched_small (Some o) None h k = All-cons IsSmallRow o [] h (All-nil IsSmallRow)
touched_small (Some o) (Some n) h k = All-cons IsSmallRow o (n ∷ []) h (All-cons IsSmallRow n [] k (All-nil IsSmallRow))

pub candidates_small : (layouts : List Layout) (after : State) (change : Change) (form : Form) → HoldsOf IsSmallRow change.old → HoldsOf IsSmallRow change.new → All (IsSmallRoot form) (candidates layouts after change form)
candidates_small layouts after change (ByRow table c queries) old new = λ k d h. tt
candidates_small layouts after change (Single c queries) old new = λ k d h. tt
candidates_small layouts after change (ByGroup table restriction group having aggregates) old new =
    elim (table == change.table) as (λ b. All (IsSmallRoot (ByGroup table restriction group having aggregates)) (if b then group_candidates group (rows_of_change change) else [])) [
      | true ↦ groups_small group (ByGroup table restriction group having aggregates) (rows_of_change change) (λ row h. column_small row group h) (touched_small change.old change.new old new)
      | false ↦ All-nil (IsSmallRoot (ByGroup table restriction group having aggregates))
    ]

-- the whole is no group
pub whole_is_small : (form : Form) → IsSmallRoot form Whole
whole_is_small (ByRow table c queries) = tt
whole_is_small (ByGroup table restriction group having aggregates) = tt
whole_is_small (Single c queries) = tt
