-- A list with each value once has the same values, the same least and the same greatest.
use Rattle.std.proofs.Common.{◌≡◌, Bool, true, false, cond, List, [], ◌∷◌, filter, refl, ap, sym, ◌∙◌}
use Rattle.std.specs.Prelude.{◌||◌, ◌&&◌, not, Some}
use Rattle.std.specs.Cmp.{IsTotalOrder}
use Rattle.std.specs.Ordering.{eq_by_cmp, is_eq, is_gt, ordering_reverse}
use Rattle.std.specs.declared.cmp.Ordering.{Ordering}
use Rattle.std.specs.declared.cmp.Ordering.TheVariants.{Less, Equal, Greater}
use Rattle.std.proofs.lemmas.Cmp.{back_total, tied_itself}
use Rattle.std.proofs.lemmas.Map.Lookups.{CmpEqualImpliesEq}
use Rattle.std.proofs.Math.Bool.{and-false}
use Rattle.value.specs.declared.values.Value.{Value}
use Rattle.value.specs.ValueOrder.{value_cmp}
use Rattle.value.specs.Ordered.{lesser, least}
use Rattle.value.proofs.OrderedLists.{has, has-itself, has-least, least-below, equal_from}
use Rattle.value.proofs.ValueOrders.{value_cmp_total, value_exact}
use Rattle.table.specs.Aggregates.{distinct}

pub same_value : (v w : Value) → eq_by_cmp value_cmp v w ≡ true → v ≡ w
same_value v w e = value_exact v w (equal_from (value_cmp v w) e)

pub itself : (v : Value) → eq_by_cmp value_cmp v v ≡ true
itself v = rw (tied_itself value_cmp_total v) refl

-- ---- members

has_filtered : (t : Value → Bool) (w x : Value) (xs : List Value) → has value_cmp w (filter t xs) ≡ has value_cmp w xs && t w → (b : Bool) → t x ≡ b → (c : Bool) → eq_by_cmp value_cmp w x ≡ c
    → has value_cmp w (cond b (x ∷ filter t xs) (filter t xs)) ≡ (c || has value_cmp w xs) && t w
has_filtered t w x xs more true e true d = rw d (sym (ap t (same_value w x d) ∙ e))
has_filtered t w x xs more true e false d = rw d more
has_filtered t w x xs more false e true d =
    let no : t w ≡ false = ap t (same_value w x d) ∙ e in
    more ∙ ap (λ b. has value_cmp w xs && b) no ∙ and-false (has value_cmp w xs) ∙ sym no
has_filtered t w x xs more false e false d = more

pub has_filter : (t : Value → Bool) (w : Value) (xs : List Value) → has value_cmp w (filter t xs) ≡ has value_cmp w xs && t w
has_filter t w [] = refl
has_filter t w (x ∷ xs) = has_filtered t w x xs (has_filter t w xs) (t x) refl (eq_by_cmp value_cmp w x) refl

one_more : (w v : Value) (b c : Bool) → eq_by_cmp value_cmp w v ≡ b → (d : Bool) → eq_by_cmp value_cmp v w ≡ d → b || (c && not d) ≡ b || c
one_more w v true c e d f = refl
one_more w v false c e true f = let k : false ≡ true = sym e ∙ ap (λ u. eq_by_cmp value_cmp w u) (same_value v w f) ∙ itself w in cc
one_more w v false true e false f = refl
one_more w v false false e false f = refl

-- a list's values, each once, are its values
pub has_distinct : (w : Value) (vs : List Value) → has value_cmp w (distinct vs) ≡ has value_cmp w vs
has_distinct w [] = refl
has_distinct w (v ∷ vs) =
    ap (λ b. eq_by_cmp value_cmp w v || b) (has_filter (λ u. not (eq_by_cmp value_cmp v u)) w (distinct vs) ∙ ap (λ b. b && not (eq_by_cmp value_cmp v w)) (has_distinct w vs))
    ∙ one_more w v (eq_by_cmp value_cmp w v) (has value_cmp w vs) refl (eq_by_cmp value_cmp v w) refl

-- ---- the least and the greatest

-- neither is above the other
level : (c d : Ordering) → d ≡ ordering_reverse c → is_gt c ≡ false → is_gt d ≡ false → c ≡ Equal
level Less d e g h = let no : is_gt Greater ≡ false = ap is_gt (sym e) ∙ h in cc
level Equal d e g h = refl
level Greater d e g h = cc

-- lists with the same members have the same least
pub least_same : {K : Type 0} {R : K → K → Ordering} (o : IsTotalOrder R) → CmpEqualImpliesEq R → (xs ys : List K) → ((k : K) → has R k xs ≡ has R k ys) → least R xs ≡ least R ys
least_same o exact [] [] h = refl
least_same o exact [] (y ∷ ys) h = let e : false ≡ true = h y ∙ has-itself o y ys in cc
least_same o exact (x ∷ xs) [] h = let e : true ≡ false = sym (has-itself o x xs) ∙ h x in cc
least_same {K} {R} o exact (x ∷ xs) (y ∷ ys) h =
    let m : K = lesser R x (least R xs) in
    let n : K = lesser R y (least R ys) in
    let low : is_gt (R m n) ≡ false = least-below o x xs n (h n ∙ has-least o y ys) in
    let high : is_gt (R n m) ≡ false = least-below o y ys m (sym (h m) ∙ has-least o x xs) in
    ap Some (exact m n (level (R m n) (R n m) (o.antisymm n m) low high))

-- membership by the order turned round
pub has_back : {K : Type 0} {R : K → K → Ordering} (o : IsTotalOrder R) (k : K) (ys : List K) → has (λ v w. R w v) k ys ≡ has R k ys
has_back o k [] = refl
has_back {K} {R} o k (y ∷ ys) = rw (back (R y k) (R k y) (o.antisymm y k), has_back o k ys) refl
  where
    back : (c d : Ordering) → c ≡ ordering_reverse d → is_eq c ≡ is_eq d
    back c Less e = rw e refl
    back c Equal e = rw e refl
    back c Greater e = rw e refl

pub least_distinct : (vs : List Value) → least value_cmp (distinct vs) ≡ least value_cmp vs
least_distinct vs = least_same value_cmp_total value_exact (distinct vs) vs (λ w. has_distinct w vs)

pub greatest_distinct : (vs : List Value) → least (λ v w. value_cmp w v) (distinct vs) ≡ least (λ v w. value_cmp w v) vs
greatest_distinct vs =
    least_same (back_total value_cmp_total) (λ v w e. sym (value_exact w v e)) (distinct vs) vs
    (λ w. has_back value_cmp_total w (distinct vs) ∙ has_distinct w vs ∙ sym (has_back value_cmp_total w vs))
