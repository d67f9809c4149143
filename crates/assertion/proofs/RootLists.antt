-- What the truth and the least of a list of roots say of its members.
use Rattle.std.proofs.Common.{◌≡◌, ◌≢◌, true, false, List, [], ◌∷◌, Some, refl, sym, ◌∙◌, ap, subst}
use Rattle.std.specs.Prelude.{slice_get}
use Rattle.std.specs.Ordering.{is_gt, ordering_reverse}
use Rattle.std.specs.declared.cmp.Ordering.{Ordering}
use Rattle.std.specs.declared.cmp.Ordering.TheVariants.{Less, Equal, Greater}
use Rattle.value.specs.declared.values.Root.{Root}
use Rattle.value.specs.ValueOrder.{root_cmp}
use Rattle.value.specs.Ordered.{least, lesser}
use Rattle.value.proofs.OrderedLists.{has, first, has-itself, has-least, least-below}
use Rattle.value.proofs.ValueOrders.{root_cmp_total, root_exact}
use Rattle.value.specs.declared.truths.Truth.TheVariants.{False, Unknown}
use Rattle.assertion.specs.Meaning.{truth_of_roots}

-- false where there is a root
pub truth-has : (rs : List Root) (r : Root) → has root_cmp r rs ≡ true → truth_of_roots rs ≡ False
truth-has [] r h = cc
truth-has (q ∷ rs) r h = refl

pub has-truth : (rs : List Root) → truth_of_roots rs ≡ False → (r : Root) × (has root_cmp r rs ≡ true)
has-truth [] e = cc
has-truth (r ∷ rs) e = (r, has-itself root_cmp_total r rs)

pub truth-known : (rs : List Root) → truth_of_roots rs ≢ Unknown
truth-known [] e = cc
truth-known (r ∷ rs) e = cc

-- the truth by a list whose first is the least
pub truth-first : (rs bad : List Root) → least root_cmp rs ≡ first bad → truth_of_roots rs ≡ truth_of_roots bad
truth-first [] [] e = refl
truth-first [] (b ∷ bad) e = cc
truth-first (r ∷ rs) [] e = cc
truth-first (r ∷ rs) (b ∷ bad) e = refl

pub first-slice_get : (rs : List Root) → first rs ≡ slice_get rs 0
first-slice_get [] = refl
first-slice_get (r ∷ rs) = refl

not_less : (c : Ordering) → c ≢ Less → is_gt c ≡ false → c ≡ Equal
not_less Less n g = absurd (n refl)
not_less Equal n g = refl
not_less Greater n g = cc

above : (m r q : Root) → m ≡ r → is_gt (root_cmp m q) ≡ false → root_cmp q r ≢ Less
above m r q e g l =
    let far : root_cmp r q ≡ Greater = root_cmp_total.antisymm r q ∙ ap ordering_reverse l in
    let k : true ≡ false = ap is_gt (sym far) ∙ ap (λ m. is_gt (root_cmp m q)) (sym e) ∙ g in
    cc

-- the least is one of the list, and none of the list is below it
pub has-least_of : (rs : List Root) (r : Root) → least root_cmp rs ≡ Some r → has root_cmp r rs ≡ true
has-least_of [] r e = cc
has-least_of (x ∷ xs) r e =
    let m : lesser root_cmp x (least root_cmp xs) ≡ r = cc in
    subst (λ m. has root_cmp m (x ∷ xs) ≡ true) m (has-least root_cmp_total x xs)

pub least-lowest : (rs : List Root) (r : Root) → least root_cmp rs ≡ Some r → (q : Root) → has root_cmp q rs ≡ true → root_cmp q r ≢ Less
least-lowest [] r e q h = cc
least-lowest (x ∷ xs) r e q h =
    let m : lesser root_cmp x (least root_cmp xs) ≡ r = cc in
    above (lesser root_cmp x (least root_cmp xs)) r q m (least-below root_cmp_total x xs q h)

-- one of the list that none of the list is below is the least
pub least-only : (rs : List Root) (r : Root) → has root_cmp r rs ≡ true → ((q : Root) → has root_cmp q rs ≡ true → root_cmp q r ≢ Less) → least root_cmp rs ≡ Some r
least-only [] r h lowest = cc
least-only (x ∷ xs) r h lowest =
    let m : Root = lesser root_cmp x (least root_cmp xs) in
    ap Some (root_exact m r (not_less (root_cmp m r) (lowest m (has-least root_cmp_total x xs)) (least-below root_cmp_total x xs r h)))
