-- Runs of items, one after the other; items in order, and runs, of what is made of each item.
use Rattle.std.proofs.Common.{◌≡◌, ◌∙◌, ℕ, ◌+◌, ◌<◌, ◌≤◌, zero, suc, append_assoc, drop-drop, Bool, true, false, cond, List, [], ◌∷◌, ◌++◌, length, map, take, drop, refl, ap, sym, arith}
use Rattle.std.specs.Prelude.{All}
use Rattle.std.proofs.lemmas.List.{map-append}
use Rattle.std.specs.Ordering.{is_eq, is_lt}
use Rattle.std.specs.declared.cmp.Ordering.{Ordering}
use Rattle.std.proofs.lemmas.List.Elements.{All-nil, All-cons, All-head, All-tail}
use Rattle.alone.specs.Groups.{before_runs, in_order, put_in_order, runs}
use Rattle.changes.specs.Keyed.{run_length}

-- ---- the first run

module _ {X : Type 0} (R : X → X → Ordering) where
  -- it has one
  pub has_one : (x : X) (xs : List X) → 0 < run_length R (x ∷ xs)
  has_one x [] = omega (arith)
  has_one x (y ∷ ys) = by (is_eq (R x y))
    where
      by : (b : Bool) → 0 < cond b (suc (run_length R (y ∷ ys))) 1
      by true = omega (arith)
      by false = omega (arith)

  -- and no more than there are
  pub run_within : (xs : List X) → run_length R xs ≤ length xs
  run_within [] = omega (arith)
  run_within (x ∷ []) = omega (arith)
  run_within (x ∷ y ∷ ys) = by (is_eq (R x y)) (run_within (y ∷ ys))
    where
      by : (b : Bool) → run_length R (y ∷ ys) ≤ length (y ∷ ys) → cond b (suc (run_length R (y ∷ ys))) 1 ≤ length (x ∷ y ∷ ys)
      by true h = omega (arith, h)
      by false h = omega (arith)

  -- it begins with the first item
  begins : (x : X) (xs : List X) → (zs : List X) × (take (run_length R (x ∷ xs)) (x ∷ xs) ≡ x ∷ zs)
  begins x [] = ([], refl)
  begins x (y ∷ ys) = by (is_eq (R x y))
    where
      by : (b : Bool) → (zs : List X) × (take (cond b (suc (run_length R (y ∷ ys))) 1) (x ∷ y ∷ ys) ≡ x ∷ zs)
      by true = (take (run_length R (y ∷ ys)) (y ∷ ys), refl)
      by false = ([], refl)

  module _ (x y : X) (ys zs : List X) (n : ℕ) (is : take n (y ∷ ys) ≡ y ∷ zs) (behind : runs R (y ∷ ys) ≡ take n (y ∷ ys) ∷ runs R (drop n (y ∷ ys))) where
    joined : (b : Bool) → cond b ((x ∷ y ∷ zs) ∷ runs R (drop n (y ∷ ys))) ((x ∷ []) ∷ (y ∷ zs) ∷ runs R (drop n (y ∷ ys)))
        ≡ take (cond b (suc n) 1) (x ∷ y ∷ ys) ∷ runs R (drop (cond b (suc n) 1) (x ∷ y ∷ ys))
    joined true = ap (λ l. (x ∷ l) ∷ runs R (drop n (y ∷ ys))) (sym is)
    joined false = ap (λ l. (x ∷ []) ∷ l) (ap (λ l. l ∷ runs R (drop n (y ∷ ys))) (sym is) ∙ sym behind)

    one_before : before_runs R x (take n (y ∷ ys) ∷ runs R (drop n (y ∷ ys))) ≡ take (cond (is_eq (R x y)) (suc n) 1) (x ∷ y ∷ ys) ∷ runs R (drop (cond (is_eq (R x y)) (suc n) 1) (x ∷ y ∷ ys))
    one_before = ap (λ l. before_runs R x (l ∷ runs R (drop n (y ∷ ys)))) is ∙ joined (is_eq (R x y))

  -- the runs are the first one and those of what is behind it
  pub first_run : (x : X) (xs : List X) → runs R (x ∷ xs) ≡ take (run_length R (x ∷ xs)) (x ∷ xs) ∷ runs R (drop (run_length R (x ∷ xs)) (x ∷ xs))
  first_run x [] = refl
  first_run x (y ∷ ys) =
      let (zs, is) = begins y ys in
      ap (before_runs R x) (first_run y ys) ∙ one_before x y ys zs (run_length R (y ∷ ys)) is (first_run y ys)

  -- ---- what holds of all items

  put_all : (P : X → Type 0) (x : X) (ys : List X) → P x → All P ys → All P (put_in_order R x ys)
  put_all P x [] h all = All-cons P x [] h all
  put_all P x (y ∷ ys) h all = by (is_lt (R y x)) (put_all P x ys h (All-tail P y ys all))
    where
      by : (b : Bool) → All P (put_in_order R x ys) → All P (cond b (y ∷ put_in_order R x ys) (x ∷ y ∷ ys))
      by true behind = All-cons P y (put_in_order R x ys) (All-head P y ys all) behind
      by false behind = All-cons P x (y ∷ ys) h all

  pub in_order_all : (P : X → Type 0) (xs : List X) → All P xs → All P (in_order R xs)
  in_order_all P [] all = all
  in_order_all P (x ∷ xs) all = put_all P x (in_order R xs) (All-head P x xs all) (in_order_all P xs (All-tail P x xs all))

  before_all : (P : X → Type 0) (x : X) (groups : List (List X)) → P x → All (All P) groups → All (All P) (before_runs R x groups)
  before_all P x [] h all = All-cons (All P) (x ∷ []) [] (All-cons P x [] h (All-nil P)) all
  before_all P x ([] ∷ groups) h all = All-cons (All P) (x ∷ []) groups (All-cons P x [] h (All-nil P)) (All-tail (All P) [] groups all)
  before_all P x ((y ∷ ys) ∷ groups) h all = by (is_eq (R x y))
    where
      by : (b : Bool) → All (All P) (cond b ((x ∷ y ∷ ys) ∷ groups) ((x ∷ []) ∷ (y ∷ ys) ∷ groups))
      by true = All-cons (All P) (x ∷ y ∷ ys) groups (All-cons P x (y ∷ ys) h (All-head (All P) (y ∷ ys) groups all)) (All-tail (All P) (y ∷ ys) groups all)
      by false = All-cons (All P) (x ∷ []) ((y ∷ ys) ∷ groups) (All-cons P x [] h (All-nil P)) all

  pub runs_all : (P : X → Type 0) (xs : List X) → All P xs → All (All P) (runs R xs)
  runs_all P [] all = All-nil (All P)
  runs_all P (x ∷ xs) all = before_all P x (runs R xs) (All-head P x xs all) (runs_all P xs (All-tail P x xs all))

  -- ---- lengths

  put_length : (x : X) (ys : List X) → length (put_in_order R x ys) ≡ suc (length ys)
  put_length x [] = refl
  put_length x (y ∷ ys) = by (is_lt (R y x)) (put_length x ys)
    where
      by : (b : Bool) → length (put_in_order R x ys) ≡ suc (length ys) → length (cond b (y ∷ put_in_order R x ys) (x ∷ y ∷ ys)) ≡ suc (length (y ∷ ys))
      by true behind = ap suc behind
      by false behind = refl

  pub in_order_length : (xs : List X) → length (in_order R xs) ≡ length xs
  in_order_length [] = refl
  in_order_length (x ∷ xs) = put_length x (in_order R xs) ∙ ap suc (in_order_length xs)

  -- no run is longer than all together
  abbrev Within : ℕ → List X → Type 0
  Within n group = length group ≤ n

  longer : (n : ℕ) (groups : List (List X)) → All (Within n) groups → All (Within (suc n)) groups
  longer n [] all = All-nil (Within (suc n))
  longer n (group ∷ groups) all =
      let h : length group ≤ n = All-head (Within n) group groups all in
      All-cons (Within (suc n)) group groups (omega (arith, h)) (longer n groups (All-tail (Within n) group groups all))

  before_within : (n : ℕ) (x : X) (groups : List (List X)) → All (Within n) groups → All (Within (suc n)) (before_runs R x groups)
  before_within n x [] all = All-cons (Within (suc n)) (x ∷ []) [] (omega (arith)) (All-nil (Within (suc n)))
  before_within n x ([] ∷ groups) all = All-cons (Within (suc n)) (x ∷ []) groups (omega (arith)) (longer n groups (All-tail (Within n) [] groups all))
  before_within n x ((y ∷ ys) ∷ groups) all = by (is_eq (R x y))
    where
      by : (b : Bool) → All (Within (suc n)) (cond b ((x ∷ y ∷ ys) ∷ groups) ((x ∷ []) ∷ (y ∷ ys) ∷ groups))
      by true =
          let h : length (y ∷ ys) ≤ n = All-head (Within n) (y ∷ ys) groups all in
          All-cons (Within (suc n)) (x ∷ y ∷ ys) groups (omega (arith, h)) (longer n groups (All-tail (Within n) (y ∷ ys) groups all))
      by false = All-cons (Within (suc n)) (x ∷ []) ((y ∷ ys) ∷ groups) (omega (arith)) (longer n ((y ∷ ys) ∷ groups) all)

  pub runs_within : (xs : List X) → All (Within (length xs)) (runs R xs)
  runs_within [] = All-nil (Within 0)
  runs_within (x ∷ xs) = before_within (length xs) x (runs R xs) (runs_within xs)

-- ---- items by what is made of each

module _ {X Y : Type 0} (R : X → X → Ordering) (S : Y → Y → Ordering) (f : X → Y) (P : X → Type 0)
    (same : (x y : X) → P x → P y → R x y ≡ S (f x) (f y)) where
  put_mapped : (x : X) (ys : List X) → P x → All P ys → map f (put_in_order R x ys) ≡ put_in_order S (f x) (map f ys)
  put_mapped x [] h all = refl
  put_mapped x (y ∷ ys) h all =
      by (is_lt (R y x)) (put_mapped x ys h (All-tail P y ys all))
      ∙ ap (λ (r : Ordering). cond (is_lt r) (f y ∷ put_in_order S (f x) (map f ys)) (f x ∷ f y ∷ map f ys)) (same y x (All-head P y ys all) h)
    where
      by : (b : Bool) → map f (put_in_order R x ys) ≡ put_in_order S (f x) (map f ys)
          → map f (cond b (y ∷ put_in_order R x ys) (x ∷ y ∷ ys)) ≡ cond b (f y ∷ put_in_order S (f x) (map f ys)) (f x ∷ f y ∷ map f ys)
      by true behind = ap (λ l. f y ∷ l) behind
      by false behind = refl

  pub in_order_mapped : (xs : List X) → All P xs → map f (in_order R xs) ≡ in_order S (map f xs)
  in_order_mapped [] all = refl
  in_order_mapped (x ∷ xs) all =
      put_mapped x (in_order R xs) (All-head P x xs all) (in_order_all R P xs (All-tail P x xs all))
      ∙ ap (put_in_order S (f x)) (in_order_mapped xs (All-tail P x xs all))

  before_mapped : (x : X) (groups : List (List X)) → P x → All (All P) groups → map (map f) (before_runs R x groups) ≡ before_runs S (f x) (map (map f) groups)
  before_mapped x [] h all = refl
  before_mapped x ([] ∷ groups) h all = refl
  before_mapped x ((y ∷ ys) ∷ groups) h all =
      by (is_eq (R x y))
      ∙ ap (λ (r : Ordering). cond (is_eq r) ((f x ∷ f y ∷ map f ys) ∷ map (map f) groups) ((f x ∷ []) ∷ (f y ∷ map f ys) ∷ map (map f) groups))
      (same x y h (All-head P y ys (All-head (All P) (y ∷ ys) groups all)))
    where
      by : (b : Bool) → map (map f) (cond b ((x ∷ y ∷ ys) ∷ groups) ((x ∷ []) ∷ (y ∷ ys) ∷ groups))
          ≡ cond b ((f x ∷ f y ∷ map f ys) ∷ map (map f) groups) ((f x ∷ []) ∷ (f y ∷ map f ys) ∷ map (map f) groups)
      by true = refl
      by false = refl

  pub runs_mapped : (xs : List X) → All P xs → map (map f) (runs R xs) ≡ runs S (map f xs)
  runs_mapped [] all = refl
  runs_mapped (x ∷ xs) all =
      before_mapped x (runs R xs) (All-head P x xs all) (runs_all R P xs (All-tail P x xs all))
      ∙ ap (before_runs S (f x)) (runs_mapped xs (All-tail P x xs all))

-- ---- runs, from an item on

module _ {X : Type 0} (R : X → X → Ordering) where
  -- the last item of all is a run of its own
  pub last_run : (xs : List X) (i : ℕ) → i < length xs → length xs ≤ i + 1 → run_length R (drop i xs) ≡ 1
  last_run [] i low high = absurd (omega (arith, low))
  last_run (x ∷ []) zero low high = refl
  last_run (x ∷ y ∷ ys) zero low high = absurd (omega (arith, high))
  last_run (x ∷ xs) (suc i) low high = last_run xs i (omega (arith, low)) (omega (arith, high))

  -- the run from an item on has one, and no more than there are
  pub run_from : (xs : List X) (i : ℕ) → i < length xs → (0 < run_length R (drop i xs)) × (i + run_length R (drop i xs) ≤ length xs)
  run_from [] i low = absurd (omega (arith, low))
  run_from (x ∷ xs) zero low = let within = run_within R (x ∷ xs) in (has_one R x xs, omega (arith, within))
  run_from (x ∷ xs) (suc i) low =
      let rest = run_from xs i (omega (arith, low)) in
      (rest.0, omega (arith, rest.1))

  -- the runs from there on
  pub next_run : (xs : List X) (i : ℕ) → i < length xs → runs R (drop i xs) ≡ take (run_length R (drop i xs)) (drop i xs) ∷ runs R (drop (run_length R (drop i xs)) (drop i xs))
  next_run [] i low = absurd (omega (arith, low))
  next_run (x ∷ xs) zero low = first_run R x xs
  next_run (x ∷ xs) (suc i) low = next_run xs i (omega (arith, low))

-- one run more of some that are shown
pub runs_more : {X Y G : Type 0} (R : X → X → Ordering) (f : X → Y) (shown : G → List Y) (xs : List X) (i n : ℕ) (groups more : List G) (group : G) (all : List (List Y))
    → i < length xs → n ≡ run_length R (drop i xs) → more ≡ groups ++ group ∷ [] → shown group ≡ map f (take n (drop i xs))
    → map shown groups ++ map (map f) (runs R (drop i xs)) ≡ all → map shown more ++ map (map f) (runs R (drop (i + n) xs)) ≡ all
runs_more R f shown xs i n groups more group all low long is shows so_far =
    let behind = map (map f) (runs R (drop (i + n) xs)) in
    ap (λ l. map shown l ++ behind) is ∙ ap (λ l. l ++ behind) (map-append shown groups (group ∷ []))
    ∙ append_assoc (map shown groups) (shown group ∷ []) behind
    ∙ ap (λ l. map shown groups ++ l ∷ behind) shows
    ∙ ap (λ l. map shown groups ++ map f (take n (drop i xs)) ∷ map (map f) (runs R l)) (sym (drop-drop n i xs))
    ∙ ap (λ n. map shown groups ++ map f (take n (drop i xs)) ∷ map (map f) (runs R (drop n (drop i xs)))) long
    ∙ sym (ap (λ l. map shown groups ++ map (map f) l) (next_run R xs i low))
    ∙ so_far
