-- A walk through groups of rows, of some of which something is listed.
use Rattle.std.proofs.Common.{◌≡◌, ◌∙◌, ℕ, ◌+◌, ◌<◌, ◌≤◌, Bool, true, false, cond, List, [], ◌∷◌, ◌++◌, length, map, drop, refl, ap, sym, subst, get_or, append_assoc, arith}
use Rattle.std.specs.Prelude.{All, filter}
use Rattle.std.proofs.lemmas.List.{drop_more, get_or-map, length-map}
use Rattle.std.proofs.lemmas.List.Elements.{All-cons, All-get_or, All-head, All-nil, All-weaker}
use Rattle.table.specs.Bounds.{IsSmallRow}
use Rattle.table.specs.Rows.{RowValues, value_in}
use Rattle.alone.specs.Groups.{compare_by, groups_of, in_order, runs}
use Rattle.alone.specs.Statements.{first_row}
use Rattle.changes.proofs.Runs.{in_order_all, in_order_length, runs_all, runs_within}

-- what holds of all rows holds of those of each group
pub groups_all : (P : RowValues → Type 0) (columns : List ℕ) (rows : List RowValues) → All P rows → All (All P) (groups_of columns rows)
groups_all P [] rows all = All-cons (All P) rows [] all (All-nil (All P))
groups_all P (column ∷ columns) rows all =
    let R = compare_by (λ row. map (λ c. value_in c row) (column ∷ columns)) in
    runs_all R P (in_order R rows) (in_order_all R P rows all)

-- and no group is longer than all of them
pub groups_short : (n : ℕ) (columns : List ℕ) (rows : List RowValues) → length rows < n → All (λ group. length group < n) (groups_of columns rows)
groups_short n [] rows short = All-cons (λ group. length group < n) rows [] short (All-nil (λ group. length group < n))
groups_short n (column ∷ columns) rows short =
    let R = compare_by (λ row. map (λ c. value_in c row) (column ∷ columns)) in
    let long = in_order_length R rows in
    All-weaker (λ (group : List RowValues). length group ≤ length (in_order R rows)) (λ (group : List RowValues). length group < n) (λ group h. omega (arith, h, long, short)) (runs R (in_order R rows)) (runs_within R (in_order R rows))

module _ {G Y : Type 0} (shown : G → Y) (groups : List G) (i : ℕ) (group : G) (below : i < length groups) (is : group ≡ get_or groups i group) where
  -- what holds of each that is shown holds of one
  pub of_one : (P : Y → Type 0) → All P (map shown groups) → P (shown group)
  of_one P all =
      let inside : i < length (map shown groups) = subst (λ n. i < n) (sym (length-map groups shown)) below in
      subst P (sym (ap shown is ∙ sym (get_or-map shown groups i group (shown group) below))) (All-get_or P (map shown groups) i (shown group) inside all)

  module _ {Z : Type 0} (keep : Y → Bool) (list : Y → Z) where
    -- what is listed of those from a group on
    abbrev left : ℕ → List Z
    left n = map list (filter keep (map shown (drop n groups)))

    by_one : (b : Bool) → map list (cond b (shown group ∷ filter keep (map shown (drop (i + 1) groups))) (filter keep (map shown (drop (i + 1) groups))))
        ≡ cond b (list (shown group) ∷ left (i + 1)) (left (i + 1))
    by_one true = refl
    by_one false = refl

    step : left i ≡ cond (keep (shown group)) (list (shown group) ∷ left (i + 1)) (left (i + 1))
    step = ap (λ gs. map list (filter keep (map shown gs))) (drop_more groups i group below ∙ ap (λ g. g ∷ drop (i + 1) groups) (sym is)) ∙ by_one (keep (shown group))

    -- one that is kept
    pub kept_more : (made more : List Z) (z : Z) (all : List Z) → keep (shown group) ≡ true → more ≡ made ++ z ∷ [] → z ≡ list (shown group)
        → made ++ left i ≡ all → more ++ left (i + 1) ≡ all
    kept_more made more z all kept m e so_far =
        ap (λ l. l ++ left (i + 1)) (m ∙ ap (λ z. made ++ z ∷ []) e) ∙ append_assoc made (list (shown group) ∷ []) (left (i + 1))
        ∙ sym (ap (λ l. made ++ l) (step ∙ ap (λ b. cond b (list (shown group) ∷ left (i + 1)) (left (i + 1))) kept)) ∙ so_far

    -- and one that is not
    pub passed_over : (made all : List Z) → keep (shown group) ≡ false → made ++ left i ≡ all → made ++ left (i + 1) ≡ all
    passed_over made all kept so_far =
        sym (ap (λ l. made ++ l) (step ∙ ap (λ b. cond b (list (shown group) ∷ left (i + 1)) (left (i + 1))) kept)) ∙ so_far

-- the first of some rows within bounds is within bounds
pub first_small : (rows : List RowValues) → All IsSmallRow rows → IsSmallRow (first_row rows)
first_small [] small = λ k d below. absurd (omega (arith, below))
first_small (row ∷ rows) small = All-head IsSmallRow row rows small
