-- A root whose row and whose totals a change leaves keeps its truth.
use Rattle.std.proofs.Common.{◌≡◌, ◌≢◌, ℕ, ◌+◌, ◌<◌, Bool, true, false, cond, List, [], ◌∷◌, ◌++◌, Option, Some, None, map, length, take, get_or, refl, sym, ◌∙◌, ap, append_assoc, subst}
use Rattle.std.specs.Prelude.{◌==◌, ◌&&◌, ◌||◌, All, filter, flat_map, is_some, option_to_list, if◌then◌else◌}
use Rattle.std.specs.Option.{option_map}
use Rattle.std.specs.Ordering.{eq_by_cmp}
use Rattle.std.proofs.lemmas.Grind.{flat_map-append}
use Rattle.std.proofs.lemmas.List.{take_more}
use Rattle.std.proofs.lemmas.List.Elements.{All-append, All-cons, All-head, All-nil, All-tail}
use Rattle.value.specs.declared.values.Value.{Value}
use Rattle.value.specs.declared.values.Root.{Root}
use Rattle.value.specs.declared.values.Root.TheVariants.{All as Whole, Of}
use Rattle.value.specs.ValueOrder.{root_cmp, value_cmp}
use Rattle.value.specs.Ordered.{IsAscending}
use Rattle.value.proofs.OrderedLists.{equal_from, has}
use Rattle.value.proofs.ValueOrders.{value_exact}
use Rattle.table.specs.declared.rows.Change.{Change}
use Rattle.table.specs.declared.conds.Cond.{Cond}
use Rattle.table.specs.Aggregates.{aggregate}
use Rattle.table.specs.Eval.{keeps}
use Rattle.table.specs.Rows.{RowValues, Layout, key_of, row_at, value_in}
use Rattle.table.specs.Slotless.{has_slots}
use Rattle.assertion.specs.declared.queries.Link.{Link}
use Rattle.assertion.specs.declared.queries.Query.{Query}
use Rattle.assertion.specs.declared.forms.Form.{Form}
use Rattle.assertion.specs.declared.forms.Form.TheVariants.{ByRow}
use Rattle.assertion.specs.Changes.{IsChangeOf, IsOrdered, state_after}
use Rattle.assertion.specs.Meaning.{State, linked_answer, links, rows_of}
use Rattle.assertion.specs.Roots.{is_bad_row}
use Rattle.assertion.proofs.BadRoots.{has-row, passes}
use Rattle.assertion.proofs.KeptTruth.{IsOrdered-after, filtered-same, row-same}
use Rattle.assertion.proofs.ListLemmas.{DropsAll, has-neither}
use Rattle.groups.specs.declared.members.Member.{Member}
use Rattle.groups.specs.Members.{member_of}
use Rattle.roots.specs.declared.grouped.Around.{Around}
use Rattle.roots.specs.declared.grouped.Grouping.{Grouping}
use Rattle.roots.specs.declared.grouped.Grouping.TheVariants.{Linked, ByKey, PerRow}
use Rattle.roots.specs.Around.{is_equal, place_beside, value_in_one}
use Rattle.roots.specs.Bad.{KeepOthers}
use Rattle.roots.specs.Summaries.{around_of, linked_query, summaries_of}
use Rattle.roots.specs.Turned.{AreAllAround, is_beside, linked_around, turned_around, turned_by, turned_root, turned_roots}
use Rattle.roots.proofs.AroundLemmas.{equal_flip}
use Rattle.roots.proofs.MaintainedLemmas.{test_false, test_true}
use Rattle.roots.proofs.UpdateLemmas.{is_touched-has}

-- ---- the roots as they are put into a list

pub nothing_more : {X : Type 0} (xs : List X) → xs ++ [] ≡ xs
nothing_more [] = refl
nothing_more (x ∷ xs) = ap (λ ys. x ∷ ys) (nothing_more xs)

-- one more of the items is done, and all are
pub step_done : {X Y : Type 0} (f : X → List Y) (ys more end : List Y) (x : X) (xs rest : List X) → xs ≡ x ∷ rest → more ≡ ys ++ f x → ys ++ flat_map f xs ≡ end → more ++ flat_map f rest ≡ end
step_done f ys more end x xs rest split e h =
    ap (λ zs. zs ++ flat_map f rest) e ∙ append_assoc ys (f x) (flat_map f rest) ∙ ap (λ zs. ys ++ flat_map f zs) (sym split) ∙ h

pub all_done : {X Y : Type 0} (f : X → List Y) (ys end : List Y) (xs : List X) → xs ≡ [] → ys ++ flat_map f xs ≡ end → ys ≡ end
all_done f ys end xs none h = sym (nothing_more ys) ∙ ap (λ zs. ys ++ flat_map f zs) (sym none) ∙ h

-- a row beside a row around is a member of its group
pub member_is : (around : Around) (restriction : Cond) (row : RowValues) (value : RowValues → Value) (o : Option RowValues) → is_some (member_of (place_beside around restriction row) value o) ≡ is_beside around restriction row o
member_is around restriction row value None = refl
member_is around restriction row value (Some linked) = case (links around.link row linked && keeps linked row restriction)
  where
    member : Value → Member
    member g = record { group = g; value = value linked }

    case : (b : Bool) → is_some (option_map member (if b then Some (value_in around.key row) else None)) ≡ b
    case true = refl
    case false = refl

module _ (around : Around) (restriction : Cond) (change : Change) (outer : List RowValues) where
  abbrev was : Value
  was = value_in_one around.link.inner change.old

  abbrev becomes : Value
  becomes = value_in_one around.link.inner change.new

  abbrev roots_at : Value → List Root
  roots_at v = flat_map (turned_root around restriction change) (filter (λ row. is_equal v (value_in around.link.outer row)) outer)

  abbrev later : Bool → List RowValues
  later b = if b then [] else filter (λ row. is_equal becomes (value_in around.link.outer row)) outer

  -- the rows that are linked to one value, and to two
  pub linked_once : eq_by_cmp value_cmp was becomes ≡ true → roots_at was ≡ flat_map (turned_root around restriction change) (linked_around around change outer)
  linked_once e = sym (ap (λ b. flat_map (turned_root around restriction change) (filter (λ row. is_equal was (value_in around.link.outer row)) outer ++ later b)) e
      ∙ ap (flat_map (turned_root around restriction change)) (nothing_more (filter (λ row. is_equal was (value_in around.link.outer row)) outer)))

  pub linked_twice : eq_by_cmp value_cmp was becomes ≡ false → roots_at was ++ roots_at becomes ≡ flat_map (turned_root around restriction change) (linked_around around change outer)
  linked_twice e = sym (ap (λ b. flat_map (turned_root around restriction change) (filter (λ row. is_equal was (value_in around.link.outer row)) outer ++ later b)) e
      ∙ flat_map-append (turned_root around restriction change) (filter (λ row. is_equal was (value_in around.link.outer row)) outer) (later false))

-- no rows are linked
pub linked_none : (around : Around) (restriction : Cond) (change : Change) → flat_map (turned_root around restriction change) (linked_around around change []) ≡ []
linked_none around restriction change = case (eq_by_cmp value_cmp (value_in_one around.link.inner change.old) (value_in_one around.link.inner change.new))
  where
    nothing : List RowValues
    nothing = []

    case : (b : Bool) → flat_map (turned_root around restriction change) (nothing ++ (if b then nothing else nothing)) ≡ []
    case true = refl
    case false = refl

-- the roots that a change turns of rows around: none where the rows linked to them are of another table
pub turned_elsewhere : (around : Around) (after : State) (change : Change) (s : Query Grouping) → s.table ≢ change.table → turned_around around after change s ≡ []
turned_elsewhere around after change s other =
    ap (λ b. if b then flat_map (turned_root around s.filter change) (linked_around around change (rows_of around.table after)) else []) (test_false s.table change.table other)

pub turned_here : (around : Around) (after : State) (change : Change) (s : Query Grouping) → s.table ≡ change.table
    → flat_map (turned_root around s.filter change) (linked_around around change (rows_of around.table after)) ≡ turned_around around after change s
turned_here around after change s same =
    sym (ap (λ b. if b then flat_map (turned_root around s.filter change) (linked_around around change (rows_of around.table after)) else []) (test_true s.table change.table same))

-- each of some items has a property, and one more has
pub each_next : {X : Type 0} (P : X → Type 0) (xs : List X) (n : ℕ) (x : X) → n < length xs → x ≡ get_or xs n x → P x → All P (take n xs) → All P (take (n + 1) xs)
each_next P xs n x h is p all =
    subst (All P) (sym (take_more xs n x h ∙ ap (λ y. take n xs ++ y ∷ []) (sym is))) (All-append P (take n xs) (x ∷ []) all (All-cons P x [] p (All-nil P)))

-- ---- a row around whose root is not among them

clash : (a b c : Bool) → a ≡ true → b ≡ true → a && (b || c) ≡ false → ⊥
clash a b c e f h = let no : true ≡ false = sym (rw (e, f) refl) ∙ h in cc

clash_right : (a b c : Bool) → a ≡ true → c ≡ true → a && (b || c) ≡ false → ⊥
clash_right a true c e f h = clash a true c e refl h
clash_right a false c e f h = let no : true ≡ false = sym (rw (e, f) refl) ∙ h in cc

module _ (around : Around) (restriction : Cond) (change : Change) (rows : List RowValues) (asc : IsAscending value_cmp (value_in around.key) rows) where
  abbrev turns : RowValues → Bool
  turns row = is_beside around restriction row change.old || is_beside around restriction row change.new

  listed : (test : RowValues → Bool) (rows : List RowValues) → flat_map (turned_root around restriction change) (filter test rows) ≡ map (λ row. Of (value_in around.key row)) (filter (λ row. test row && turns row) rows)
  listed test [] = refl
  listed test (row ∷ rows) =
      let rest : List RowValues = filter test rows in
      let those : List RowValues = filter (λ row. test row && turns row) rows in
      elim (test row) as (λ b. flat_map (turned_root around restriction change) (cond b (row ∷ rest) rest) ≡ map (λ row. Of (value_in around.key row)) (cond (b && turns row) (row ∷ those) those)) [
        | true ↦ elim (turns row) as (λ b. (if b then Of (value_in around.key row) ∷ [] else []) ++ flat_map (turned_root around restriction change) rest ≡ map (λ row. Of (value_in around.key row)) (cond b (row ∷ those) those)) [
          | true ↦ ap (λ roots. Of (value_in around.key row) ∷ roots) (listed test rows)
          | false ↦ listed test rows
        ]
        | false ↦ listed test rows
      ]

  abbrev before_it : Value
  before_it = value_in_one around.link.inner change.old

  abbrev behind_it : Value
  behind_it = value_in_one around.link.inner change.new

  abbrev of : Value → RowValues → Bool
  of w row = is_equal w (value_in around.link.outer row)

  abbrev last_ones : Bool → List RowValues
  last_ones b = if b then [] else filter (of behind_it) rows

  module _ (v : Value) (row : RowValues) (stands : row_at around.key v rows ≡ Some row) where
    has_listed : (test : RowValues → Bool) → has root_cmp (Of v) (flat_map (turned_root around restriction change) (filter test rows)) ≡ test row && turns row
    has_listed test = ap (has root_cmp (Of v)) (listed test rows) ∙ has-row around.key (λ row. test row && turns row) v rows asc ∙ ap (passes (λ row. test row && turns row)) stands

    linked_if : (o : Option RowValues) → is_beside around restriction row o ≡ true → is_equal (value_in_one around.link.inner o) (value_in around.link.outer row) ≡ true
    linked_if None e = absurd (let f : false ≡ true = e in cc)
    linked_if (Some linked) e = equal_flip (value_in around.link.inner linked) (value_in around.link.outer row) ∙ left (links around.link row linked) (keeps linked row restriction) e
      where
        left : (a b : Bool) → a && b ≡ true → a ≡ true
        left true b e = refl
        left false b e = e

    -- neither row of the change is beside it
    neither_beside : has root_cmp (Of v) (flat_map (turned_root around restriction change) (linked_around around change rows)) ≡ false
        → (is_beside around restriction row change.old ≡ false) × (is_beside around restriction row change.new ≡ false)
    neither_beside h = case (is_beside around restriction row change.old) (is_beside around restriction row change.new) refl refl
      where
        parts : (has root_cmp (Of v) (flat_map (turned_root around restriction change) (filter (of before_it) rows)) ≡ false) × (has root_cmp (Of v) (flat_map (turned_root around restriction change) (last_ones (eq_by_cmp value_cmp before_it behind_it))) ≡ false)
        parts = has-neither root_cmp (Of v) (flat_map (turned_root around restriction change) (filter (of before_it) rows)) (flat_map (turned_root around restriction change) (last_ones (eq_by_cmp value_cmp before_it behind_it)))
            (sym (ap (has root_cmp (Of v)) (flat_map-append (turned_root around restriction change) (filter (of before_it) rows) (last_ones (eq_by_cmp value_cmp before_it behind_it)))) ∙ h)

        first : of before_it row && turns row ≡ false
        first = sym (has_listed (of before_it)) ∙ parts.0

        second : (b : Bool) → eq_by_cmp value_cmp before_it behind_it ≡ b → is_beside around restriction row change.new ≡ true → ⊥
        second true e f =
            let same : before_it ≡ behind_it = value_exact before_it behind_it (equal_from (value_cmp before_it behind_it) e) in
            clash_right (of before_it row) (is_beside around restriction row change.old) (is_beside around restriction row change.new) (ap (λ w. of w row) same ∙ linked_if change.new f) f first
        second false e f =
            clash_right (of behind_it row) (is_beside around restriction row change.old) (is_beside around restriction row change.new) (linked_if change.new f) f
            (sym (has_listed (of behind_it)) ∙ ap (λ b. has root_cmp (Of v) (flat_map (turned_root around restriction change) (last_ones b))) (sym e) ∙ parts.1)

        case : (a b : Bool) → is_beside around restriction row change.old ≡ a → is_beside around restriction row change.new ≡ b → (is_beside around restriction row change.old ≡ false) × (is_beside around restriction row change.new ≡ false)
        case true b e f = absurd (clash (of before_it row) (is_beside around restriction row change.old) (is_beside around restriction row change.new) (linked_if change.old e) e first)
        case false true e f = absurd (second (eq_by_cmp value_cmp before_it behind_it) refl f)
        case false false e f = (e, f)

-- the rows of a change are dropped where neither is beside
drops_both : (around : Around) (restriction : Cond) (row : RowValues) (old new : Option RowValues) → is_beside around restriction row old ≡ false → is_beside around restriction row new ≡ false
    → DropsAll (λ linked. links around.link row linked && keeps linked row restriction) (option_to_list old ++ option_to_list new)
drops_both around restriction row None None e f = tt
drops_both around restriction row None (Some n) e f = (f, tt)
drops_both around restriction row (Some o) None e f = (e, tt)
drops_both around restriction row (Some o) (Some n) e f = (e, (f, tt))

-- what isn't in a list that stands under a test
within_test : (r : Root) (b : Bool) (rs : List Root) → has root_cmp r (if b then rs else []) ≡ false → b ≡ true → has root_cmp r rs ≡ false
within_test r b rs h e = rw e at h

-- ---- a form by rows, all of whose queries have rows around as groups

module _ (layouts : List Layout) (change : Change) (state : State) (table : ℕ) (is : IsChangeOf layouts change state) (in_order : IsOrdered layouts state) where
  abbrev after : State
  after = state_after layouts change state

  abbrev key : ℕ
  key = key_of table layouts

  abbrev around_for : Query Link → Around
  around_for q = record { table = table; key = key_of table layouts; link = q.grouping }

  module _ (v : Value) (row : RowValues) (stands : row_at key v (rows_of table after) ≡ Some row) where
    same_answer : (q : Query Link) → has root_cmp (Of v) (turned_around (around_for q) after change (linked_query layouts table q)) ≡ false → linked_answer after row q ≡ linked_answer state row q
    same_answer q h =
        ap (aggregate q.aggregate) (filtered-same layouts change state is q.table (λ linked. links q.grouping row linked && keeps linked row q.filter) (λ e.
        let both : (is_beside (around_for q) q.filter row change.old ≡ false) × (is_beside (around_for q) q.filter row change.new ≡ false)
        = neither_beside (around_for q) q.filter change (rows_of table after) (IsOrdered-after layouts change state is in_order table) v row stands
        (within_test (Of v) (q.table == change.table) (flat_map (turned_root (around_for q) q.filter change) (linked_around (around_for q) change (rows_of table after))) h e) in
        drops_both (around_for q) q.filter row change.old change.new both.0 both.1))

    kept_answer : (q : Query Link) → is_some (around_of (linked_query layouts table q).grouping) ≡ true
        → has root_cmp (Of v) (turned_by after change (linked_query layouts table q) (around_of (linked_query layouts table q).grouping)) ≡ false → linked_answer after row q ≡ linked_answer state row q
    kept_answer q = case (has_slots q.filter) (q.grouping.inner == key_of q.table layouts)
      where
        case : (a b : Bool) → is_some (around_of (if a then (if b then ByKey q.grouping else PerRow (around_for q)) else Linked q.grouping)) ≡ true
            → has root_cmp (Of v) (turned_by after change (linked_query layouts table q) (around_of (if a then (if b then ByKey q.grouping else PerRow (around_for q)) else Linked q.grouping))) ≡ false → linked_answer after row q ≡ linked_answer state row q
        case true true s h = absurd (let f : false ≡ true = s in cc)
        case true false s h = same_answer q h
        case false b s h = absurd (let f : false ≡ true = s in cc)

    kept_answers : (qs : List (Query Link)) → AreAllAround (map (linked_query layouts table) qs) → has root_cmp (Of v) (turned_roots after change (map (linked_query layouts table) qs)) ≡ false
        → map (linked_answer after row) qs ≡ map (linked_answer state row) qs
    kept_answers [] all h = refl
    kept_answers (q ∷ qs) all h =
        let P : Query Grouping → Type 0 = λ s. is_some (around_of s.grouping) ≡ true in
        let mine : List Root = turned_by after change (linked_query layouts table q) (around_of (linked_query layouts table q).grouping) in
        let others : List Root = turned_roots after change (map (linked_query layouts table) qs) in
        let parts : (has root_cmp (Of v) mine ≡ false) × (has root_cmp (Of v) others ≡ false) = has-neither root_cmp (Of v) mine others h in
        ap (λ a. a ∷ map (linked_answer after row) qs) (kept_answer q (All-head P (linked_query layouts table q) (map (linked_query layouts table) qs) all) parts.0)
        ∙ ap (λ rest. linked_answer state row q ∷ rest) (kept_answers qs (All-tail P (linked_query layouts table q) (map (linked_query layouts table) qs) all) parts.1)

  kept_row : (c : Cond) (queries : List (Query Link)) (v : Value) → AreAllAround (map (linked_query layouts table) queries) → has root_cmp (Of v) (turned_roots after change (map (linked_query layouts table) queries)) ≡ false
      → (o : Option RowValues) → row_at key v (rows_of table after) ≡ o → is_bad_row after c queries o ≡ is_bad_row state c queries o
  kept_row c queries v all h None e = refl
  kept_row c queries v all h (Some row) e = ap (λ slots. keeps row slots c) (kept_answers v row e queries all h)

  -- the same row with the same totals has the same truth
  pub turned_keep : (c : Cond) (queries : List (Query Link)) → AreAllAround (map (linked_query layouts table) queries)
      → KeepOthers layouts (ByRow table c queries) state after (turned_roots after change (map (linked_query layouts table) queries) ++ (if table == change.table then Of change.key ∷ [] else []))
  turned_keep c queries all Whole h = refl
  turned_keep c queries all (Of v) h =
      let turned : List Root = turned_roots after change (map (linked_query layouts table) queries) in
      let own : List Root = if table == change.table then Of change.key ∷ [] else [] in
      let parts : (has root_cmp (Of v) turned ≡ false) × (has root_cmp (Of v) own ≡ false) = has-neither root_cmp (Of v) turned own (sym (is_touched-has (Of v) (turned ++ own)) ∙ h) in
      kept_row c queries v all parts.0 (row_at key v (rows_of table after)) refl
      ∙ ap (is_bad_row state c queries) (row-same layouts change state is in_order table v parts.1)

-- so for a form and the tables after the change
pub keep_turned : (layouts : List Layout) (change : Change) (before after : State) (form : Form) (table : ℕ) (c : Cond) (queries : List (Query Link)) (turned touched : List Root) → form ≡ ByRow table c queries
    → IsOrdered layouts before → IsChangeOf layouts change before → after ≡ state_after layouts change before
    → AreAllAround (summaries_of layouts form) → turned ≡ turned_roots after change (summaries_of layouts form) → touched ≡ turned ++ (if table == change.table then Of change.key ∷ [] else [])
    → KeepOthers layouts form before after touched
keep_turned layouts change before after form table c queries turned touched e in_order is now = rw (e, now) (λ all t own.
    subst (KeepOthers layouts (ByRow table c queries) before (state_after layouts change before)) (sym (own ∙ ap (λ roots. roots ++ (if table == change.table then Of change.key ∷ [] else [])) t))
    (turned_keep layouts change before table is in_order c queries all))
