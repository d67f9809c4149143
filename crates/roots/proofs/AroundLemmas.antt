-- The totals for rows around stay right through a change.
use Rattle.std.proofs.Common.{◌≡◌, ◌≢◌, ℕ, ◌+◌, ◌<◌, ◌≤◌, ◌^◌, Bool, true, false, cond, zero, suc, inl, inr, List, [], ◌∷◌, ◌++◌, Option, Some, None, drop, map, length, take, get_or, refl, sym, ◌∙◌, ap, subst, ⊎_elim, arith, append_assoc}
use Rattle.std.specs.Prelude.{◌⊎◌, ◌&&◌, ◌||◌, All, filter, if◌then◌else◌}
use Rattle.std.specs.Option.{option_map}
use Rattle.std.specs.Ordering.{eq_by_cmp, is_eq, ordering_reverse}
use Rattle.std.specs.declared.cmp.Ordering.TheVariants.{Equal, Greater}
use Rattle.std.proofs.lemmas.Cmp.{tied_itself}
use Rattle.std.proofs.lemmas.List.{drop_more, get_or-map, length-map, length-take, take_more}
use Rattle.std.proofs.lemmas.List.Elements.{All-take, filter_agree}
use Rattle.value.specs.declared.values.Value.{Value}
use Rattle.value.specs.declared.values.Value.TheVariants.{Null, Int, Text}
use Rattle.value.specs.declared.values.Root.TheVariants.{Of}
use Rattle.value.specs.ValueOrder.{value_cmp, root_cmp}
use Rattle.value.specs.Ordered.{by_order, AreAbove, HasKey, HoldsOf, IsAscending}
use Rattle.value.proofs.OrderedLists.{at-put, equal_from, has}
use Rattle.value.proofs.ValueOrders.{value_cmp_total, value_exact}
use Rattle.table.specs.declared.aggregates.Aggregate.{Aggregate}
use Rattle.table.specs.declared.conds.Cond.{Cond}
use Rattle.table.specs.Aggregates.{is_there}
use Rattle.table.specs.Bounds.{IsSmallRow}
use Rattle.table.specs.Eval.{keeps}
use Rattle.table.specs.Rows.{RowValues, value_in, row_at, put_row}
use Rattle.assertion.specs.declared.queries.Query.{Query}
use Rattle.assertion.specs.declared.queries.Link.{Link}
use Rattle.assertion.specs.Candidates.{group_candidates}
use Rattle.assertion.specs.Meaning.{links}
use Rattle.assertion.proofs.BadRoots.{passes, has-row}
use Rattle.assertion.proofs.KeptTruth.{equals-there}
use Rattle.assertion.proofs.ListLemmas.{Drops, filter-filter, filter-put}
use Rattle.groups.specs.declared.members.Member.{Member}
use Rattle.groups.specs.Answers.{value_for}
use Rattle.groups.specs.Members.{is_placed, member_of, members_of}
use Rattle.groups.specs.Totals.{AreTotalsOf, AreWithin, Entries, HaveOneMore, IsChange, IsOneMore, IsWithin, Members}
use Rattle.groups.proofs.EntryLemmas.{AreTotalsOf-along}
use Rattle.groups.proofs.FilteredKeys.{ascending-front, put-last}
use Rattle.groups.proofs.RowLemmas.{filtered_within, members_change}
use Rattle.roots.specs.declared.grouped.Around.{Around}
use Rattle.roots.specs.declared.grouped.Grouping.{Grouping}
use Rattle.roots.specs.Around.{IsTurn, around_members, is_equal, is_linked_to, place_beside, value_in_one, values_beside}
use Rattle.roots.specs.Summaries.{rows_beside, rows_beside_one}

-- ---- equal values

itself : (v : Value) → eq_by_cmp value_cmp v v ≡ true
itself v = ap is_eq (tied_itself value_cmp_total v)

-- NULL is equal to nothing
pub null_unequal : (w : Value) → is_equal Null w ≡ false
null_unequal Null = refl
null_unequal (Int n) = refl
null_unequal (Text t) = refl

-- values of which an equality is true are the same
equal_same : (v w : Value) → is_equal v w ≡ true → v ≡ w
equal_same v w h = value_exact v w (equal_from (value_cmp v w) (both (is_there w) (eq_by_cmp value_cmp v w) (sym (equals-there v w) ∙ h)))
  where
    both : (a b : Bool) → a && b ≡ true → b ≡ true
    both true b e = e
    both false b e = absurd (let f : false ≡ true = e in cc)

-- an equality is the same from the other side
pub equal_flip : (v w : Value) → is_equal v w ≡ is_equal w v
equal_flip v w = case (is_equal v w) (is_equal w v) refl refl
  where
    case : (a b : Bool) → is_equal v w ≡ a → is_equal w v ≡ b → is_equal v w ≡ is_equal w v
    case true b e f = let same : v ≡ w = equal_same v w e in ap (is_equal v) (sym same) ∙ ap (λ x. is_equal x v) same
    case false true e f = let same : w ≡ v = equal_same w v f in ap (is_equal v) same ∙ ap (λ x. is_equal x v) (sym same)
    case false false e f = e ∙ sym f

-- no row has a NULL equal to it
pub none_equal : (column : ℕ) (rows : List RowValues) → filter (λ row. is_equal Null (value_in column row)) rows ≡ []
none_equal column [] = refl
none_equal column (row ∷ rows) =
    let rest : List RowValues = filter (λ row. is_equal Null (value_in column row)) rows in
    ap (λ b. cond b (row ∷ rest) rest) (null_unequal (value_in column row)) ∙ none_equal column rows

-- those of the linked rows that are kept are the rows beside
pub kept_are : (link : Link) (restriction : Cond) (rows : List RowValues) (row : RowValues)
    → filter (λ linked. keeps linked row restriction) (filter (λ linked. links link row linked) rows) ≡ rows_beside link restriction rows row
kept_are link restriction rows row = filter-filter (λ linked. keeps linked row restriction) (λ linked. links link row linked) rows

-- ---- the rows that are lent, one after the other

module _ {X : Type 0} (f : X → RowValues) (xs : List X) (i : ℕ) (x : X) (h : i < length xs) (is : x ≡ get_or xs i x) where
  within_rows : i < length (map f xs)
  within_rows = subst (λ n. i < n) (sym (length-map xs f)) h

  item_is : f x ≡ get_or (map f xs) i (f x)
  item_is = ap f is ∙ sym (get_or-map f xs i x (f x) h)

  -- what is true of each row is true of this one
  pub row_has : (P : RowValues → Type 0) → All P (map f xs) → P (f x)
  row_has P all = subst P (sym item_is) (all i (f x) within_rows)

  -- it is the first of those that are left, and the next of those before
  pub first_left : drop i (map f xs) ≡ f x ∷ drop (i + 1) (map f xs)
  first_left = drop_more (map f xs) i (f x) within_rows ∙ ap (λ row. row ∷ drop (i + 1) (map f xs)) (sym item_is)

  pub next_taken : take (i + 1) (map f xs) ≡ take i (map f xs) ++ f x ∷ []
  next_taken = take_more (map f xs) i (f x) within_rows ∙ ap (λ row. take i (map f xs) ++ row ∷ []) (sym item_is)

pub none_left : {X : Type 0} (i : ℕ) (xs : List X) → length xs ≤ i → drop i xs ≡ []
none_left zero [] h = refl
none_left zero (x ∷ xs) h = absurd (omega (arith, h))
none_left (suc i) [] h = refl
none_left (suc i) (x ∷ xs) h = none_left i xs (omega (arith, h))

pub all_taken : {X : Type 0} (i : ℕ) (xs : List X) → length xs ≤ i → take i xs ≡ xs
all_taken zero [] h = refl
all_taken zero (x ∷ xs) h = absurd (omega (arith, h))
all_taken (suc i) [] h = refl
all_taken (suc i) (x ∷ xs) h = ap (λ ys. x ∷ ys) (all_taken i xs (omega (arith, h)))

-- the first of some rows within bounds are so
pub taken_within : (p : RowValues → Bool) (a : Aggregate) (n : ℕ) (rows : List RowValues) → length rows < 2 ^ 63 → All IsSmallRow rows → IsWithin (map (value_for a) (filter p (take n rows)))
taken_within p a n rows short small = filtered_within p a (take n rows) (omega (arith, short, length-take n rows)) (All-take IsSmallRow n rows small)

-- ---- rows in the order of a key

module _ (key : ℕ) where
  -- what stands at a key with one row more behind the others
  pub at_more : (v : Value) (done rest : List RowValues) (row : RowValues) → IsAscending value_cmp (value_in key) (done ++ row ∷ rest)
      → row_at key v (done ++ row ∷ []) ≡ cond (eq_by_cmp value_cmp v (value_in key row)) (Some row) (row_at key v done)
  at_more v done rest row s =
      ap (row_at key v) (sym (put-last value_cmp_total (value_in key) done row rest s))
      ∙ at-put value_cmp_total (value_in key) (value_in key row) (Some row) done refl (ascending-front value_cmp (value_in key) done (row ∷ rest) s) v

  -- each of these stands under its key among the rows, passes a test, and has another key than those behind it
  pub StandAll : (RowValues → Bool) → List RowValues → List RowValues → Type 0
  StandAll p rows [] = Unit {0}
  StandAll p rows (x ∷ xs) = ((row_at key (value_in key x) rows ≡ Some x) × (p x ≡ true)) × ((has root_cmp (Of (value_in key x)) (group_candidates key xs) ≡ false) × StandAll p rows xs)

  module _ (p : RowValues → Bool) where
    further : (y : RowValues) (rows xs : List RowValues) → AreAbove value_cmp (value_in key) (value_in key y) xs → StandAll p rows xs → StandAll p (y ∷ rows) xs
    unfolding StandAll
    further y rows [] above s = tt
    further y rows (x ∷ xs) above s =
        let greater : value_cmp (value_in key x) (value_in key y) ≡ Greater = value_cmp_total.antisymm (value_in key x) (value_in key y) ∙ ap ordering_reverse above.0 in
        ((ap (λ c. by_order c None (Some y) (row_at key (value_in key x) rows)) greater ∙ s.0.0, s.0.1), (s.1.0, further y rows xs above.1 s.1.1))

    above_kept : (v : Value) (xs : List RowValues) → AreAbove value_cmp (value_in key) v xs → AreAbove value_cmp (value_in key) v (filter p xs)
    above_kept v [] a = tt
    above_kept v (x ∷ xs) a = elim (p x) as (λ b. AreAbove value_cmp (value_in key) v (cond b (x ∷ filter p xs) (filter p xs))) [
      | true ↦ (a.0, above_kept v xs a.1)
      | false ↦ above_kept v xs a.1
    ]

    none_has : (v : Value) (xs : List RowValues) → AreAbove value_cmp (value_in key) v xs → has root_cmp (Of v) (group_candidates key xs) ≡ false
    none_has v [] a = refl
    none_has v (x ∷ xs) a = ap (λ c. is_eq c || has root_cmp (Of v) (group_candidates key xs)) a.0 ∙ none_has v xs a.1

    -- the rows that pass, of rows in order
    pub stand_kept : (rows : List RowValues) → IsAscending value_cmp (value_in key) rows → StandAll p rows (filter p rows)
    unfolding StandAll
    stand_kept [] s = tt
    stand_kept (y ∷ ys) s =
        let rest : StandAll p (y ∷ ys) (filter p ys) = further y ys (filter p ys) (above_kept (value_in key y) ys s.0) (stand_kept ys s.1) in
        let here : row_at key (value_in key y) (y ∷ ys) ≡ Some y = ap (λ c. by_order c None (Some y) (row_at key (value_in key y) ys)) (tied_itself value_cmp_total (value_in key y)) in
        let case : (b : Bool) → p y ≡ b → StandAll p (y ∷ ys) (cond b (y ∷ filter p ys) (filter p ys)) = λ b. elim b as (λ b. p y ≡ b → StandAll p (y ∷ ys) (cond b (y ∷ filter p ys) (filter p ys))) [
          | true ↦ λ e. ((here, e), (none_has (value_in key y) (filter p ys) (above_kept (value_in key y) ys s.0), rest))
          | false ↦ λ e. rest
        ]
        in case (p y) refl

    -- of those that are left
    pub stand_left : (n : ℕ) (rows xs : List RowValues) → StandAll p rows xs → StandAll p rows (drop n xs)
    unfolding StandAll
    stand_left zero rows xs s = s
    stand_left (suc n) rows [] s = tt
    stand_left (suc n) rows (x ∷ xs) s = stand_left n rows xs s.1.1

    -- of the first of them
    pub stand_first : (x : RowValues) (rows xs : List RowValues) → StandAll p rows (x ∷ xs) → ((row_at key (value_in key x) rows ≡ Some x) × (p x ≡ true)) × (has root_cmp (Of (value_in key x)) (group_candidates key xs) ≡ false)
    unfolding StandAll
    stand_first x rows xs s = (s.0, s.1.0)

-- ---- one row around

module _ (around : Around) (q : Query Grouping) (row : RowValues) where
  abbrev group : Value
  group = value_in around.key row

  abbrev placed : RowValues → Option Value
  placed = place_beside around q.filter row

  -- the members of its group are the rows beside it
  beside_are : (rows : List RowValues) → members_of placed (value_for q.aggregate) rows group ≡ values_beside around q rows row
  beside_are rows =
      ap (map (value_for q.aggregate))
      (filter_agree (λ linked. is_placed group (placed linked)) (λ linked. links around.link row linked && keeps linked row q.filter) (λ linked. mine (links around.link row linked && keeps linked row q.filter)) rows)
    where
      mine : (b : Bool) → is_placed group (if b then Some group else None) ≡ b
      mine true = itself group
      mine false = refl

  -- a member goes to its group
  member_here : (o : Option RowValues) → HoldsOf (λ (m : Member). m.group ≡ group) (member_of placed (value_for q.aggregate) o)
  member_here None = tt
  member_here (Some linked) = case (links around.link row linked && keeps linked row q.filter)
    where
      case : (b : Bool) → HoldsOf (λ (m : Member). m.group ≡ group) (option_map (λ g. record { group = g; value = value_for q.aggregate linked }) (if b then Some group else None))
      case true = refl
      case false = tt

  -- one row more or less of one group, in other groups that have that one
  one_more : (o : Option Member) (fewer more less all : Members) → HoldsOf (λ (m : Member). m.group ≡ group) o → less group ≡ fewer group → all group ≡ more group
      → ((v : Value) → eq_by_cmp value_cmp v group ≡ false → all v ≡ less v) → HaveOneMore o fewer more → HaveOneMore o less all
  one_more None fewer more less all g f m elsewhere h = λ v. case v (eq_by_cmp value_cmp v group) refl
    where
      case : (v : Value) (b : Bool) → eq_by_cmp value_cmp v group ≡ b → all v ≡ less v
      case v true e =
          let same : v ≡ group = value_exact v group (equal_from (value_cmp v group) e) in
          ap all same ∙ m ∙ h group ∙ sym f ∙ ap less (sym same)
      case v false e = elsewhere v e
  one_more (Some m) fewer more less all g f a elsewhere h = record {
    here = subst (λ u. IsOneMore m.value (less u) (all u)) (sym g)
        (subst (λ xs. IsOneMore m.value xs (all group)) (sym f) (subst (λ xs. IsOneMore m.value (fewer group) xs) (sym a) (subst (λ u. IsOneMore m.value (fewer u) (more u)) g h.here)));
    elsewhere = λ v e. elsewhere v (subst (λ u. eq_by_cmp value_cmp v u ≡ false) g e);
  }

  -- groups in which that one turns with the rows beside it change by what the old and the new row are to it
  module _ (key : ℕ) (k : Value) (old new : Option RowValues) (rows : List RowValues) (stands : row_at key k rows ≡ old) (before after : Members)
      (was : before group ≡ values_beside around q rows row) (is : after group ≡ values_beside around q (put_row key k new rows) row) (elsewhere : (v : Value) → eq_by_cmp value_cmp v group ≡ false → after v ≡ before v) where
    abbrev own : IsChange (member_of placed (value_for q.aggregate) new) (member_of placed (value_for q.aggregate) old) (members_of placed (value_for q.aggregate) rows) (members_of placed (value_for q.aggregate) (put_row key k new rows))
    own = subst (λ o. IsChange (member_of placed (value_for q.aggregate) new) (member_of placed (value_for q.aggregate) o) (members_of placed (value_for q.aggregate) rows) (members_of placed (value_for q.aggregate) (put_row key k new rows))) stands
        (members_change placed (value_for q.aggregate) key k new rows)

    abbrev middle : Members
    middle = λ v. cond (eq_by_cmp value_cmp v group) (own.between group) (before v)

    middle_here : middle group ≡ own.between group
    middle_here = ap (λ b. cond b (own.between group) (before group)) (itself group)

    middle_other : (v : Value) → eq_by_cmp value_cmp v group ≡ false → middle v ≡ before v
    middle_other v e = ap (λ b. cond b (own.between group) (before v)) e

    pub turned : IsChange (member_of placed (value_for q.aggregate) new) (member_of placed (value_for q.aggregate) old) before after
    turned = record {
      between = middle;
      gone = one_more (member_of placed (value_for q.aggregate) old) own.between (members_of placed (value_for q.aggregate) rows) middle before (member_here old) middle_here
          (was ∙ sym (beside_are rows)) (λ v e. sym (middle_other v e)) own.gone;
      come = one_more (member_of placed (value_for q.aggregate) new) own.between (members_of placed (value_for q.aggregate) (put_row key k new rows)) middle after (member_here new) middle_here
          (is ∙ sym (beside_are (put_row key k new rows))) (λ v e. elsewhere v e ∙ sym (middle_other v e)) own.come;
    }

-- ---- the rows around that have a value in the column of the link, one after the other

module _ (around : Around) (q : Query Grouping) (outer : List RowValues) (value : Value) (rows changed : List RowValues) (before after : Members) (turn : IsTurn around q outer value rows changed before after) where
  -- those that are left have the groups that they had
  abbrev pub midway : List RowValues → Members
  midway left = λ v. cond (has root_cmp (Of v) (group_candidates around.key left)) (before v) (after v)

  abbrev pub test : RowValues → Bool
  test row = is_equal value (value_in around.link.outer row)

  linked_passes : (o : Option RowValues) → passes test o ≡ is_linked_to around value o
  linked_passes None = refl
  linked_passes (Some row) = refl

  -- at first all are left
  pub midway_first : IsAscending value_cmp (value_in around.key) outer → (v : Value) → midway (filter test outer) v ≡ before v
  midway_first s v =
      let is : has root_cmp (Of v) (group_candidates around.key (filter test outer)) ≡ is_linked_to around value (row_at around.key v outer) = has-row around.key test v outer s ∙ linked_passes (row_at around.key v outer) in
      ap (λ b. cond b (before v) (after v)) is ∙ case (is_linked_to around value (row_at around.key v outer)) refl
    where
      case : (b : Bool) → is_linked_to around value (row_at around.key v outer) ≡ b → cond b (before v) (after v) ≡ before v
      case true e = refl
      case false e = turn.elsewhere v e

  -- within bounds
  pub midway_within : (left : List RowValues) → AreWithin (midway left)
  midway_within left v = elim (has root_cmp (Of v) (group_candidates around.key left)) as (λ b. IsWithin (cond b (before v) (after v))) [ true ↦ turn.within v | false ↦ turn.within_after v ]

  module _ (row : RowValues) (left : List RowValues) (stands : StandAll around.key test outer (row ∷ left)) where
    first : ((row_at around.key (value_in around.key row) outer ≡ Some row) × (test row ≡ true)) × (has root_cmp (Of (value_in around.key row)) (group_candidates around.key left) ≡ false)
    first = stand_first around.key test row outer left stands

    -- the next one has the group that it had, and then the one that it gets
    pub midway_old : midway (row ∷ left) (value_in around.key row) ≡ values_beside around q rows row
    midway_old =
        let g : Value = value_in around.key row in
        ap (λ b. cond (b || has root_cmp (Of g) (group_candidates around.key left)) (before g) (after g)) (itself g) ∙ turn.old g row first.0.0 first.0.1

    pub midway_new : midway left (value_in around.key row) ≡ values_beside around q changed row
    midway_new =
        let g : Value = value_in around.key row in
        ap (λ b. cond b (before g) (after g)) first.1 ∙ turn.new g row first.0.0 first.0.1

    -- the others stay
    pub midway_other : (v : Value) → eq_by_cmp value_cmp v (value_in around.key row) ≡ false → midway left v ≡ midway (row ∷ left) v
    midway_other v e = sym (ap (λ b. cond (b || has root_cmp (Of v) (group_candidates around.key left)) (before v) (after v)) e)

-- ---- the rows around that have the old row's value, and then those that have the new row's

module _ (around : Around) (q : Query Grouping) (outer : List RowValues) (key : ℕ) (k : Value) (old new : Option RowValues) (rows : List RowValues) (stands : row_at key k rows ≡ old)
    (within : AreWithin (around_members around q outer rows)) (within_after : AreWithin (around_members around q outer (put_row key k new rows))) where
  abbrev was : Value
  was = value_in_one around.link.inner old

  abbrev becomes : Value
  becomes = value_in_one around.link.inner new

  abbrev made : List RowValues
  made = put_row key k new rows

  -- the groups where those of the old row's value have turned
  abbrev pub halfway_at : Option RowValues → List Value
  halfway_at None = []
  halfway_at (Some row) = cond (is_equal was (value_in around.link.outer row)) (values_beside around q made row) (values_beside around q rows row)

  abbrev pub halfway : Members
  halfway = λ v. halfway_at (row_at around.key v outer)

  -- a row around to which neither is linked has the same rows beside it
  neither : (row : RowValues) → is_equal was (value_in around.link.outer row) ≡ false → is_equal becomes (value_in around.link.outer row) ≡ false → values_beside around q made row ≡ values_beside around q rows row
  neither row e f =
      ap (map (value_for q.aggregate)) (filter-put value_cmp (value_in key) (λ linked. links around.link row linked && keeps linked row q.filter) k new rows
      (subst (Drops (λ linked. links around.link row linked && keeps linked row q.filter)) (sym stands) (drops old e)) (drops new f))
    where
      drops : (o : Option RowValues) → is_equal (value_in_one around.link.inner o) (value_in around.link.outer row) ≡ false → Drops (λ linked. links around.link row linked && keeps linked row q.filter) o
      drops None h = tt
      drops (Some linked) h = ap (λ b. b && keeps linked row q.filter) (equal_flip (value_in around.link.outer row) (value_in around.link.inner linked) ∙ h)

  either : (o : Option RowValues) → (halfway_at o ≡ map (value_for q.aggregate) (rows_beside_one around.link q.filter rows o)) ⊎ (halfway_at o ≡ map (value_for q.aggregate) (rows_beside_one around.link q.filter made o))
  either None = inl refl
  either (Some row) = elim (is_equal was (value_in around.link.outer row)) as (λ b.
      (cond b (values_beside around q made row) (values_beside around q rows row) ≡ values_beside around q rows row) ⊎ (cond b (values_beside around q made row) (values_beside around q rows row) ≡ values_beside around q made row)) [
        | true ↦ inr refl
        | false ↦ inl refl
      ]

  halfway_within : AreWithin halfway
  halfway_within v = ⊎_elim (λ e. subst IsWithin (sym e) (within v)) (λ e. subst IsWithin (sym e) (within_after v)) (either (row_at around.key v outer))

  pub first_turn : IsTurn around q outer was rows made (around_members around q outer rows) halfway
  first_turn = record {
    elsewhere = λ v e. unlinked (row_at around.key v outer) e;
    old = λ v row e l. ap (λ o. map (value_for q.aggregate) (rows_beside_one around.link q.filter rows o)) e;
    new = λ v row e l. ap halfway_at e ∙ ap (λ b. cond b (values_beside around q made row) (values_beside around q rows row)) l;
    within = within;
    within_after = halfway_within;
  }
    where
      unlinked : (o : Option RowValues) → is_linked_to around was o ≡ false → halfway_at o ≡ map (value_for q.aggregate) (rows_beside_one around.link q.filter rows o)
      unlinked None e = refl
      unlinked (Some row) e = ap (λ b. cond b (values_beside around q made row) (values_beside around q rows row)) e

  -- where the two rows have one value that is all
  rest_same : was ≡ becomes → (o : Option RowValues) → map (value_for q.aggregate) (rows_beside_one around.link q.filter made o) ≡ halfway_at o
  rest_same same None = refl
  rest_same same (Some row) = case (is_equal was (value_in around.link.outer row)) refl
    where
      case : (b : Bool) → is_equal was (value_in around.link.outer row) ≡ b → values_beside around q made row ≡ cond b (values_beside around q made row) (values_beside around q rows row)
      case true e = refl
      case false e = neither row e (subst (λ v. is_equal v (value_in around.link.outer row) ≡ false) same e)

  pub one_value : (es : Entries) → was ≡ becomes → AreTotalsOf q.aggregate halfway es → AreTotalsOf q.aggregate (around_members around q outer made) es
  one_value es same t = AreTotalsOf-along q.aggregate halfway (around_members around q outer made) es (λ v. rest_same same (row_at around.key v outer)) t

  -- else those of the new row's value turn
  pub second_turn : value_cmp was becomes ≢ Equal → IsTurn around q outer becomes rows made halfway (around_members around q outer made)
  second_turn other = record {
    elsewhere = λ v e. unlinked (row_at around.key v outer) e;
    old = λ v row e l. ap halfway_at e ∙ ap (λ b. cond b (values_beside around q made row) (values_beside around q rows row)) (apart row l (is_equal was (value_in around.link.outer row)) refl);
    new = λ v row e l. ap (λ o. map (value_for q.aggregate) (rows_beside_one around.link q.filter made o)) e;
    within = halfway_within;
    within_after = within_after;
  }
    where
      unlinked : (o : Option RowValues) → is_linked_to around becomes o ≡ false → map (value_for q.aggregate) (rows_beside_one around.link q.filter made o) ≡ halfway_at o
      unlinked None e = refl
      unlinked (Some row) f = case (is_equal was (value_in around.link.outer row)) refl
        where
          case : (b : Bool) → is_equal was (value_in around.link.outer row) ≡ b → values_beside around q made row ≡ cond b (values_beside around q made row) (values_beside around q rows row)
          case true e = refl
          case false e = neither row e f

      apart : (row : RowValues) → is_equal becomes (value_in around.link.outer row) ≡ true → (b : Bool) → is_equal was (value_in around.link.outer row) ≡ b → b ≡ false
      apart row l true e = absurd (other (ap (λ v. value_cmp was v) (equal_same becomes (value_in around.link.outer row) l ∙ sym (equal_same was (value_in around.link.outer row) e)) ∙ tied_itself value_cmp_total was))
      apart row l false e = refl

-- ---- the rows around themselves

module _ (around : Around) (q : Query Grouping) (rows : List RowValues) where
  -- with one more behind the others
  pub record AreRowsDone (all left : List RowValues) (made : Entries) : Type 0 where
    pub done : List RowValues
    pub split : all ≡ done ++ left
    pub totals : AreTotalsOf q.aggregate (around_members around q done rows) made

  pub rows_done_more : (all left rest : List RowValues) (row : RowValues) (es more : Entries) → left ≡ row ∷ rest → IsAscending value_cmp (value_in around.key) all
      → ((before after : Members) → after (value_in around.key row) ≡ values_beside around q rows row → ((v : Value) → eq_by_cmp value_cmp v (value_in around.key row) ≡ false → after v ≡ before v)
      → AreTotalsOf q.aggregate before es → AreTotalsOf q.aggregate after more) → AreRowsDone all left es → AreRowsDone all rest more
  rows_done_more all left rest row es more e s step d =
      let g : Value = value_in around.key row in
      let split : all ≡ d.done ++ row ∷ rest = d.split ∙ ap (λ xs. d.done ++ xs) e in
      let in_order : IsAscending value_cmp (value_in around.key) (d.done ++ row ∷ rest) = subst (IsAscending value_cmp (value_in around.key)) split s in
      let at : (v : Value) → row_at around.key v (d.done ++ row ∷ []) ≡ cond (eq_by_cmp value_cmp v g) (Some row) (row_at around.key v d.done) = λ v. at_more around.key v d.done rest row in_order in
      let group_of : Option RowValues → List Value = λ o. map (value_for q.aggregate) (rows_beside_one around.link q.filter rows o) in
      record {
        done = d.done ++ row ∷ [];
        split = split ∙ sym (append_assoc d.done (row ∷ []) rest);
        totals = step (around_members around q d.done rows) (around_members around q (d.done ++ row ∷ []) rows)
            (ap group_of (at g ∙ ap (λ b. cond b (Some row) (row_at around.key g d.done)) (itself g)))
            (λ v other. ap group_of (at v ∙ ap (λ b. cond b (Some row) (row_at around.key v d.done)) other))
            d.totals;
      }

  -- with a change of one of them
  module _ (k : Value) (new : Option RowValues) (outer : List RowValues) (keyed : HasKey value_cmp (value_in around.key) k new) (s : IsAscending value_cmp (value_in around.key) outer) where
    pub at_changed : (v : Value) → row_at around.key v (put_row around.key k new outer) ≡ cond (eq_by_cmp value_cmp v k) new (row_at around.key v outer)
    at_changed v = at-put value_cmp_total (value_in around.key) k new outer keyed s v

    pub changed_here : around_members around q (put_row around.key k new outer) rows k ≡ map (value_for q.aggregate) (rows_beside_one around.link q.filter rows new)
    changed_here = ap (λ o. map (value_for q.aggregate) (rows_beside_one around.link q.filter rows o)) (at_changed k ∙ ap (λ b. cond b new (row_at around.key k outer)) (itself k))

    pub changed_other : (v : Value) → eq_by_cmp value_cmp v k ≡ false → around_members around q (put_row around.key k new outer) rows v ≡ around_members around q outer rows v
    changed_other v e = ap (λ o. map (value_for q.aggregate) (rows_beside_one around.link q.filter rows o)) (at_changed v ∙ ap (λ b. cond b new (row_at around.key v outer)) e)
