-- The groups of a table's rows change by the row that goes and the row that comes, and are within bounds where the rows are.
use Rattle.std.proofs.Common.{◌≡◌, ℕ, zero, suc, ◌<◌, ◌≤◌, ◌^◌, Bool, true, false, cond, List, [], ◌∷◌, ◌++◌, Option, Some, None, map, length, refl, sym, ◌∙◌, ap, arith, append-nil}
use Rattle.std.specs.Prelude.{All, filter}
use Rattle.std.specs.Option.{option_map}
use Rattle.std.proofs.lemmas.List.{length-map, map-append}
use Rattle.std.proofs.lemmas.List.Elements.{All-nil, All-cons, All-head, All-tail, All-filter, filter-append}
use Rattle.std.proofs.lemmas.List.Sums.{length-filter, count_by-le-length}
use Rattle.std.proofs.lemmas.Cmp.{tied_itself}
use Rattle.std.specs.Ordering.{eq_by_cmp}
use Rattle.std.specs.declared.cmp.Ordering.{Ordering}
use Rattle.std.specs.declared.cmp.Ordering.TheVariants.{Less, Equal, Greater}
use Rattle.value.specs.declared.values.Value.{Value}
use Rattle.value.specs.ValueOrder.{value_cmp}
use Rattle.value.specs.Ordered.{by_order, at, put}
use Rattle.value.proofs.ValueOrders.{value_cmp_total}
use Rattle.table.specs.declared.aggregates.Aggregate.{Aggregate}
use Rattle.table.specs.declared.aggregates.Aggregate.TheVariants.{CountRows, Count, CountDistinct, Sum, SumDistinct, Min, Max}
use Rattle.table.specs.Rows.{RowValues, value_in, row_at, put_row}
use Rattle.table.specs.Bounds.{IsSmallRow}
use Rattle.table.specs.Slots.{magnitude}
use Rattle.groups.specs.Answers.{value_for}
use Rattle.groups.specs.Members.{is_placed, rows_in, members_of, member_of}
use Rattle.groups.specs.Totals.{Members, IsOneMore, HaveOneMore, IsChange, AreSmall, AreWithin, IsWithin}

-- one more before the same
one_more_past : {X : Type 0} (x y : X) (xs ys : List X) → IsOneMore x xs ys → IsOneMore x (y ∷ xs) (y ∷ ys)
one_more_past x y xs ys m = record { front = y ∷ m.front; back = m.back; without = ap (λ zs. y ∷ zs) m.without; with_it = ap (λ zs. y ∷ zs) m.with_it }

module _ {X K : Type 0} (R : K → K → Ordering) (key : X → K) (k : K) where
  -- what stands at a key goes
  goes : (x : X) (xs : List X) → at R key k xs ≡ Some x → IsOneMore x (put R key k None xs) xs
  goes x [] e = cc
  goes x (y ∷ ys) e =
      let cases : (c : Ordering) → by_order c None (Some y) (at R key k ys) ≡ Some x → IsOneMore x (by_order c (y ∷ ys) ys (y ∷ put R key k None ys)) (y ∷ ys)
      = λ c. elim c as (λ c. by_order c None (Some y) (at R key k ys) ≡ Some x → IsOneMore x (by_order c (y ∷ ys) ys (y ∷ put R key k None ys)) (y ∷ ys)) [
        | Less ↦ λ e. cc
        | Equal ↦ λ e. let same : y ≡ x = cc in record { front = []; back = ys; without = refl; with_it = ap (λ z. z ∷ ys) same }
        | Greater ↦ λ e. one_more_past x y (put R key k None ys) ys (goes x ys e)
      ]
      in cases (R k (key y)) e

  -- where nothing stands nothing goes
  stays : (xs : List X) → at R key k xs ≡ None → xs ≡ put R key k None xs
  stays [] e = refl
  stays (y ∷ ys) e =
      let cases : (c : Ordering) → by_order c None (Some y) (at R key k ys) ≡ None → y ∷ ys ≡ by_order c (y ∷ ys) ys (y ∷ put R key k None ys)
      = λ c. elim c as (λ c. by_order c None (Some y) (at R key k ys) ≡ None → y ∷ ys ≡ by_order c (y ∷ ys) ys (y ∷ put R key k None ys)) [
        | Less ↦ λ e. refl
        | Equal ↦ λ e. cc
        | Greater ↦ λ e. ap (λ zs. y ∷ zs) (stays ys e)
      ]
      in cases (R k (key y)) e

  -- what is put comes to what is left
  comes : (x : X) (xs : List X) → IsOneMore x (put R key k None xs) (put R key k (Some x) xs)
  comes x [] = record { front = []; back = []; without = refl; with_it = refl }
  comes x (y ∷ ys) =
      elim (R k (key y)) as (λ c. IsOneMore x (by_order c (y ∷ ys) ys (y ∷ put R key k None ys)) (by_order c (x ∷ y ∷ ys) (x ∷ ys) (y ∷ put R key k (Some x) ys))) [
        | Less ↦ record { front = []; back = y ∷ ys; without = refl; with_it = refl }
        | Equal ↦ record { front = []; back = ys; without = refl; with_it = refl }
        | Greater ↦ one_more_past x y (put R key k None ys) (put R key k (Some x) ys) (comes x ys)
      ]

module _ (place : RowValues → Option Value) (value : RowValues → Value) where
  abbrev shown : List RowValues → Members
  shown = members_of place value

  -- a row in the middle, by whether it is of the group
  abbrev middle : Bool → RowValues → List Value → List Value → List Value
  middle b row front back = front ++ cond b (value row ∷ back) back

  split_fewer : (v : Value) (front back : List RowValues) → shown (front ++ back) v ≡ shown front v ++ shown back v
  split_fewer v front back = ap (map value) (filter-append (λ row. is_placed v (place row)) front back) ∙ map-append value (rows_in place front v) (rows_in place back v)

  split_more : (v : Value) (row : RowValues) (front back : List RowValues) → shown (front ++ row ∷ back) v ≡ middle (is_placed v (place row)) row (shown front v) (shown back v)
  split_more v row front back =
      split_fewer v front (row ∷ back)
      ∙ ap (λ vs. shown front v ++ vs) (elim (is_placed v (place row)) as (λ b. map value (cond b (row ∷ rows_in place back v) (rows_in place back v)) ≡ cond b (value row ∷ shown back v) (shown back v)) [ true ↦ refl | false ↦ refl ])

  -- one row more is one member more, if it has a group
  member_more : (row : RowValues) (fewer more : List RowValues) → IsOneMore row fewer more → HaveOneMore (member_of place value (Some row)) (shown fewer) (shown more)
  member_more row fewer more m = case (place row) refl
    where
      tied : (g : Value) → eq_by_cmp value_cmp g g ≡ true
      tied g = rw (tied_itself value_cmp_total g) refl

      without_it : (v : Value) → shown fewer v ≡ shown m.front v ++ shown m.back v
      without_it v = ap (λ rows. shown rows v) m.without ∙ split_fewer v m.front m.back

      with_row : (v : Value) → shown more v ≡ middle (is_placed v (place row)) row (shown m.front v) (shown m.back v)
      with_row v = ap (λ rows. shown rows v) m.with_it ∙ split_more v row m.front m.back

      same : (v : Value) → is_placed v (place row) ≡ false → shown more v ≡ shown fewer v
      same v e = with_row v ∙ ap (λ b. middle b row (shown m.front v) (shown m.back v)) e ∙ sym (without_it v)

      case : (o : Option Value) → place row ≡ o → HaveOneMore (option_map (λ group. record { group = group; value = value row }) o) (shown fewer) (shown more)
      case None e = λ v. same v (ap (is_placed v) e)
      case (Some g) e = let mine : is_placed g (place row) ≡ true = ap (is_placed g) e ∙ tied g in record {
        here = record {
          front = shown m.front g;
          back = shown m.back g;
          without = without_it g;
          with_it = with_row g ∙ ap (λ b. middle b row (shown m.front g) (shown m.back g)) mine;
        };
        elsewhere = λ v other. same v (ap (is_placed v) e ∙ other);
      }

  -- one row more behind the others
  pub members_added : (row : RowValues) (rows : List RowValues) → IsChange (member_of place value (Some row)) None (shown rows) (shown (rows ++ row ∷ []))
  members_added row rows = record {
    between = shown rows;
    gone = λ v. refl;
    come = member_more row rows (rows ++ row ∷ []) (record { front = rows; back = []; without = sym (append-nil rows); with_it = refl });
  }

  module _ (column : ℕ) (key : Value) (rows : List RowValues) where
    gone : (o : Option RowValues) → row_at column key rows ≡ o → HaveOneMore (member_of place value o) (shown (put_row column key None rows)) (shown rows)
    gone None e = λ v. ap (λ list. shown list v) (stays value_cmp (value_in column) key rows e)
    gone (Some row) e = member_more row (put_row column key None rows) rows (goes value_cmp (value_in column) key row rows e)

    come : (o : Option RowValues) → HaveOneMore (member_of place value o) (shown (put_row column key None rows)) (shown (put_row column key o rows))
    come None = λ v. refl
    come (Some row) = member_more row (put_row column key None rows) (put_row column key (Some row) rows) (comes value_cmp (value_in column) key row rows)

  pub members_change : (column : ℕ) (key : Value) (new : Option RowValues) (rows : List RowValues) → IsChange (member_of place value new) (member_of place value (row_at column key rows)) (shown rows) (shown (put_row column key new rows))
  members_change column key new rows = record {
    between = shown (put_row column key None rows);
    gone = gone column key rows (row_at column key rows) refl;
    come = come column key rows new;
  }

abbrev IsSmall : Value → Type 0
IsSmall v = magnitude v ≤ 10 ^ 15

column_small : (row : RowValues) (c : ℕ) → IsSmallRow row → IsSmall (value_in c row)
column_small [] c h = omega arith
column_small (v ∷ vs) zero h = All-head IsSmall v vs h
column_small (v ∷ vs) (suc c) h = column_small vs c (All-tail IsSmall v vs h)

value_small : (a : Aggregate) (row : RowValues) → IsSmallRow row → IsSmall (value_for a row)
value_small CountRows row h = omega arith
value_small (Count c) row h = column_small row c h
value_small (CountDistinct c) row h = column_small row c h
value_small (Sum c) row h = column_small row c h
value_small (SumDistinct c) row h = column_small row c h
value_small (Min c) row h = column_small row c h
value_small (Max c) row h = column_small row c h

values_small : (a : Aggregate) (rows : List RowValues) → All IsSmallRow rows → AreSmall (map (value_for a) rows)
values_small a [] h = All-nil IsSmall
values_small a (row ∷ rows) h = All-cons IsSmall (value_for a row) (map (value_for a) rows) (value_small a row (All-head IsSmallRow row rows h)) (values_small a rows (All-tail IsSmallRow row rows h))

-- what a set function looks at in some of the rows is within bounds
pub filtered_within : (p : RowValues → Bool) (a : Aggregate) (rows : List RowValues) → length rows < 2 ^ 63 → All IsSmallRow rows → IsWithin (map (value_for a) (filter p rows))
filtered_within p a rows short small = record {
  short = omega (arith, short, length-map (filter p rows) (value_for a), length-filter p rows, count_by-le-length p rows);
  small = values_small a (filter p rows) (All-filter p IsSmallRow rows small);
}

pub members_within : (place : RowValues → Option Value) (a : Aggregate) (rows : List RowValues) → length rows < 2 ^ 63 → All IsSmallRow rows → AreWithin (members_of place (value_for a) rows)
members_within place a rows short small v = filtered_within (λ row. is_placed v (place row)) a rows short small
