-- The rows that a condition keeps are under the key that it sets equal to a literal.
use Rattle.std.proofs.Common.{◌≡◌, ℕ, Bool, true, false, cond, List, [], ◌∷◌, Option, Some, None, append-nil, refl, sym, ◌∙◌, ap, subst}
use Rattle.std.specs.Prelude.{◌&&◌, ◌==◌, All, filter, option_to_list}
use Rattle.std.specs.declared.cmp.Ordering.{Ordering}
use Rattle.std.specs.declared.cmp.Ordering.TheVariants.{Less, Equal, Greater}
use Rattle.std.proofs.lemmas.List.Elements.{All-nil, All-cons, All-filter}
use Rattle.std.proofs.lemmas.Bool.{and_parts}
use Rattle.std.proofs.lemmas.Cmp.{tied_itself}
use Rattle.value.specs.declared.values.Value.{Value}
use Rattle.value.specs.ValueOrder.{value_cmp}
use Rattle.value.specs.Ordered.{AreAbove, HoldsOf, IsAscending, by_order}
use Rattle.value.proofs.OrderedLists.{All-at, AreAbove-below, AreAbove-tied}
use Rattle.value.proofs.ValueOrders.{value_cmp_total}
use Rattle.table.specs.Rows.{RowValues, value_in, row_at}
use Rattle.table.specs.declared.conds.Cond.{Cond}
use Rattle.table.specs.Eval.{keeps}
use Rattle.assertion.specs.Meaning.{filtered_rows}
use Rattle.siread.specs.declared.keys.LockKey.{LockKey}
use Rattle.siread.specs.declared.keys.LockKey.TheVariants.{Row as OneRow, Column as InColumn}
use Rattle.siread.specs.declared.keys.Place.{Place}
use Rattle.siread.specs.Keys.{is_under, same_value}
use Rattle.alone.specs.Reads.{filter_key}
use Rattle.siread.proofs.KeyOrder.{same_value-true}
use Rattle.alone.proofs.Wheres.{where_under}
use Rattle.mvrows.specs.Looked.{rows_with}
use Rattle.changes.specs.Lookups.{looked_at}
use Rattle.changes.proofs.Walks.{not_filtered}

bool_apart : (b : Bool) → b ≡ true → b ≡ false → ⊥
bool_apart b e f = cc

apart : (c : Ordering) → c ≡ Less → c ≡ Equal → ⊥
apart c e f = cc

over : (c : Ordering) → c ≡ Greater → c ≡ Equal → ⊥
over c e f = cc

-- if a restriction row has a value in its key
module _ (restriction : Cond) (key : ℕ) (v : Value) (only : (row : RowValues) → keeps row [] restriction ≡ true → value_in key row ≡ v) where
  level : (row : RowValues) → value_in key row ≡ v → value_cmp v (value_in key row) ≡ Equal
  level row e = subst (λ w. value_cmp v w ≡ Equal) (sym e) (tied_itself value_cmp_total v)

  -- then one with another isn't restriction
  off : (row : RowValues) → ((value_cmp v (value_in key row) ≡ Equal) → ⊥) → keeps row [] restriction ≡ false
  off row other = go (keeps row [] restriction) refl
    where
      go : (b : Bool) → keeps row [] restriction ≡ b → keeps row [] restriction ≡ false
      go true e = absurd (other (level row (only row e)))
      go false e = e

  none_above : (rows : List RowValues) → AreAbove value_cmp (value_in key) v rows → filtered_rows restriction rows ≡ []
  none_above [] a = refl
  none_above (row ∷ rows) a = not_filtered restriction row rows (off row (λ e. apart (value_cmp v (value_in key row)) a.0 e)) ∙ none_above rows a.1

  -- and so the row under that key is the only one that can be
  pub filtered_under : (rows : List RowValues) → IsAscending value_cmp (value_in key) rows → filtered_rows restriction (option_to_list (row_at key v rows)) ≡ filtered_rows restriction rows
  filtered_under [] s = refl
  filtered_under (row ∷ rows) s = go (value_cmp v (value_in key row)) refl (filtered_under rows s.1)
    where
      go : (c : Ordering) → value_cmp v (value_in key row) ≡ c → filtered_rows restriction (option_to_list (row_at key v rows)) ≡ filtered_rows restriction rows → filtered_rows restriction (option_to_list (by_order c None (Some row) (row_at key v rows))) ≡ filtered_rows restriction (row ∷ rows)
      go Less e h =
          sym (not_filtered restriction row rows (off row (λ f. apart (value_cmp v (value_in key row)) e f))
          ∙ none_above rows (AreAbove-below value_cmp_total (value_in key) v (value_in key row) rows e s.0))
      go Equal e h =
          let none : filtered_rows restriction rows ≡ [] = none_above rows (AreAbove-tied value_cmp_total (value_in key) (value_in key row) v rows e s.0) in
          sym (ap (λ (rs : List RowValues). cond (keeps row [] restriction) (row ∷ rs) rs) none)
      go Greater e h = h ∙ sym (not_filtered restriction row rows (off row (λ f. over (value_cmp v (value_in key row)) e f)))

-- where a condition reads one row, a row that it keeps has that one's key
pub filtered_at : (table key : ℕ) (restriction : Cond) (place : Place) → filter_key table key restriction ≡ OneRow place
    → (row : RowValues) → keeps row [] restriction ≡ true → value_in key row ≡ place.key
filtered_at table key restriction place is row keep =
    let under : (place.table == table) && same_value place.key (value_in key row) ≡ true
    = subst (λ (read : LockKey). is_under read (record { table = table; key = value_in key row }) row ≡ true) is (where_under table key restriction row keep) in
    sym (same_value-true place.key (value_in key row) (and_parts (place.table == table) (same_value place.key (value_in key row)) under).1)

-- what all rows have the one under a key has
pub all_under : (P : RowValues → Type 0) (key : ℕ) (v : Value) (rows : List RowValues) → All P rows → All P (option_to_list (row_at key v rows))
all_under P key v rows all = go (row_at key v rows) (All-at value_cmp (value_in key) P v rows all)
  where
    go : (o : Option RowValues) → HoldsOf P o → All P (option_to_list o)
    go None h = All-nil P
    go (Some row) h = All-cons P row [] h (All-nil P)

-- so the rows that are looked at are that one
pub one_looked : (o : Option RowValues) (key : ℕ) (v : Value) (rows : List RowValues) → o ≡ row_at key v rows → looked_at o None None ≡ option_to_list (row_at key v rows)
one_looked o key v rows e = append-nil (option_to_list o) ∙ ap (λ (x : Option RowValues). option_to_list x) e

-- where a condition reads the rows with a value in a column, a row that it keeps has it
with_value : (table key : ℕ) (restriction : Cond) (t column : ℕ) (v : Value) → filter_key table key restriction ≡ InColumn t column v
    → (row : RowValues) → keeps row [] restriction ≡ true → same_value v (value_in column row) ≡ true
with_value table key restriction t column v is row keep =
    let under : (t == table) && same_value v (value_in column row) ≡ true
    = subst (λ (read : LockKey). is_under read (record { table = table; key = value_in key row }) row ≡ true) is (where_under table key restriction row keep) in
    (and_parts (t == table) (same_value v (value_in column row)) under).1

-- if each row that a condition keeps passes a test, the others may be left out before
module _ (restriction : Cond) (test : RowValues → Bool) (only : (row : RowValues) → keeps row [] restriction ≡ true → test row ≡ true) where
  lost : (row : RowValues) → test row ≡ false → keeps row [] restriction ≡ false
  lost row e = go (keeps row [] restriction) refl
    where
      go : (b : Bool) → keeps row [] restriction ≡ b → keeps row [] restriction ≡ false
      go true k = absurd (bool_apart (test row) (only row k) e)
      go false k = k

  filtered_of : (rows : List RowValues) → filtered_rows restriction (filter test rows) ≡ filtered_rows restriction rows
  filtered_of [] = refl
  filtered_of (row ∷ rows) = go (test row) refl (filtered_of rows)
    where
      go : (b : Bool) → test row ≡ b → filtered_rows restriction (filter test rows) ≡ filtered_rows restriction rows
          → filtered_rows restriction (cond b (row ∷ filter test rows) (filter test rows)) ≡ filtered_rows restriction (row ∷ rows)
      go true e h = ap (λ (rs : List RowValues). cond (keeps row [] restriction) (row ∷ rs) rs) h
      go false e h = h ∙ sym (not_filtered restriction row rows (lost row e))

-- of the rows with the value it keeps what it keeps of all
pub filtered_with : (table key : ℕ) (restriction : Cond) (t column : ℕ) (v : Value) → filter_key table key restriction ≡ InColumn t column v
    → (rows : List RowValues) → filtered_rows restriction (rows_with column v rows) ≡ filtered_rows restriction rows
filtered_with table key restriction t column v is =
    filtered_of restriction (λ row. same_value v (value_in column row)) (with_value table key restriction t column v is)

-- what all rows have those with a value have
pub all_with : (P : RowValues → Type 0) (column : ℕ) (v : Value) (rows : List RowValues) → All P rows → All P (rows_with column v rows)
all_with P column v rows all = All-filter (λ row. same_value v (value_in column row)) P rows all
