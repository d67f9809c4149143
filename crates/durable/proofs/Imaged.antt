-- The image of tables is put back into them: it is their net change from tables without rows.
use Rattle.std.proofs.Common.{◌≡◌, ◌+◌, ℕ, zero, suc, List, [], ◌∷◌, ◌++◌, Option, Some, None, map, filter, length, replicate, refl, sym, ap, ◌∙◌, subst, arith}
use Rattle.std.specs.Prelude.{Contains, flat_map}
use Rattle.std.specs.List.{range_with_len}
use Rattle.std.specs.Option.{option_and_then}
use Rattle.std.specs.declared.cmp.Ordering.{Ordering}
use Rattle.std.proofs.lemmas.List.{length-map, length-replicate}
use Rattle.value.specs.declared.values.Value.{Value}
use Rattle.value.specs.ValueOrder.{value_cmp}
use Rattle.value.specs.Ordered.{AreAbove, IsAscending, by_order, put}
use Rattle.value.proofs.ValueOrders.{value_cmp_total, value_exact}
use Rattle.table.specs.declared.rows.Change.{Change}
use Rattle.table.specs.Rows.{Layout, RowValues, key_of, row_at, value_in}
use Rattle.assertion.specs.Declarations.{Declared, layouts_in}
use Rattle.assertion.specs.Meaning.{State, rows_of}
use Rattle.siread.specs.Keys.{place_of}
use Rattle.siread.proofs.Members.{in_head, in_tail}
use Rattle.alone.specs.States.{AreDue, IsPut, IsState, change_between, in_order, is_real, net_change, table_changes}
use Rattle.alone.proofs.Lists.{each_at}
use Rattle.alone.proofs.Nets.{net_exact, net_puts, put_net}
use Rattle.alone.proofs.Orders.{at_member, due_changes, net_in_order}
use Rattle.journal.specs.declared.entries.Entry.{Entry}
use Rattle.txn.specs.Fitting.{RowsFit}
use Rattle.txn.proofs.Fitting.{net_fit}
use Rattle.durable.specs.Images.{image_from, insertion_of}
use Rattle.durable.specs.Opening.{blank_state}
use Rattle.durable.specs.Restoring.{restored, restored_changes}
use Rattle.durable.proofs.Blank.{none_there}
use Rattle.durable.proofs.PutBack.{put_back}

-- ---- the keys of rows in order are in order

keys_above : {X K : Type 0} (R : K → K → Ordering) (key : X → K) (k : K) (xs : List X) → AreAbove R key k xs → AreAbove R (λ j. j) k (map key xs)
keys_above R key k [] above = tt
keys_above R key k (x ∷ xs) above = (above.0, keys_above R key k xs above.1)

put_first : (k : Value) (ks : List Value) → AreAbove value_cmp (λ j. j) k ks → put value_cmp (λ j. j) k (Some k) ks ≡ k ∷ ks
put_first k [] above = refl
put_first k (j ∷ js) above = ap (λ c. by_order c (k ∷ j ∷ js) (k ∷ js) (j ∷ put value_cmp (λ i. i) k (Some k) js)) above.0

keys_in_order : (key : RowValues → Value) (rows : List RowValues) → IsAscending value_cmp key rows → in_order (map key rows) ≡ map key rows
keys_in_order key [] ascend = refl
keys_in_order key (row ∷ rows) ascend =
    ap (λ (ks : List Value). put value_cmp (λ j. j) (key row) (Some (key row)) ks) (keys_in_order key rows ascend.1)
    ∙ put_first (key row) (map key rows) (keys_above value_cmp key (key row) rows ascend.0)

all_real : (table key : ℕ) (rows : List RowValues) → filter is_real (map (insertion_of table key) rows) ≡ map (insertion_of table key) rows
all_real table key [] = refl
all_real table key (row ∷ rows) = ap (λ (cs : List Change). insertion_of table key row ∷ cs) (all_real table key rows)

module _ (layouts : List Layout) (count : ℕ) (long : count ≡ length layouts) (state : State) (fit : IsState layouts state) where
  abbrev blank : State
  blank = replicate count []

  abbrev key : (table : ℕ) → RowValues → Value
  key table = value_in (key_of table layouts)

  abbrev between : (table : ℕ) → Value → Change
  between table k = change_between layouts blank state (record { table = table; key = k })

  -- ---- a table's rows

  inserted : (table : ℕ) (rows : List RowValues) → ((row : RowValues) → Contains rows row → row_at (key_of table layouts) (key table row) (rows_of table state) ≡ Some row)
      → map (between table) (map (key table) rows) ≡ map (insertion_of table (key_of table layouts)) rows
  inserted table [] there = refl
  inserted table (row ∷ rows) there =
      let rest = inserted table rows (λ r m. there r (in_tail row rows r m)) in
      λ i. (record {
        table = table;
        key = key table row;
        old = row_at (key_of table layouts) (key table row) (none_there count table i);
        new = there row (in_head row rows) i;
      }) ∷ rest i

  of_table : (table : ℕ) → table_changes layouts blank state table ≡ map (insertion_of table (key_of table layouts)) (rows_of table state)
  of_table table =
      let rows : List RowValues = rows_of table state in
      ap (λ (old : List RowValues). filter is_real (map (between table) (in_order (map (key table) (old ++ rows))))) (none_there count table)
      ∙ ap (λ (ks : List Value). filter is_real (map (between table) ks)) (keys_in_order (key table) rows (fit.ordered table))
      ∙ ap (λ (cs : List Change). filter is_real cs)
      (inserted table rows (λ row m. at_member value_cmp_total value_exact (key table) rows (fit.ordered table) row m))
      ∙ all_real table (key_of table layouts) rows

  -- ---- and those of all tables

  from_tables : (first : ℕ) (rest : State) → ((table : ℕ) → rows_of (first + table) state ≡ rows_of table rest)
      → image_from layouts first rest ≡ flat_map (table_changes layouts blank state) (range_with_len first (length rest))
  from_tables first [] same = refl
  from_tables first (rows ∷ rest) same =
      let none_more : first ≡ first + 0 = omega arith in
      let one_more : suc first ≡ first + 1 = omega arith in
      let own : rows ≡ rows_of first state = sym (same 0) ∙ ap (λ (n : ℕ). rows_of n state) (sym none_more) in
      let here = ap (λ (rs : List RowValues). map (insertion_of first (key_of first layouts)) rs) own ∙ sym (of_table first) in
      let behind = from_tables (suc first) rest (λ table. ap (λ (n : ℕ). rows_of n state) (moved first table) ∙ same (suc table))
      ∙ ap (λ (n : ℕ). flat_map (table_changes layouts blank state) (range_with_len n (length rest))) one_more in
      λ i. here i ++ behind i
    where
      moved : (a b : ℕ) → suc a + b ≡ a + suc b
      moved a b = omega arith

  image_is_net : image_from layouts 0 state ≡ net_change layouts blank state
  unfolding net_change
  image_is_net =
      from_tables 0 state (λ table. ap (λ (n : ℕ). rows_of n state) (none_before table))
      ∙ ap (λ (n : ℕ). flat_map (table_changes layouts blank state) (range_with_len 0 n)) fit.long
    where
      none_before : (n : ℕ) → 0 + n ≡ n
      none_before n = omega arith

  blank_fits : IsState layouts blank
  blank_fits = record {
    long = length-replicate count [] ∙ long;
    ordered = λ table. subst (IsAscending value_cmp (key table)) (sym (none_there count table)) tt;
  }

  image_restored : RowsFit layouts state → restored_changes layouts (image_from layouts 0 state) blank ≡ Some state
  image_restored rows_fit =
      let net : List Change = net_change layouts blank state in
      let due : AreDue layouts net blank = record {
        in_order = net_in_order layouts blank state;
        exact = λ change m. sym (ap (λ (c : Change). c.old) (net_exact layouts blank state change m).0);
        puts = each_at (IsPut layouts) net (net_puts layouts blank state);
      } in
      ap (λ (cs : List Change). restored_changes layouts cs blank) image_is_net
      ∙ put_back layouts net blank (due_changes layouts blank blank_fits net due) (net_fit layouts blank state rows_fit)
      ∙ ap Some (put_net layouts blank state blank_fits fit)

-- an entry that has the image
pub entry_restored : (declared : Declared) (state : State) → IsState (layouts_in declared) state → RowsFit (layouts_in declared) state
    → (image : Entry) → image.changes ≡ image_from (layouts_in declared) 0 state
    → restored (layouts_in declared) (image ∷ []) (blank_state declared) ≡ Some state
entry_restored declared state fit rows_fit image is =
    let layouts : List Layout = layouts_in declared in
    ap (λ (o : Option State). option_and_then (restored layouts []) o)
    (ap (λ (cs : List Change). restored_changes layouts cs (blank_state declared)) is
    ∙ image_restored layouts (length declared.tables) (sym (length-map declared.tables (λ p. p.1))) state fit rows_fit)
