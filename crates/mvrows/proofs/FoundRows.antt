-- Rows in order are found again by their keys.
use Rattle.std.proofs.Common.{◌≡◌, ℕ, Bool, true, false, cond, List, [], ◌∷◌, Some, None, map, refl, ◌∙◌, ap}
use Rattle.std.specs.Prelude.{filter, filter_map, option_to_list}
use Rattle.std.specs.List.{cons_option}
use Rattle.std.specs.Ordering.{eq_by_cmp, is_eq, ordering_reverse}
use Rattle.std.specs.declared.cmp.Ordering.{Ordering}
use Rattle.std.specs.declared.cmp.Ordering.TheVariants.{Less, Equal, Greater}
use Rattle.std.proofs.lemmas.Cmp.{tied_itself}
use Rattle.value.specs.declared.values.Value.{Value}
use Rattle.value.specs.ValueOrder.{value_cmp}
use Rattle.value.specs.Ordered.{by_order, AreAbove, IsAscending}
use Rattle.value.proofs.OrderedLists.{AreAbove-below, AreAbove-tied}
use Rattle.value.proofs.ValueOrders.{value_cmp_total}
use Rattle.table.specs.Rows.{RowValues, value_in, row_at}

module _ (key : ℕ) where
  -- each of these stands under its key among the rows
  StandIn : List RowValues → List RowValues → Type 0
  StandIn rows [] = Unit {0}
  StandIn rows (x ∷ xs) = (row_at key (value_in key x) rows ≡ Some x) × StandIn rows xs

  further : (y : RowValues) (rows xs : List RowValues) → AreAbove value_cmp (value_in key) (value_in key y) xs → StandIn rows xs → StandIn (y ∷ rows) xs
  unfolding StandIn
  further y rows [] above s = tt
  further y rows (x ∷ xs) above s =
      let greater : value_cmp (value_in key x) (value_in key y) ≡ Greater = value_cmp_total.antisymm (value_in key x) (value_in key y) ∙ ap ordering_reverse above.0 in
      (ap (λ c. by_order c None (Some y) (row_at key (value_in key x) rows)) greater ∙ s.0, further y rows xs above.1 s.1)

  all_stand : (rows : List RowValues) → IsAscending value_cmp (value_in key) rows → StandIn rows rows
  unfolding StandIn
  all_stand [] s = tt
  all_stand (y ∷ ys) s =
      (ap (λ c. by_order c None (Some y) (row_at key (value_in key y) ys)) (tied_itself value_cmp_total (value_in key y)), further y ys ys s.0 (all_stand ys s.1))

  all_found : (p : RowValues → Bool) (rows xs : List RowValues) → StandIn rows xs → filter_map (λ k. row_at key k rows) (map (value_in key) (filter p xs)) ≡ filter p xs
  unfolding StandIn
  all_found p rows [] s = refl
  all_found p rows (x ∷ xs) s =
      elim (p x) as (λ b. filter_map (λ k. row_at key k rows) (map (value_in key) (cond b (x ∷ filter p xs) (filter p xs))) ≡ cond b (x ∷ filter p xs) (filter p xs)) [
        | true ↦ ap (λ o. cons_option o (filter_map (λ k. row_at key k rows) (map (value_in key) (filter p xs)))) s.0 ∙ ap (λ rest. x ∷ rest) (all_found p rows xs s.1)
        | false ↦ all_found p rows xs s.1
      ]

  -- what stands under the keys of some of the rows are these rows
  pub found_by_keys : (p : RowValues → Bool) (rows : List RowValues) → IsAscending value_cmp (value_in key) rows → filter_map (λ k. row_at key k rows) (map (value_in key) (filter p rows)) ≡ filter p rows
  found_by_keys p rows s = all_found p rows rows (all_stand rows s)

  -- rows whose keys are all above a value do not have it
  none_above : (v : Value) (rows : List RowValues) → AreAbove value_cmp (value_in key) v rows → filter (λ row. eq_by_cmp value_cmp v (value_in key row)) rows ≡ []
  none_above v [] above = refl
  none_above v (y ∷ ys) above =
      ap (λ c. cond (is_eq c) (y ∷ filter (λ row. eq_by_cmp value_cmp v (value_in key row)) ys) (filter (λ row. eq_by_cmp value_cmp v (value_in key row)) ys)) above.0
      ∙ none_above v ys above.1

  -- the rows with a key are the one that stands under it
  pub found_by_key : (v : Value) (rows : List RowValues) → IsAscending value_cmp (value_in key) rows → filter (λ row. eq_by_cmp value_cmp v (value_in key row)) rows ≡ option_to_list (row_at key v rows)
  found_by_key v [] s = refl
  found_by_key v (y ∷ ys) s = case (found_by_key v ys s.1) (value_cmp v (value_in key y)) refl
    where
      rest : List RowValues
      rest = filter (λ row. eq_by_cmp value_cmp v (value_in key row)) ys

      case : rest ≡ option_to_list (row_at key v ys) → (c : Ordering) → value_cmp v (value_in key y) ≡ c → cond (is_eq c) (y ∷ rest) rest ≡ option_to_list (by_order c None (Some y) (row_at key v ys))
      case below Less e = none_above v ys (AreAbove-below value_cmp_total (value_in key) v (value_in key y) ys e s.0)
      case below Equal e = ap (λ rows. y ∷ rows) (none_above v ys (AreAbove-tied value_cmp_total (value_in key) (value_in key y) v ys e s.0))
      case below Greater e = below
