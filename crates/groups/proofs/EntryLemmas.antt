-- The totals of groups stay right as a row comes or goes.
use Rattle.std.proofs.Common.{◌≡◌, ℕ, ◌+◌, ◌<◌, suc, Bool, true, false, cond, List, [], ◌∷◌, Option, Some, None, length, map, refl, sym, ◌∙◌, ap, subst, arith}
use Rattle.std.specs.Prelude.{◌==◌, if◌then◌else◌, unwrap_or}
use Rattle.std.specs.Option.{option_map}
use Rattle.std.proofs.lemmas.Bool.Decides.{nat_tests}
use Rattle.std.specs.Ordering.{eq_by_cmp}
use Rattle.value.specs.declared.values.Value.{Value}
use Rattle.value.specs.ValueOrder.{value_cmp}
use Rattle.value.specs.Ordered.{HasKey, at, put}
use Rattle.value.proofs.ValueOrders.{value_cmp_total, value_exact}
use Rattle.value.proofs.OrderedLists.{at-put, IsAscending-put, equal_from}
use Rattle.pages.specs.Reach.{key_of, value_of as entry_value, entry_of}
use Rattle.table.specs.declared.aggregates.Aggregate.{Aggregate}
use Rattle.groups.specs.declared.members.Member.{Member}
use Rattle.groups.specs.Figures.{Figures}
use Rattle.groups.specs.Steps.{no_figures, one_more, one_less, put_entry, total_entry, figures_at, entries_more, entries_less, entries_moved}
use Rattle.groups.specs.Totals.{Entry, Entries, Members, entry_from, group_in, entry_at, total_at, IsTotalOf, IsEntryOf, AreTotalsOf, IsOneMore, HaveOneMore, IsWithin, AreWithin, IsChange}
use Rattle.groups.proofs.Carried.{at-made, put-made}
use Rattle.groups.proofs.MemberLemmas.{longer, within_fewer}
use Rattle.groups.proofs.TotalLemmas.{IsTotalOf-more, IsTotalOf-less, IsTotalOf-none, IsTotalOf-same}

abbrev total_in : Option Entry → Option Figures
total_in o = option_map (λ (entry : Entry). entry.total) o

-- a successor is not 0
pub not_zero : (n k : ℕ) → n ≡ suc k → (n == 0) ≡ true → ⊥
not_zero n k e z = grind (arith, nat_tests)

nothing_of : (vs : List Value) (n : ℕ) → n ≡ length vs → (n == 0) ≡ true → vs ≡ []
nothing_of [] n e z = refl
nothing_of (v ∷ vs) n e z = absurd (not_zero n (length vs) e z)

something_of : (n k : ℕ) → n ≡ k → (n == 0) ≡ false → 0 < k
something_of n k e z = grind (arith, nat_tests)

entry-right : (a : Aggregate) (vs : List Value) (g : Value) (t : Figures) → IsTotalOf a vs t → IsEntryOf a vs (total_in (total_entry g t))
entry-right a vs g t k =
    let case : (b : Bool) → (t.rows == 0) ≡ b → IsEntryOf a vs (total_in (if b then None else Some (record { group = g; total = t }))) = λ b. elim b as (λ b. (t.rows == 0) ≡ b → IsEntryOf a vs (total_in (if b then None else Some (record { group = g; total = t })))) [
      | true ↦ λ e. nothing_of vs t.rows k.rows e
      | false ↦ λ e. (k, something_of t.rows (length vs) k.rows e)
    ]
    in case (t.rows == 0) refl

entry-key : (g : Value) (t : Figures) → HasKey value_cmp group_in g (total_entry g t)
entry-key g t = elim (t.rows == 0) as (λ b. HasKey value_cmp group_in g (if b then None else Some (record { group = g; total = t }))) [ true ↦ tt | false ↦ refl ]

-- a list with one item more than another is not empty
not_empty : (n : ℕ) (vs : List Value) → length vs ≡ n + 1 → vs ≡ [] → ⊥
not_empty n vs l e = let zero : length vs ≡ 0 = ap length e in omega (arith, l, zero)

-- what stands for a group, or where nothing stands the total of no rows, is the total of its rows
pub figures-right : (a : Aggregate) (vs : List Value) (o : Option Figures) → IsEntryOf a vs o → IsTotalOf a vs (unwrap_or o no_figures)
figures-right a vs None e = subst (λ us. IsTotalOf a us no_figures) (sym e) (IsTotalOf-none a)
figures-right a vs (Some t) k = k.0

-- the totals after one is set
pub AreTotalsOf-put : (a : Aggregate) (g : Value) (t : Figures) (old new : Members) (es : Entries) → IsTotalOf a (new g) t → ((v : Value) → eq_by_cmp value_cmp v g ≡ false → new v ≡ old v) → AreTotalsOf a old es → AreTotalsOf a new (put_entry g (total_entry g t) es)
AreTotalsOf-put a g t old new es here elsewhere k = record {
  in_order = IsAscending-put value_cmp_total group_in g (total_entry g t) es (entry-key g t) k.in_order;
  right = λ v.
      let case : (b : Bool) → eq_by_cmp value_cmp v g ≡ b → IsEntryOf a (new v) (total_in (cond b (total_entry g t) (entry_at v es))) = λ b. elim b as (λ b. eq_by_cmp value_cmp v g ≡ b → IsEntryOf a (new v) (total_in (cond b (total_entry g t) (entry_at v es)))) [
        | true ↦ λ e. subst (λ u. IsEntryOf a (new u) (total_in (total_entry g t))) (sym (value_exact v g (equal_from (value_cmp v g) e))) (entry-right a (new g) g t here)
        | false ↦ λ e. subst (λ us. IsEntryOf a us (total_at v es)) (sym (elsewhere v e)) (k.right v)
      ]
      in subst (λ o. IsEntryOf a (new v) (total_in o)) (sym (at-put value_cmp_total group_in g (total_entry g t) es (entry-key g t) k.in_order v)) (case (eq_by_cmp value_cmp v g) refl);
}

-- the totals of the same lists
pub AreTotalsOf-along : (a : Aggregate) (old new : Members) (es : Entries) → ((v : Value) → new v ≡ old v) → AreTotalsOf a old es → AreTotalsOf a new es
AreTotalsOf-along a old new es e k = record { in_order = k.in_order; right = λ v. subst (λ vs. IsEntryOf a vs (total_at v es)) (sym (e v)) (k.right v) }

-- the totals with one row more, if there is one
pub AreTotalsOf-more : (a : Aggregate) (m : Member) (fewer more : Members) (es : Entries) → HaveOneMore (Some m) fewer more → AreTotalsOf a fewer es → AreWithin more → AreTotalsOf a more (entries_more a m es)
AreTotalsOf-more a m fewer more es h k w =
    AreTotalsOf-put a m.group (one_more a m.value (figures_at m.group es)) fewer more es
    (IsTotalOf-more a m.value (fewer m.group) (more m.group) (figures_at m.group es) h.here (figures-right a (fewer m.group) (total_at m.group es) (k.right m.group)) (w m.group))
    h.elsewhere k

-- the totals with one row less
pub AreTotalsOf-less : (a : Aggregate) (m : Member) (fewer more : Members) (es : Entries) → HaveOneMore (Some m) fewer more → AreTotalsOf a more es → AreWithin fewer → AreTotalsOf a fewer (entries_less a m es)
AreTotalsOf-less a m fewer more es h k w =
    AreTotalsOf-put a m.group (one_less a m.value (figures_at m.group es)) more fewer es
    (IsTotalOf-less a m.value (fewer m.group) (more m.group) (figures_at m.group es) h.here (figures-right a (more m.group) (total_at m.group es) (k.right m.group)) (w m.group))
    (λ v e. sym (h.elsewhere v e)) k

-- the entries after one row goes and one comes
abbrev pub entries_without : Aggregate → Option Member → Entries → Entries
entries_without a None es = es
entries_without a (Some m) es = entries_less a m es

abbrev pub entries_with : Aggregate → Option Member → Entries → Entries
entries_with a None es = es
entries_with a (Some m) es = entries_more a m es

gone-right : (a : Aggregate) (o : Option Member) (between before : Members) (es : Entries) → HaveOneMore o between before → AreTotalsOf a before es → AreWithin between → AreTotalsOf a between (entries_without a o es)
gone-right a None between before es h k w = AreTotalsOf-along a before between es (λ v. sym (h v)) k
gone-right a (Some m) between before es h k w = AreTotalsOf-less a m between before es h k w

come-right : (a : Aggregate) (o : Option Member) (between after : Members) (es : Entries) → HaveOneMore o between after → AreTotalsOf a between es → AreWithin after → AreTotalsOf a after (entries_with a o es)
come-right a None between after es h k w = AreTotalsOf-along a between after es h k
come-right a (Some m) between after es h k w = AreTotalsOf-more a m between after es h k w

-- totals of groups become those of the groups with one row gone and one come
pub AreTotalsOf-change : (a : Aggregate) (add remove : Option Member) (before after : Members) (es : Entries) → IsChange add remove before after → AreTotalsOf a before es → AreWithin after → AreTotalsOf a after (entries_with a add (entries_without a remove es))
AreTotalsOf-change a add remove before after es c k w =
    come-right a add c.between after (entries_without a remove es) c.come (gone-right a remove c.between before es c.gone k (within_fewer add c.between after c.come w)) w

-- totals of groups become those of the groups where a row of a group gets another value
pub AreTotalsOf-moved : (a : Aggregate) (old new : Member) (before after : Members) (es : Entries) → old.group ≡ new.group → IsChange (Some new) (Some old) before after → AreTotalsOf a before es → AreWithin after → AreTotalsOf a after (entries_moved a old.group old.value new.value es)
AreTotalsOf-moved a old new before after es same c k w =
    let g : Value = old.group in
    let t : Figures = figures_at g es in
    let here : IsOneMore new.value (c.between g) (after g) = subst (λ v. IsOneMore new.value (c.between v) (after v)) (sym same) c.come.here in
    let within : IsWithin (c.between g) = within_fewer (Some new) c.between after c.come w g in
    AreTotalsOf-put a g (one_more a new.value (one_less a old.value t)) before after es
    (IsTotalOf-more a new.value (c.between g) (after g) (one_less a old.value t) here (IsTotalOf-less a old.value (c.between g) (before g) t c.gone.here (figures-right a (before g) (total_at g es) (k.right g)) within) (w g))
    (λ v e. c.come.elsewhere v (subst (λ u. eq_by_cmp value_cmp v u ≡ false) same e) ∙ sym (c.gone.elsewhere v e))
    k

-- and where it gets the same value they are those that they were
pub AreTotalsOf-same : (a : Aggregate) (old new : Member) (before after : Members) (es : Entries) → old.group ≡ new.group → old.value ≡ new.value → IsChange (Some new) (Some old) before after → AreTotalsOf a before es → AreTotalsOf a after es
AreTotalsOf-same a old new before after es same value c k =
    let g : Value = old.group in
    let come : IsOneMore old.value (c.between g) (after g) = subst (λ x. IsOneMore x (c.between g) (after g)) (sym value) (subst (λ v. IsOneMore new.value (c.between v) (after v)) (sym same) c.come.here) in
    let stays : (v : Value) → eq_by_cmp value_cmp v g ≡ false → after v ≡ before v = λ v e. c.come.elsewhere v (subst (λ u. eq_by_cmp value_cmp v u ≡ false) same e) ∙ sym (c.gone.elsewhere v e) in
    let entry : (o : Option Figures) → IsEntryOf a (before g) o → IsEntryOf a (after g) o = λ o. elim o as (λ o. IsEntryOf a (before g) o → IsEntryOf a (after g) o) [
      | None ↦ λ none. absurd (not_empty _ _ (longer old.value (c.between g) (before g) c.gone.here) none)
      | Some t ↦ λ e. (IsTotalOf-same a old.value (c.between g) (before g) (after g) t c.gone.here come e.0, omega (arith, longer old.value (c.between g) (after g) come))
    ]
    in record {
      in_order = k.in_order;
      right = λ v.
          let case : (b : Bool) → eq_by_cmp value_cmp v g ≡ b → IsEntryOf a (after v) (total_at v es) = λ b. elim b as (λ b. eq_by_cmp value_cmp v g ≡ b → IsEntryOf a (after v) (total_at v es)) [
            | true ↦ λ e. subst (λ u. IsEntryOf a (after u) (total_at u es)) (sym (value_exact v g (equal_from (value_cmp v g) e))) (entry (total_at g es) (k.right g))
            | false ↦ λ e. subst (λ us. IsEntryOf a us (total_at v es)) (sym (stays v e)) (k.right v)
          ]
          in case (eq_by_cmp value_cmp v g) refl;
    }

-- the total of a group, and the entries after one is put
pub total_at-entry : (g : Value) (es : List (Value × Figures)) → option_map entry_value (at value_cmp key_of g es) ≡ total_at g (map entry_from es)
total_at-entry g es = alike (at value_cmp key_of g es) ∙ ap total_in (at-made entry_from group_in (λ e. refl) g es)
  where
    alike : (o : Option (Value × Figures)) → option_map entry_value o ≡ total_in (option_map entry_from o)
    alike None = refl
    alike (Some e) = refl

pub put_entry-entry : (g : Value) (t : Figures) (es : List (Value × Figures)) → map entry_from (put value_cmp key_of g (entry_of g (if t.rows == 0 then None else Some t)) es) ≡ put_entry g (total_entry g t) (map entry_from es)
put_entry-entry g t es = put-made entry_from group_in (λ e. refl) g (if t.rows == 0 then None else Some t) es ∙ ap (λ o. put_entry g o (map entry_from es)) (alike (t.rows == 0))
  where
    alike : (b : Bool) → option_map (λ u. entry_from (g, u)) (if b then None else Some t) ≡ (if b then None else Some (record { group = g; total = t }))
    alike true = refl
    alike false = refl
