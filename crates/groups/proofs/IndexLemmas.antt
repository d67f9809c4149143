-- The index of a table's rows follows a change of one row.
use Rattle.std.proofs.Common.{◌≡◌, ℕ, ◌<◌, Bool, true, false, cond, List, [], ◌∷◌, ◌++◌, Option, Some, None, length, refl, sym, ◌∙◌, ap, subst, arith}
use Rattle.std.specs.Prelude.{unwrap_or, if◌then◌else◌}
use Rattle.std.specs.Option.{option_map}
use Rattle.std.specs.Ordering.{eq_by_cmp}
use Rattle.std.proofs.lemmas.Cmp.{tied_itself}
use Rattle.std.proofs.lemmas.List.Elements.{All-nil}
use Rattle.value.specs.declared.values.Value.{Value}
use Rattle.value.specs.declared.values.Value.TheVariants.{Null, Int, Text}
use Rattle.value.specs.ValueOrder.{value_cmp}
use Rattle.value.specs.Ordered.{HasKey, HoldsOf, IsAscending, at, put}
use Rattle.value.proofs.ValueOrders.{value_cmp_total, value_exact}
use Rattle.value.proofs.OrderedLists.{at-put, IsAscending-put, All-put, equal_from}
use Rattle.pages.specs.Reach.{key_of, value_of, entry_of}
use Rattle.table.specs.Rows.{RowValues, value_in, row_at, put_row}
use Rattle.groups.specs.Indexes.{ValueKeys, keys_at, equals, keys_with, IsIndexFor, IsIndexOf}
use Rattle.groups.specs.IndexSteps.{unless_null, known_value, keys_more, keys_less, unless_empty, put_keys, index_more, index_less, index_after}
use Rattle.groups.proofs.FilteredKeys.{key_where, ascending-where, at-where, put-where, put-at, put-put, HasKey-at, ascending-front, at-last, put-last}

-- values, each with a list of keys
abbrev Listed : Type 0
Listed = Value → List Value

-- an entry has keys
abbrev IsFilled : Value × List Value → Type 0
IsFilled entry = 0 < length entry.1

-- the entry of a value
entry-key : (v : Value) (keys : List Value) → HasKey value_cmp key_of v (entry_of v (unless_empty keys))
entry-key v [] = tt
entry-key v (k ∷ ks) = refl

entry-filled : (v : Value) (keys : List Value) → HoldsOf IsFilled (entry_of v (unless_empty keys))
entry-filled v [] = tt
entry-filled v (k ∷ ks) = omega arith

entry-keys : (v : Value) (keys : List Value) → unwrap_or (option_map value_of (entry_of v (unless_empty keys))) [] ≡ keys
entry-keys v [] = refl
entry-keys v (k ∷ ks) = refl

-- the keys of each value after those of one are put
keys_at-put : (v : Value) (keys : List Value) (index : ValueKeys) → IsAscending value_cmp key_of index → (w : Value) → keys_at w (put_keys v keys index) ≡ cond (eq_by_cmp value_cmp w v) keys (keys_at w index)
keys_at-put v keys index s w =
    ap (λ o. unwrap_or (option_map value_of o) []) (at-put value_cmp_total key_of v (entry_of v (unless_empty keys)) index (entry-key v keys) s w)
    ∙ elim (eq_by_cmp value_cmp w v) as (λ b. unwrap_or (option_map value_of (cond b (entry_of v (unless_empty keys)) (at value_cmp key_of w index))) [] ≡ cond b keys (keys_at w index)) [ true ↦ entry-keys v keys | false ↦ refl ]

-- the index of the same keys
IsIndexFor-along : (before after : Listed) (index : ValueKeys) → ((v : Value) → after v ≡ before v) → IsIndexFor before index → IsIndexFor after index
IsIndexFor-along before after index e i = record { in_order = i.in_order; not_empty = i.not_empty; right = λ v. i.right v ∙ sym (e v) }

-- the index after the keys of one value are put
IsIndexFor-put : (v : Value) (keys : List Value) (before after : Listed) (index : ValueKeys) → keys ≡ after v → ((w : Value) → eq_by_cmp value_cmp w v ≡ false → after w ≡ before w) → IsIndexFor before index → IsIndexFor after (put_keys v keys index)
IsIndexFor-put v keys before after index here elsewhere i = record {
  in_order = IsAscending-put value_cmp_total key_of v (entry_of v (unless_empty keys)) index (entry-key v keys) i.in_order;
  not_empty = All-put value_cmp key_of IsFilled v (entry_of v (unless_empty keys)) index (entry-filled v keys) i.not_empty;
  right = λ w.
      let case : (b : Bool) → eq_by_cmp value_cmp w v ≡ b → cond b keys (keys_at w index) ≡ after w = λ b. elim b as (λ b. eq_by_cmp value_cmp w v ≡ b → cond b keys (keys_at w index) ≡ after w) [
        | true ↦ λ e. here ∙ ap after (sym (value_exact w v (equal_from (value_cmp w v) e)))
        | false ↦ λ e. i.right w ∙ sym (elsewhere w e)
      ]
      in keys_at-put v keys index i.in_order w ∙ case (eq_by_cmp value_cmp w v) refl;
}

-- the key of a row, if the row has this value
abbrev key_if : Value → Value → Option Value → Option Value
key_if k v None = None
key_if k v (Some w) = cond (eq_by_cmp value_cmp v w) (Some k) None

tied : (v : Value) → eq_by_cmp value_cmp v v ≡ true
tied v = rw (tied_itself value_cmp_total v) refl

-- a key that isn't among the keys is none to take away
absent : (k : Value) (keys : List Value) → at value_cmp (λ j. j) k keys ≡ None → keys_less k keys ≡ keys
absent k keys e = ap (λ o. put value_cmp (λ j. j) k o keys) (sym e) ∙ put-at value_cmp (λ j. j) k keys

-- the index of lists of keys in which one key goes from a value to another, each of which may be none
index_after-right : (k : Value) (old new : Option Value) (before after : Listed) (index : ValueKeys)
    → ((v : Value) → IsAscending value_cmp (λ j. j) (before v))
    → ((v : Value) → at value_cmp (λ j. j) k (before v) ≡ key_if k v old)
    → ((v : Value) → after v ≡ put value_cmp (λ j. j) k (key_if k v new) (before v))
    → IsIndexFor before index → IsIndexFor after (index_after old new k index)
index_after-right k None None before after index s was is i =
    IsIndexFor-along before after index (λ v. is v ∙ absent k (before v) (was v)) i
index_after-right k None (Some n) before after index s was is i =
    IsIndexFor-put n (keys_more k (keys_at n index)) before after index
    (ap (keys_more k) (i.right n) ∙ ap (λ b. put value_cmp (λ j. j) k (cond b (Some k) None) (before n)) (sym (tied n)) ∙ sym (is n))
    (λ v e. is v ∙ ap (λ b. put value_cmp (λ j. j) k (cond b (Some k) None) (before v)) e ∙ absent k (before v) (was v))
    i
index_after-right k (Some o) None before after index s was is i =
    IsIndexFor-put o (keys_less k (keys_at o index)) before after index
    (ap (keys_less k) (i.right o) ∙ sym (is o))
    (λ v e. is v ∙ absent k (before v) (was v ∙ ap (λ b. cond b (Some k) None) e))
    i
index_after-right k (Some o) (Some n) before after index s was is i =
    let between : Listed = λ v. keys_less k (before v) in
    let gone : IsIndexFor between (index_less o k index) =
    IsIndexFor-put o (keys_less k (keys_at o index)) before between index (ap (keys_less k) (i.right o)) (λ v e. absent k (before v) (was v ∙ ap (λ b. cond b (Some k) None) e)) i
    in
    let come : IsIndexFor after (index_more n k (index_less o k index)) =
    IsIndexFor-put n (keys_more k (keys_at n (index_less o k index))) between after (index_less o k index)
    (ap (keys_more k) (gone.right n) ∙ put-put value_cmp_total (λ j. j) k (Some k) (before n) (s n) ∙ ap (λ b. put value_cmp (λ j. j) k (cond b (Some k) None) (before n)) (sym (tied n)) ∙ sym (is n))
    (λ v e. is v ∙ ap (λ b. put value_cmp (λ j. j) k (cond b (Some k) None) (before v)) e)
    gone
    in
    let same : o ≡ n → IsIndexFor after index = λ e.
    IsIndexFor-along before after index (λ v. is v ∙ ap (λ (w : Value). put value_cmp (λ j. j) k (key_if k v (Some w)) (before v)) (sym e) ∙ ap (λ p. put value_cmp (λ j. j) k p (before v)) (sym (was v)) ∙ put-at value_cmp (λ j. j) k (before v)) i
    in
    let case : (b : Bool) → eq_by_cmp value_cmp o n ≡ b → IsIndexFor after (if b then index else index_more n k (index_less o k index)) = λ b. elim b as (λ b. eq_by_cmp value_cmp o n ≡ b → IsIndexFor after (if b then index else index_more n k (index_less o k index))) [
      | true ↦ λ e. same (value_exact o n (equal_from (value_cmp o n) e))
      | false ↦ λ e. come
    ]
    in case (eq_by_cmp value_cmp o n) refl

module _ (key column : ℕ) where
  -- whether a row has a value in the column
  abbrev has : Value → RowValues → Bool
  has v row = equals v (value_in column row)

  -- the key of a row that has a value there
  known : (k v w : Value) → cond (equals v w) (Some k) None ≡ key_if k v (unless_null w)
  known k v Null = refl
  known k v (Int n) = refl
  known k v (Text t) = refl

  row-key : (k v : Value) (o : Option RowValues) → HasKey value_cmp (value_in key) k o → key_where value_cmp_total (value_in key) (has v) o ≡ key_if k v (known_value column o)
  row-key k v None h = refl
  row-key k v (Some row) h = ap (λ (j : Value). cond (has v row) (Some j) None) h ∙ known k v (value_in column row)

  -- the index of the rows after a change of one
  IsIndexOf-put : (k : Value) (old new : Option RowValues) (rows : List RowValues) (index : ValueKeys) → IsAscending value_cmp (value_in key) rows → row_at key k rows ≡ old → HasKey value_cmp (value_in key) k new → IsIndexOf key column rows index → IsIndexOf key column (put_row key k new rows) (index_after (known_value column old) (known_value column new) k index)
  IsIndexOf-put k old new rows index s stands keyed i =
      let old_keyed : HasKey value_cmp (value_in key) k old = subst (HasKey value_cmp (value_in key) k) stands (HasKey-at value_cmp (value_in key) value_exact k rows) in
      index_after-right k (known_value column old) (known_value column new) (keys_with key column rows) (keys_with key column (put_row key k new rows)) index
      (λ v. ascending-where value_cmp_total (value_in key) (has v) rows s)
      (λ v. at-where value_cmp_total (value_in key) (has v) k rows s ∙ ap (key_where value_cmp_total (value_in key) (has v)) stands ∙ row-key k v old old_keyed)
      (λ v. put-where value_cmp_total (value_in key) (has v) k new rows s ∙ ap (λ p. put value_cmp (λ j. j) k p (keys_with key column rows v)) (row-key k v new keyed))
      i

  -- the same, by the values that the change takes away and brings
  pub index-with : (k : Value) (old new : Option RowValues) (gone come : Option Value) (index made : ValueKeys) → known_value column old ≡ gone → known_value column new ≡ come → made ≡ index_after gone come k index → (rows : List RowValues) → IsAscending value_cmp (value_in key) rows → row_at key k rows ≡ old → HasKey value_cmp (value_in key) k new → IsIndexOf key column rows index → IsIndexOf key column (put_row key k new rows) made
  index-with k old new gone come index made is_gone is_come is rows s stands keyed i =
      subst (IsIndexOf key column (put_row key k new rows))
      (ap (λ (v : Option Value). index_after v (known_value column new) k index) is_gone ∙ ap (λ (v : Option Value). index_after gone v k index) is_come ∙ sym is)
      (IsIndexOf-put k old new rows index s stands keyed i)

  -- the index of the first of some rows and the next one
  pub index-last : (k : Value) (row : RowValues) (come : Option Value) (index made : ValueKeys) → unless_null (value_in column row) ≡ come → made ≡ index_after None come k index → (rows rest : List RowValues) → IsAscending value_cmp (value_in key) (rows ++ row ∷ rest) → value_in key row ≡ k → IsIndexOf key column rows index → IsIndexOf key column (rows ++ row ∷ []) made
  index-last k row come index made is_come is rows rest s keyed i =
      subst (λ (all : List RowValues). IsIndexOf key column all made)
      (ap (λ (j : Value). put_row key j (Some row) rows) (sym keyed) ∙ put-last value_cmp_total (value_in key) rows row rest s)
      (index-with k None (Some row) None come index made refl is_come is rows (ascending-front value_cmp (value_in key) rows (row ∷ rest) s) (ap (λ (j : Value). row_at key j rows) (sym keyed) ∙ at-last value_cmp_total (value_in key) rows row rest s) keyed i)

  -- the index of no rows
  pub IsIndexOf-none : IsIndexOf key column [] []
  IsIndexOf-none = record { in_order = tt; not_empty = All-nil IsFilled; right = λ v. refl }
