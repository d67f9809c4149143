-- Indexes of rows that each stand under their key.
use Rattle.std.proofs.Common.{◌≡◌, ℕ, Bool, true, false, inl, inr, List, [], ◌∷◌, ◌++◌, length, map, not, refl, sym, ◌∙◌, ap, subst, arith, append_assoc}
use Rattle.std.specs.Prelude.{◌⊎◌, filter}
use Rattle.std.specs.Ordering.{eq_by_cmp}
use Rattle.std.specs.declared.cmp.Ordering.TheVariants.{Less}
use Rattle.std.proofs.lemmas.List.Elements.{All-push}
use Rattle.value.specs.declared.values.Value.{Value}
use Rattle.value.specs.declared.values.Value.TheVariants.{Null, Int, Text}
use Rattle.value.specs.ValueOrder.{value_cmp}
use Rattle.value.specs.Ordered.{AreAbove, IsAscending}
use Rattle.pages.specs.Reach.{key_of, AreInOrder}
use Rattle.table.specs.Rows.{RowValues, value_in}
use Rattle.table.specs.Aggregates.{is_there}
use Rattle.groups.specs.Indexes.{ValueKeys, equals, IsIndexOf}
use Rattle.groups.specs.Indexes as indexes
use Rattle.mvrows.specs.Keyed.{rows_of, AreKeyed}
use Rattle.mvrows.specs.Looked.{keys_with}
use Rattle.mvrows.specs.Indexed.{AreIndexesOf, IsVersion, IsIndexSoFar}
use Rattle.mvrows.specs.declared.indexes.ColumnIndex.{ColumnIndex}

abbrev Entry : Type 0
Entry = Value × RowValues

rows_of-append : (xs ys : List Entry) → rows_of (xs ++ ys) ≡ rows_of xs ++ rows_of ys
rows_of-append [] ys = refl
rows_of-append (x ∷ xs) ys = ap (λ rows. x.1 ∷ rows) (rows_of-append xs ys)

above-rows : (column : ℕ) (k : Value) (es : List Entry) → AreKeyed column es → AreAbove value_cmp key_of k es → AreAbove value_cmp (value_in column) k (rows_of es)
above-rows column k [] a b = tt
above-rows column k (e ∷ es) a b = (subst (λ (v : Value). value_cmp k v ≡ Less) a.0 b.0, above-rows column k es a.1 b.1)

-- rows under keys that go up are in order
pub ascending-rows : (column : ℕ) (es : List Entry) → AreKeyed column es → AreInOrder es → IsAscending value_cmp (value_in column) (rows_of es)
ascending-rows column [] a s = tt
ascending-rows column (e ∷ es) a s =
    (subst (λ (v : Value). AreAbove value_cmp (value_in column) v (rows_of es)) a.0 (above-rows column e.0 es a.1 s.0), ascending-rows column es a.1 s.1)

keyed-at : (column : ℕ) (xs : List Entry) (e : Entry) (ys : List Entry) → AreKeyed column (xs ++ e ∷ ys) → e.0 ≡ value_in column e.1
keyed-at column [] e ys a = a.0
keyed-at column (x ∷ xs) e ys a = keyed-at column xs e ys a.1

-- the index of the first rows becomes that of these and the next one
pub next_index : (key column : ℕ) (all left rest : List Entry) (e : Entry) (index made : ValueKeys) → left ≡ e ∷ rest → AreKeyed key all → AreInOrder all
    → ((rows others : List RowValues) → IsAscending value_cmp (value_in key) (rows ++ e.1 ∷ others) → value_in key e.1 ≡ e.0 → IsIndexOf key column rows index → IsIndexOf key column (rows ++ e.1 ∷ []) made)
    → IsIndexSoFar key column all left index → IsIndexSoFar key column all rest made
next_index key column all left rest e index made next keyed order step i =
    let is : i.first ++ e ∷ rest ≡ all = ap (λ (es : List Entry). i.first ++ es) (sym next) ∙ i.split in
    let ascending : IsAscending value_cmp (value_in key) (rows_of i.first ++ e.1 ∷ rows_of rest) =
    subst (IsAscending value_cmp (value_in key)) (rows_of-append i.first (e ∷ rest)) (subst (λ (es : List Entry). IsAscending value_cmp (value_in key) (rows_of es)) (sym is) (ascending-rows key all keyed order)) in
    record {
      first = i.first ++ e ∷ [];
      split = append_assoc i.first (e ∷ []) rest ∙ is;
      indexed = subst (λ (rows : List RowValues). IsIndexOf key column rows made) (sym (rows_of-append i.first (e ∷ [])))
          (step (rows_of i.first) (rows_of rest) ascending (sym (keyed-at key i.first e rest (subst (AreKeyed key) (sym is) keyed))) i.indexed);
    }

-- a value that is there is equal to what ties with it
pub equals-known : (v w : Value) → is_there v ≡ true → equals v w ≡ eq_by_cmp value_cmp v w
equals-known Null w h = absurd (cc)
equals-known (Int n) Null h = refl
equals-known (Int n) (Int m) h = refl
equals-known (Int n) (Text t) h = refl
equals-known (Text t) Null h = refl
equals-known (Text t) (Int m) h = refl
equals-known (Text t) (Text u) h = refl

-- an index has the keys of the rows with a value that is not NULL
pub indexed_keys : (key column : ℕ) (v : Value) (rows : List RowValues) → is_there v ≡ true → indexes.keys_with key column rows v ≡ keys_with key column v rows
indexed_keys key column v rows h =
    ap (λ (p : RowValues → Bool). map (value_in key) (filter p rows)) (λ i row. equals-known v (value_in column row) h i)

-- of no rows any column is the key's
pub version_keyed : (column key : ℕ) (es : List Entry) (list : List ColumnIndex) → (key ≡ column) ⊎ (length es ≡ 0) → IsVersion column es list → IsVersion key es list
version_keyed column key [] list o v = record { keyed = tt; indexed = v.indexed }
version_keyed column key (e ∷ es) list o v = elim o as (λ _. IsVersion key (e ∷ es) list) [
  | inl same ↦ subst (λ (n : ℕ). IsVersion n (e ∷ es) list) (sym same) v
  | inr none ↦ absurd (omega (arith, none))
]

-- with one index more
pub more_indexes : (key column : ℕ) (es made : List Entry) (index : ValueKeys) (list copy more : List ColumnIndex) → made ≡ es → copy ≡ list → more ≡ copy ++ record { column = column; index = index } ∷ []
    → IsIndexOf key column (rows_of es) index → IsVersion key es list → IsVersion key made more
more_indexes key column es made index list copy more same shared is i v =
    let P : ColumnIndex → Type 0 = λ (it : ColumnIndex). IsIndexOf key it.column (rows_of es) it.index in
    let all : AreIndexesOf key (rows_of es) more = subst (AreIndexesOf key (rows_of es)) (sym (is ∙ ap (λ (xs : List ColumnIndex). xs ++ record { column = column; index = index } ∷ []) shared)) (All-push P list (record { column = column; index = index }) v.indexed i) in
    subst (λ (xs : List Entry). IsVersion key xs more) (sym same) (record { keyed = v.keyed; indexed = all })

-- what is not NULL
pub there_unless : (b : Bool) → not b ≡ false → b ≡ true
there_unless b = elim b as (λ b. not b ≡ false → b ≡ true) [ true ↦ λ e. refl | false ↦ λ e. sym e ]
