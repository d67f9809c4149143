-- Changes of tables whose new rows fit are restored.
use Rattle.std.proofs.Common.{◌≡◌, ℕ, true, cond, List, [], ◌∷◌, length, Option, Some, None, refl, sym, ap, ◌∙◌, subst}
use Rattle.std.specs.Prelude.{◌&&◌, ◌^◌, nat_lt, unsigned_abs}
use Rattle.std.specs.Option.{is_none, option_or}
use Rattle.std.proofs.lemmas.Bool.{and_from, le-leb, lt-ltb}
use Rattle.value.specs.declared.refusals.Excess.TheVariants as excess
use Rattle.value.specs.declared.refusals.Refusal.TheVariants.{NullNotAllowed, OutOfRange, TypeMismatch}
use Rattle.value.specs.declared.values.ColType.{ColType}
use Rattle.value.specs.declared.values.ColType.TheVariants.{Integer, Varchar}
use Rattle.value.specs.declared.values.Value.{Value}
use Rattle.value.specs.declared.values.Value.TheVariants.{Null, Int, Text}
use Rattle.value.specs.Texts.{character_count}
use Rattle.value.specs.ValueOrder.{value_cmp}
use Rattle.value.specs.Ordered.{HasKey, HoldsOf}
use Rattle.table.specs.declared.schemas.Column.{Column}
use Rattle.table.specs.declared.rows.Change.{Change}
use Rattle.table.specs.Faults.{are_typed, fault_in, is_typed, row_fault, row_refusal, text_fault}
use Rattle.table.specs.Rows.{FitsColumn, FitsColumns, FitsText, Layout, RowValues, layout_at, value_in}
use Rattle.assertion.specs.Changes.{AreChangesOf, IsChangeOf, state_after, state_after_all}
use Rattle.assertion.specs.Meaning.{State}
use Rattle.delta.specs.Views.{IsFitting}
use Rattle.siread.specs.Keys.{same_value}
use Rattle.siread.proofs.KeyOrder.{same_value-refl}
use Rattle.alone.specs.States.{same_there}
use Rattle.alone.proofs.Lists.{Each}
use Rattle.alone.proofs.Stores.{same_there-refl}
use Rattle.durable.specs.Restoring.{is_due, is_row_for, restored_changes}
use Rattle.durable.proofs.Due.{row_for, stands}

-- ---- a row that fits is none that an INSERT refuses

null_typed : (kind : ColType) → is_typed kind Null ≡ true
null_typed Integer = refl
null_typed (Varchar most) = refl

text_typed : (kind : ColType) (bytes : List ℕ) → FitsText kind bytes → is_typed kind (Text bytes) ≡ true
text_typed Integer bytes f = absurd f
text_typed (Varchar most) bytes f = f.1

value_typed : (c : Column) (v : Value) → FitsColumn c v → is_typed c.kind v ≡ true
value_typed c Null f = null_typed c.kind
value_typed c (Int n) f = subst (λ kind. is_typed kind (Int n) ≡ true) (sym f.0) refl
value_typed c (Text bytes) f = text_typed c.kind bytes f

typed : (cs : List Column) (vs : RowValues) → FitsColumns cs vs → are_typed cs vs ≡ true
typed [] [] f = refl
typed [] (v ∷ vs) f = absurd f
typed (c ∷ cs) [] f = absurd f
typed (c ∷ cs) (v ∷ vs) f = and_from (is_typed c.kind v) (are_typed cs vs) (value_typed c v f.0) (typed cs vs f.1)

text_faultless : (name : List ℕ) (kind : ColType) (bytes : List ℕ) → FitsText kind bytes → text_fault name kind bytes ≡ None
text_faultless name Integer bytes f = absurd f
text_faultless name (Varchar most) bytes f = ap (λ b. cond b None (Some (OutOfRange name excess.Text))) (le-leb (character_count bytes) most f.0)

value_faultless : (c : Column) (v : Value) → FitsColumn c v → fault_in c v ≡ None
value_faultless c Null f = ap (λ b. cond b None (Some (NullNotAllowed c.name))) f
value_faultless c (Int n) f = ap (λ b. cond b None (Some (OutOfRange c.name excess.Number))) (le-leb (unsigned_abs n) (10 ^ 15) f.1)
value_faultless c (Text bytes) f = text_faultless c.name c.kind bytes f

faultless : (cs : List Column) (vs : RowValues) → FitsColumns cs vs → row_fault cs vs ≡ None
faultless [] vs f = refl
faultless (c ∷ cs) [] f = absurd f
faultless (c ∷ cs) (v ∷ vs) f = ap (λ o. option_or o (row_fault cs vs)) (value_faultless c v f.0) ∙ faultless cs vs f.1

unrefused : (columns : List Column) (row : RowValues) → FitsColumns columns row → row_refusal columns row ≡ None
unrefused columns row f = ap (λ b. cond b (row_fault columns row) (Some TypeMismatch)) (typed columns row f) ∙ faultless columns row f

-- ---- so each change is due in its turn

row_for_key : (layout : Layout) (key : Value) (new : Option RowValues) → HasKey value_cmp (value_in layout.key) key new → HoldsOf (FitsColumns layout.columns) new → is_row_for layout key new ≡ true
row_for_key layout key None k f = refl
row_for_key layout key (Some row) k f =
    and_from (is_none (row_refusal layout.columns row)) (same_value (value_in layout.key row) key)
    (ap is_none (unrefused layout.columns row f))
    (subst (λ v. same_value (value_in layout.key row) v ≡ true) k (same_value-refl (value_in layout.key row)))

module _ (layouts : List Layout) where
  change_due : (change : Change) (state : State) → IsChangeOf layouts change state → IsFitting layouts change → is_due layouts change state ≡ true
  change_due change state is fits =
      and_from (nat_lt change.table (length state)) (stands layouts change state && row_for layouts change state)
      (lt-ltb change.table (length state) is.table_in)
      (and_from (stands layouts change state) (row_for layouts change state)
      (subst (λ (row : Option RowValues). same_there row change.old ≡ true) (sym is.stands) (same_there-refl change.old))
      (row_for_key (layout_at change.table layouts) change.key change.new is.keyed fits))

  pub put_back : (changes : List Change) (state : State) → AreChangesOf layouts changes state → Each (IsFitting layouts) changes → restored_changes layouts changes state ≡ Some (state_after_all layouts changes state)
  put_back [] state are fit = refl
  put_back (change ∷ rest) state are fit =
      ap (λ b. cond b (restored_changes layouts rest (state_after layouts change state)) None) (change_due change state are.0 fit.0)
      ∙ put_back rest (state_after layouts change state) are.1 fit.1
