-- Assertions and statements that are taken.
use Rattle.std.proofs.Common.{◌≡◌, ℕ, Bool, true, false, Option, Some, None, Result, Ok, Err, List, [], ◌∷◌, ◌++◌, append-nil, append_assoc, filter, refl, sym, ap, ◌∙◌, subst}
use Rattle.std.specs.Prelude.{◌&&◌, not, is_some, option_map, ◌==◌, if◌then◌else◌}
use Rattle.std.specs.List.{list_all, list_any}
use Rattle.std.proofs.lemmas.List.Elements.{filter_agree}
use Rattle.std.proofs.lemmas.Bool.{not-true}
use Rattle.value.specs.declared.refusals.Refusal.{Refusal}
use Rattle.value.specs.declared.refusals.Refusal.TheVariants.{AttributeClash, KeyUpdate, NameTaken, TypeMismatch, TooWide}
use Rattle.table.specs.Rows.{RowValues, Tables, layouts_of, column_of}
use Rattle.table.specs.declared.exprs.Expr.{Expr}
use Rattle.table.specs.declared.conds.Cond.{Cond}
use Rattle.table.specs.Bounds.{is_bounded}
use Rattle.table.specs.Eval as resolved
use Rattle.assertion.specs.declared.assertions.Assertion.{Assertion}
use Rattle.assertion.specs.declared.forms.Form.{Form}
use Rattle.assertion.specs.Meaning.{State, rows_of, filtered_rows}
use Rattle.syntax.specs.declared.trees.Condition.{Condition}
use Rattle.syntax.specs.declared.definitions.Attributes.{Attributes}
use Rattle.syntax.specs.declared.statements.UpdateSource.{UpdateSource}
use Rattle.syntax.specs.declared.statements.UpdateSource.TheVariants.{Null, To}
use Rattle.syntax.specs.declared.statements.Assignment.{Assignment}
use Rattle.form_check.specs.Scopes.{Scope}
use Rattle.form_check.specs.Names.{condition_fault}
use Rattle.value.specs.Results.{and_then, if_holds, unless}
use Rattle.value.proofs.Results.{found_ok, provided_is, provided_ok, unless_is, unless_ok}
use Rattle.form_check.specs.Forms.{form_of}
use Rattle.form_check.specs.Queries.{Source, source_of, row_expression, row_filter}
use Rattle.assertcheck.specs.Forms.{is_typed_form}
use Rattle.assertcheck.specs.Types.{is_typed_condition}
use Rattle.assertcheck.specs.Widths.{is_bounded_form}
use Rattle.assertcheck.specs.declared.deletes.Delete.{Delete}
use Rattle.assertcheck.specs.declared.updates.Setting.{Setting}
use Rattle.assertcheck.specs.declared.updates.Update.{Update}
use Rattle.assertcheck.specs.Assertions.{are_at_odds, attributes_of, of_form, checked_assertion}
use Rattle.assertcheck.specs.Conditions.{target_of, sound_condition, filter_fault, filter_of}
use Rattle.assertcheck.specs.Statements.{delete_of, named_column, new_place, unlisted_column}
use Rattle.assertcheck.specs.Updates.{assignable, not_key, update_of, value_of, names_fault, assigned_places, settings_of, fits, is_bounded_setting, sound_update, update_over}
use Rattle.meaning.specs.Meaning.{table_of, truth, passes, with_rows}
use Rattle.meaning.specs.Laws as law
use Rattle.meaning.specs.Laws.{reference_to, rows_by_filter, Pairs, IsPlaceOf, Gives, written_value, given_value}
use Rattle.form_check.proofs.Steps.{and_then_ok, ok_same}
use Rattle.meaning.proofs.Rows.{row_expression_value, row_filter_keeps}
use Rattle.meaning.proofs.Queries.{source_seen}
use Rattle.meaning.proofs.Whole.{HasWrittenRoots-law, HasWrittenTruth-law, HasWrittenLeast-law}
use Rattle.meaning.proofs.Grown.{KeepsForm-law}
use Rattle.meaning.proofs.Classes.{none_is, form_class, class_form}

-- ---- assertions

abbrev made_of : List ℕ → Attributes → Form → Assertion
made_of name attributes form = record { name = name; attributes = attributes_of attributes; form = form }

-- what an assertion that is taken has passed
record Passed (tables : Tables) (name : List ℕ) (condition : Condition) (attributes : Attributes) (assertion : Assertion) : Type 0 where
  agreed : not (are_at_odds attributes) ≡ true
  known : condition_fault tables condition [] ≡ None
  form : Form
  formed : form_of tables condition ≡ Ok form
  typed : is_typed_form (layouts_of tables) form ≡ true
  bounded : is_bounded_form form ≡ true
  made : made_of name attributes form ≡ assertion

passed : (tables : Tables) (name : List ℕ) (condition : Condition) (attributes : Attributes) (assertion : Assertion) → checked_assertion tables name condition attributes ≡ Ok assertion → Passed tables name condition attributes assertion
passed tables name condition attributes assertion e =
    let shaped = and_then (form_of tables condition) (of_form tables name (attributes_of attributes)) in
    let (agreed, named) = provided_is (not (are_at_odds attributes)) (AttributeClash name) (unless (condition_fault tables condition []) shaped) assertion e in
    let (known, rest) = unless_is (condition_fault tables condition []) shaped assertion named in
    let (form, (is, more)) = and_then_ok (form_of tables condition) (of_form tables name (attributes_of attributes)) assertion rest in
    let whole : Result Assertion Refusal = Ok (made_of name attributes form) in
    let bounds : Result Assertion Refusal = if_holds (is_bounded_form form) TooWide whole in
    let (typed, last) = provided_is (is_typed_form (layouts_of tables) form) TypeMismatch bounds assertion more in
    let (bounded, makes) = provided_is (is_bounded_form form) TooWide whole assertion last in
    record { agreed = agreed; known = known; form = form; formed = is; typed = typed; bounded = bounded; made = ok_same (made_of name attributes form) assertion makes }

-- an assertion has the meaning of a condition of its form
has_written : (tables : Tables) (name : List ℕ) (condition : Condition) (attributes : Attributes) (form : Form) → form_of tables condition ≡ Ok form → law.IsWritten tables name condition attributes (made_of name attributes form)
has_written tables name condition attributes form formed = record {
  named = refl;
  attributed = refl;
  roots = HasWrittenRoots-law tables condition form formed;
  truth = HasWrittenTruth-law tables condition form formed;
  least = HasWrittenLeast-law tables condition form formed;
}

pub TakesWritten-law : law.TakesWritten
TakesWritten-law tables name condition attributes assertion e =
    let p = passed tables name condition attributes assertion e in
    subst (law.IsWritten tables name condition attributes) p.made (has_written tables name condition attributes p.form p.formed)

pub StaysWritten-law : law.StaysWritten
StaysWritten-law tables more name condition attributes assertion e =
    let p = passed tables name condition attributes assertion e in
    subst (law.IsWritten (tables ++ more) name condition attributes) p.made (has_written (tables ++ more) name condition attributes p.form (KeepsForm-law tables more condition p.form p.formed))

same_form : (tables : Tables) (condition : Condition) (f g : Form) → form_of tables condition ≡ Ok f → form_of tables condition ≡ Ok g → f ≡ g
same_form tables condition f g e h = ok_same f g (sym e ∙ h)

may_be_taken : (tables : Tables) (name : List ℕ) (condition : Condition) (attributes : Attributes) → ((assertion : Assertion) × (checked_assertion tables name condition attributes ≡ Ok assertion)) → law.MayBeTaken tables condition attributes
may_be_taken tables name condition attributes (assertion, e) =
    let p = passed tables name condition attributes assertion e in record {
      agreed = not-true (are_at_odds attributes) p.agreed;
      known = ap is_some p.known;
      shaped = form_class tables condition (p.form, p.formed);
      typed = λ form is. subst (λ f. is_typed_form (layouts_of tables) f ≡ true) (same_form tables condition p.form form p.formed is) p.typed;
      bounded = λ form is. subst (λ f. is_bounded_form f ≡ true) (same_form tables condition p.form form p.formed is) p.bounded;
    }

is_taken : (tables : Tables) (name : List ℕ) (condition : Condition) (attributes : Attributes) → law.MayBeTaken tables condition attributes → (assertion : Assertion) × (checked_assertion tables name condition attributes ≡ Ok assertion)
is_taken tables name condition attributes may =
    let (form, is) = class_form tables condition may.shaped in
    let shaped = and_then (form_of tables condition) (of_form tables name (attributes_of attributes)) in
    let whole : Result Assertion Refusal = Ok (made_of name attributes form) in
    let bounds : Result Assertion Refusal = if_holds (is_bounded_form form) TooWide whole in (
      made_of name attributes form,
      ap (λ b. if_holds (not b) (AttributeClash name) (unless (condition_fault tables condition []) shaped)) may.agreed
          ∙ ap (λ o. unless o shaped) (none_is (condition_fault tables condition []) may.known)
          ∙ ap (λ r. and_then r (of_form tables name (attributes_of attributes))) is
          ∙ ap (λ b. if_holds b TypeMismatch bounds) (may.typed form is)
          ∙ ap (λ b. if_holds b TooWide whole) (may.bounded form is),
    )

pub TakesExactly-law : law.TakesExactly
TakesExactly-law tables name condition attributes = (may_be_taken tables name condition attributes, is_taken tables name condition attributes)

-- ---- statements

where_filter : (tables : Tables) (scope : Scope) (condition : Option Condition) (restriction : Cond) → filter_of tables scope condition ≡ Ok restriction → row_filter scope condition ≡ Ok restriction
where_filter tables scope condition restriction e =
    let (made, (is, more)) = and_then_ok (row_filter scope condition) (sound_condition scope) restriction (unless_ok (filter_fault tables scope condition) (and_then (row_filter scope condition) (sound_condition scope)) restriction e) in
    let bounded : Result Cond Refusal = if_holds (is_bounded [] made) TooWide (Ok made) in
    let same = provided_ok (is_bounded [] made) TooWide (Ok made) restriction (provided_ok (is_typed_condition scope.layout.columns [] made) TypeMismatch bounded restriction more) in
    is ∙ same

-- the rows that a resolved WHERE keeps of its table
pub filtered_of : (tables : Tables) (state : State) (name : List ℕ) (correlation_name : Option (List ℕ)) (condition : Option Condition) (target : Source) (restriction : Cond) → source_of tables name correlation_name ≡ Some target → row_filter target.scope condition ≡ Ok restriction
    → rows_by_filter tables state name correlation_name condition ≡ filtered_rows restriction (rows_of target.table state)
filtered_of tables state name correlation_name condition target restriction found is =
    let rows = rows_of target.table state in
    ap (λ table. filter (λ row. passes (option_map (truth tables state) condition) (with_rows table (row ∷ []) [])) table.rows) (source_seen tables state name correlation_name target found)
    ∙ filter_agree (λ row. passes (option_map (truth tables state) condition) (with_rows (reference_to target.scope rows) (row ∷ []) [])) (λ row. resolved.keeps row [] restriction) (λ row. row_filter_keeps target.scope condition restriction is tables state row []) rows

-- the parts of a DELETE that is taken
pub record Deletes (tables : Tables) (name : List ℕ) (condition : Option Condition) (delete : Delete) : Type 0 where
  pub target : Source
  pub found : source_of tables name None ≡ Some target
  pub restriction : Cond
  pub keeps : row_filter target.scope condition ≡ Ok restriction
  pub made : ◌≡◌ {A = Delete} (record { table = target.table; filter = restriction }) delete

pub deletes : (tables : Tables) (name : List ℕ) (condition : Option Condition) (delete : Delete) → delete_of tables name condition ≡ Ok delete → Deletes tables name condition delete
deletes tables name condition delete e =
    let make : Source → Cond → Delete = λ target restriction. record { table = target.table; filter = restriction } in
    let (target, (is, more)) = and_then_ok (target_of tables name) (λ target. and_then (filter_of tables target.scope condition) (λ restriction. let r : Result Delete Refusal = Ok (make target restriction) in r)) delete e in
    let (restriction, (keeps, makes)) = and_then_ok (filter_of tables target.scope condition) (λ restriction. let r : Result Delete Refusal = Ok (make target restriction) in r) delete more in
    record { target = target; found = found_ok name (source_of tables name None) target is; restriction = restriction; keeps = where_filter tables target.scope condition restriction keeps; made = ok_same (make target restriction) delete makes }

pub DeletesRows-law : law.DeletesRows
DeletesRows-law tables name condition delete e state =
    let d = deletes tables name condition delete e in
    filtered_of tables state name None condition d.target d.restriction d.found d.keeps ∙ ap (λ (d : Delete). filtered_rows d.filter (rows_of d.table state)) d.made

named_is : (scope : Scope) (name : List ℕ) (place : ℕ) → named_column scope.layout.columns name ≡ Ok place → IsPlaceOf scope name place
named_is scope name place e = found_ok name (column_of name scope.layout.columns) place e

-- the parts of an UPDATE that is taken
pub record Updates (tables : Tables) (name : List ℕ) (sets : List Assignment) (condition : Option Condition) (update : Update) : Type 0 where
  pub target : Source
  pub found : source_of tables name None ≡ Some target
  pub columns : List ℕ
  pub assigned : assigned_places target.scope.layout [] sets ≡ Ok columns
  pub settings : List Setting
  pub set : settings_of target.scope columns sets ≡ Ok settings
  pub restriction : Cond
  pub keeps : row_filter target.scope condition ≡ Ok restriction
  pub made : ◌≡◌ {A = Update} (record { table = target.table; sets = settings; filter = restriction }) update

pub updates : (tables : Tables) (name : List ℕ) (sets : List Assignment) (condition : Option Condition) (update : Update) → update_of tables name sets condition ≡ Ok update → Updates tables name sets condition update
updates tables name sets condition update e =
    let make : Source → List Setting → Cond → Update = λ target settings restriction. record { table = target.table; sets = settings; filter = restriction } in
    let (target, (is, more)) = and_then_ok (target_of tables name) (λ target. and_then (assigned_places target.scope.layout [] sets) (λ columns. unless (names_fault tables target.scope sets condition) (update_over target columns sets condition))) update e in
    let (columns, (are, rest)) = and_then_ok (assigned_places target.scope.layout [] sets) (λ columns. unless (names_fault tables target.scope sets condition) (update_over target columns sets condition)) update more in
    let over = unless_ok (names_fault tables target.scope sets condition) (update_over target columns sets condition) update rest in
    let (settings, (set, last)) = and_then_ok (settings_of target.scope columns sets) (λ settings. and_then (row_filter target.scope condition) (λ restriction. sound_update target.scope.layout.columns (make target settings restriction))) update over in
    let (restriction, (keeps, sound)) = and_then_ok (row_filter target.scope condition) (λ restriction. sound_update target.scope.layout.columns (make target settings restriction)) update last in
    let made = make target settings restriction in
    let bounded : Result Update Refusal = if_holds (list_all is_bounded_setting settings && is_bounded [] restriction) TooWide (Ok made) in
    let same = provided_ok (list_all is_bounded_setting settings && is_bounded [] restriction) TooWide (Ok made) update (provided_ok (list_all (fits target.scope.layout.columns) settings && is_typed_condition target.scope.layout.columns [] restriction) TypeMismatch bounded update sound) in
    record { target = target; found = found_ok name (source_of tables name None) target is; columns = columns; assigned = are; settings = settings; set = set; restriction = restriction; keeps = keeps; made = ok_same made update same }

pub UpdatesRows-law : law.UpdatesRows
UpdatesRows-law tables name sets condition update e state =
    let u = updates tables name sets condition update e in
    filtered_of tables state name None condition u.target u.restriction u.found u.keeps ∙ ap (λ (u : Update). filtered_rows u.filter (rows_of u.table state)) u.made

-- a test that refuses, or else hands on
not_refused : (b : Bool) (refusal : Refusal) (c d : ℕ) → ◌≡◌ {A = Result ℕ Refusal} (if b then Err refusal else Ok c) (Ok d) → c ≡ d
not_refused true refusal c d e = cc
not_refused false refusal c d e = ok_same c d e

assignable_is : (scope : Scope) (before : List ℕ) (name : List ℕ) (place : ℕ) → assignable scope.layout before name ≡ Ok place → IsPlaceOf scope name place
assignable_is scope before name place e =
    let (new, (is, rest)) = and_then_ok (new_place scope.layout.columns before name) (not_key scope.layout.key name) place e in
    let (c, (named, more)) = and_then_ok (named_column scope.layout.columns name) (unlisted_column before name) new is in
    let same = not_refused (list_any (λ place. place == c) before) (NameTaken name) c new more ∙ not_refused (new == scope.layout.key) (KeyUpdate name) new place rest in
    subst (IsPlaceOf scope name) same (named_is scope name c named)

abbrev IsAssigned : Scope → Assignment → ℕ → Type 0
IsAssigned scope assignment place = IsPlaceOf scope assignment.column place

assigned_are : (scope : Scope) (before : List ℕ) (sets : List Assignment) (columns : List ℕ) → assigned_places scope.layout before sets ≡ Ok columns → (more : List ℕ) × ((columns ≡ before ++ more) × Pairs (IsAssigned scope) sets more)
assigned_are scope before [] columns e = let none : List ℕ = [] in (none, (sym (ok_same before columns e) ∙ sym (append-nil before), tt))
assigned_are scope before (assignment ∷ rest) columns e =
    let (new, (is, more)) = and_then_ok (assignable scope.layout before assignment.column) (λ new. assigned_places scope.layout (before ++ new ∷ []) rest) columns e in
    let (others, (are, pairs)) = assigned_are scope (before ++ new ∷ []) rest columns more in
    (new ∷ others, (are ∙ append_assoc before (new ∷ []) others, (assignable_is scope before assignment.column new is, pairs)))

value_is : (tables : Tables) (state : State) (scope : Scope) (rows : List RowValues) (assigned : UpdateSource) (made : Option Expr) → value_of scope assigned ≡ Ok made → (row : RowValues) → written_value tables state (reference_to scope rows) assigned row ≡ given_value made row
value_is tables state scope rows Null made e row = ap (λ m. given_value m row) (ok_same None made e)
value_is tables state scope rows (To expression) made e row =
    let (found, (is, makes)) = and_then_ok (row_expression scope expression) (λ found. let r : Result (Option Expr) Refusal = Ok (Some found) in r) made e in
    row_expression_value scope expression found is tables state row [] ∙ ap (λ m. given_value m row) (ok_same (Some found) made makes)

settings_are : (tables : Tables) (state : State) (scope : Scope) (rows : List RowValues) (columns : List ℕ) (sets : List Assignment) (settings : List Setting) → Pairs (IsAssigned scope) sets columns → settings_of scope columns sets ≡ Ok settings
    → Pairs (Gives tables state (reference_to scope rows)) sets settings
settings_are tables state scope rows [] [] settings h e = let none : List Setting = [] in subst (Pairs (Gives tables state (reference_to scope rows)) []) (ok_same none settings e) tt
settings_are tables state scope rows [] (assignment ∷ sets) settings h e = absurd h
settings_are tables state scope rows (column ∷ columns) [] settings h e = absurd h
settings_are tables state scope rows (column ∷ columns) (assignment ∷ rest) settings h e =
    let make : Option Expr → Setting = λ value. record { column = column; value = value } in
    let (value, (is, more)) = and_then_ok (value_of scope assignment.value) (λ value. and_then (settings_of scope columns rest) (λ others. let r : Result (List Setting) Refusal = Ok (make value ∷ others) in r)) settings e in
    let (others, (are, makes)) = and_then_ok (settings_of scope columns rest) (λ others. let r : Result (List Setting) Refusal = Ok (make value ∷ others) in r) settings more in
    subst (Pairs (Gives tables state (reference_to scope rows)) (assignment ∷ rest)) (ok_same (make value ∷ others) settings makes)
    (record { column = h.0; value = value_is tables state scope rows assignment.value value is }, settings_are tables state scope rows columns rest others h.1 are)

pub UpdatesColumns-law : law.UpdatesColumns
UpdatesColumns-law tables name sets condition update e state =
    let u = updates tables name sets condition update e in
    let (columns, (are, pairs)) = assigned_are u.target.scope [] sets u.columns u.assigned in
    let rows = rows_of u.target.table state in
    subst (λ (made : Update). Pairs (Gives tables state (table_of tables state name None)) sets made.sets) u.made
    (subst (λ table. Pairs (Gives tables state table) sets u.settings) (sym (source_seen tables state name None u.target u.found))
    (settings_are tables state u.target.scope rows u.columns sets u.settings (subst (Pairs (IsAssigned u.target.scope) sets) (sym are) pairs) u.set))
