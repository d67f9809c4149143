-- The assertions that are taken in are those that are written.
use Rattle.std.proofs.Common.{◌≡◌, ◌≤◌, ◌==◌, ℕ, zero, suc, arith, List, [], ◌∷◌, ◌++◌, Option, Some, Result, Ok, length, drop, map, append-nil, append_assoc, refl, sym, ◌∙◌, ap, subst}
use Rattle.std.specs.Prelude.{not, is_none, is_some, unwrap_or}
use Rattle.std.specs.List.{flat_map}
use Rattle.value.specs.declared.refusals.Refusal.{Refusal}
use Rattle.value.specs.declared.refusals.Refusal.TheVariants.{NameTaken, OutsideClass, TypeMismatch, UnknownName}
use Rattle.value.specs.Results.{and_then, result_of_name}
use Rattle.value.proofs.Results.{and_then_ok, found_ok, ok_same, provided_ok, unless_ok}
use Rattle.table.specs.Rows.{Layout, Tables, column_of, layout_of}
use Rattle.syntax.specs.declared.trees.Condition.{Condition}
use Rattle.syntax.specs.declared.statements.Insert.{Insert}
use Rattle.syntax.specs.declared.definitions.Constraint.{Constraint}
use Rattle.syntax.specs.declared.definitions.Constraint.TheVariants as constraint
use Rattle.syntax.specs.declared.definitions.Definition.{Definition}
use Rattle.syntax.specs.declared.definitions.Definition.TheVariants as definition
use Rattle.syntax.specs.declared.definitions.ForeignKey.{ForeignKey}
use Rattle.syntax.specs.declared.definitions.TableConstraint.{TableConstraint}
use Rattle.syntax.specs.declared.definitions.TableDefinition.{TableDefinition}
use Rattle.assertion.specs.declared.assertions.Assertion.{Assertion}
use Rattle.assertion.specs.Declarations.{Declared, layouts_in}
use Rattle.assertion.specs.Changes.{state_after_all}
use Rattle.assertcheck.specs.Assertions.{checked_assertion}
use Rattle.assertcheck.specs.Conditions.{target_of}
use Rattle.assertcheck.specs.Statements.{insert_of}
use Rattle.alone.specs.Statements.{insertions}
use Rattle.meaning.specs.Laws.{Pairs}
use Rattle.meaning.proofs.Checked.{StaysWritten-law}
use Rattle.meaning.proofs.Grown.{layout_grown}
use Rattle.delta.specs.Views.{ViewState}
use Rattle.changes.specs.Insertions.{tables_after_insert}
use Rattle.definitions.specs.declared.constraints.UniqueColumns.{UniqueColumns}
use Rattle.definitions.specs.Constraints.{columns_fault, condition_of, constraint_name, each_is_there, is_one_row, key_columns, no_two_agree, referenced_columns, unique_in}
use Rattle.definitions.specs.Tables.{layout_from}
use Rattle.definitions.specs.Taken.{Taken, index_fault, index_in, is_asserted, nothing_taken, taken_of, taken_with, view_of_definitions, with_all, with_assertion, with_constraint, with_constraints, with_definition, with_index, with_table}
use Rattle.definitions.specs.Written.{AreWritten, IsAsWritten, WrittenAssertion, constraint_condition, found_or_none, written_by, written_in}

-- what is added: tables behind those that there were, and behind the assertions those that are written, as they read over
-- the tables that there are then
record Adds (writes : Tables → List WrittenAssertion) (before after : Declared) : Type 0 where
  later : Tables
  more : List Assertion
  tables : after.tables ≡ before.tables ++ later
  assertions : after.assertions ≡ before.assertions ++ more
  written : Pairs (IsAsWritten after.tables) (writes after.tables) more

-- the assertions that definitions write
abbrev all_in : List Definition → Tables → List WrittenAssertion
all_in definitions tables = flat_map (written_in tables) definitions

-- a table more
table_first : (writes : Tables → List WrittenAssertion) (t : TableDefinition) (now next : ViewState) (after : Declared) → with_table t.name t.columns t.keys now ≡ Ok next → Adds writes next.declared after → Adds writes now.declared after
table_first writes t now next after e adds =
    let make : Layout → ViewState = λ layout. record { declared = record (now.declared) { tables = now.declared.tables ++ (t.name, layout) ∷ [] }; state = now.state ++ [] ∷ [] } in
    let step : Layout → Result ViewState Refusal = λ layout. Ok (make layout) in
    let found = and_then_ok (layout_from t.columns t.keys) step next (provided_ok (is_none (layout_of t.name now.declared.tables)) (NameTaken t.name) (and_then (layout_from t.columns t.keys) step) next e) in
    let is : make found.0 ≡ next = ok_same (make found.0) next found.1.1 in
    record {
      later = (t.name, found.0) ∷ adds.later;
      more = adds.more;
      tables = adds.tables ∙ ap (λ (s : ViewState). s.declared.tables ++ adds.later) (sym is) ∙ append_assoc now.declared.tables ((t.name, found.0) ∷ []) adds.later;
      assertions = adds.assertions ∙ ap (λ (s : ViewState). s.declared.assertions ++ adds.more) (sym is);
      written = adds.written;
    }

-- an assertion more, which is the one that is written, also over the tables that come later
assertion_first : (w : Tables → WrittenAssertion) (writes : Tables → List WrittenAssertion) (written : WrittenAssertion) (now next : ViewState) (after : Declared)
    → ((later : Tables) → w (now.declared.tables ++ later) ≡ written) → with_assertion written.name written.condition written.attributes now ≡ Ok next → Adds writes next.declared after → Adds (λ tables. w tables ∷ writes tables) now.declared after
assertion_first w writes written now next after reads e adds =
    let make : Assertion → ViewState = λ a. record now { declared = record (now.declared) { assertions = now.declared.assertions ++ a ∷ [] } } in
    let step : Assertion → Result ViewState Refusal = λ a. Ok (make a) in
    let checked = checked_assertion now.declared.tables written.name written.condition written.attributes in
    let found = and_then_ok checked step next (provided_ok (not (is_asserted written.name now.declared.assertions)) (NameTaken written.name) (and_then checked step) next e) in
    let is : make found.0 ≡ next = ok_same (make found.0) next found.1.1 in
    let tables : after.tables ≡ now.declared.tables ++ adds.later = adds.tables ∙ ap (λ (s : ViewState). s.declared.tables ++ adds.later) (sym is) in
    let here : IsAsWritten (now.declared.tables ++ adds.later) (w (now.declared.tables ++ adds.later)) found.0 =
    subst (λ (v : WrittenAssertion). IsAsWritten (now.declared.tables ++ adds.later) v found.0) (sym (reads adds.later))
    (StaysWritten-law now.declared.tables adds.later written.name written.condition written.attributes found.0 found.1.0) in
    record {
      later = adds.later;
      more = found.0 ∷ adds.more;
      tables = tables;
      assertions = adds.assertions ∙ ap (λ (s : ViewState). s.declared.assertions ++ adds.more) (sym is) ∙ append_assoc now.declared.assertions (found.0 ∷ []) adds.more;
      written = (subst (λ (ts : Tables). IsAsWritten ts (w ts) found.0) (sym tables) here, adds.written);
    }

-- the columns that a foreign key refers to stay the same where tables are added
referenced_grown : (tables later : Tables) (key : ForeignKey) (columns : List (List ℕ)) → referenced_columns tables key ≡ Ok columns → referenced_columns (tables ++ later) key ≡ Ok columns
referenced_grown tables later key columns e =
    let step : Layout → Result (List (List ℕ)) Refusal = λ layout. Ok (unwrap_or key.referenced (key_columns layout)) in
    let found = and_then_ok (result_of_name key.table (layout_of key.table tables)) step columns e in
    let grown : layout_of key.table (tables ++ later) ≡ Some found.0 = layout_grown key.table tables later found.0 (found_ok key.table (layout_of key.table tables) found.0 found.1.0) in
    ap (λ (o : Option Layout). and_then (result_of_name key.table o) step) grown ∙ found.1.1

-- what a constraint says is the condition that was taken in
condition_stays : (tables later : Tables) (unique : List UniqueColumns) (table : List ℕ) (k : Constraint) (condition : Condition) → condition_of tables unique table k ≡ Ok condition → constraint_condition (tables ++ later) table k ≡ condition
condition_stays tables later unique table (constraint.Unique columns) condition e = ok_same (no_two_agree table columns) condition (unless_ok (columns_fault tables table columns) (Ok (no_two_agree table columns)) condition e)
condition_stays tables later unique table (constraint.Check column checked) condition e = ok_same checked condition e
condition_stays tables later unique table (constraint.ForeignKey key) condition e =
    let found = and_then_ok (referenced_columns tables key) _ condition (unless_ok (columns_fault tables table key.columns) _ condition e) in
    let enough = unless_ok (columns_fault tables key.table found.0) _ condition found.1.1 in
    let fits = provided_ok (length found.0 == length key.columns) TypeMismatch _ condition enough in
    let one = provided_ok (is_one_row tables unique key.table found.0) OutsideClass (Ok (each_is_there table key found.0)) condition fits in
    ap (λ (r : Result (List (List ℕ)) Refusal). each_is_there table key (found_or_none r)) (referenced_grown tables later key found.0 found.1.0)
    ∙ ok_same (each_is_there table key found.0) condition one

-- the assertion of a constraint more
constraint_first : (unique : List UniqueColumns) (table : List ℕ) (c : TableConstraint) (writes : Tables → List WrittenAssertion) (now next : ViewState) (after : Declared)
    → with_constraint unique table c now ≡ Ok next → Adds writes next.declared after → Adds (λ tables. written_by tables table c ∷ writes tables) now.declared after
constraint_first unique table c writes now next after e adds =
    let step : Condition → Result ViewState Refusal = λ condition. with_assertion (constraint_name table c) condition c.attributes now in
    let found = and_then_ok (condition_of now.declared.tables unique table c.constraint) step next e in
    let make : Condition → WrittenAssertion = λ condition. record { name = constraint_name table c; condition = condition; attributes = c.attributes } in
    assertion_first (λ tables. written_by tables table c) writes (make found.0) now next after
    (λ later. ap make (condition_stays now.declared.tables later unique table c.constraint found.0 found.1.0)) found.1.1 adds

-- those of several constraints
constraints_first : (unique : List UniqueColumns) (table : List ℕ) (cs : List TableConstraint) (writes : Tables → List WrittenAssertion) (now next : ViewState) (after : Declared)
    → with_constraints unique table cs now ≡ Ok next → Adds writes next.declared after → Adds (λ tables. map (written_by tables table) cs ++ writes tables) now.declared after
constraints_first unique table [] writes now next after e adds = subst (λ (s : ViewState). Adds writes s.declared after) (sym (ok_same now next e)) adds
constraints_first unique table (c ∷ cs) writes now next after e adds =
    let found = and_then_ok (with_constraint unique table c now) (with_constraints unique table cs) next e in
    constraint_first unique table c (λ tables. map (written_by tables table) cs ++ writes tables) now found.0 after found.1.0
    (constraints_first unique table cs writes found.0 next after found.1.1 adds)

-- what changes no declaration
same_declared : (writes : Tables → List WrittenAssertion) (now next : ViewState) (after : Declared) → next.declared ≡ now.declared → Adds writes next.declared after → Adds writes now.declared after
same_declared writes now next after is adds = subst (λ (d : Declared). Adds writes d after) is adds

-- a row more, which declares nothing
row_first : (writes : Tables → List WrittenAssertion) (insert : Insert) (now next : ViewState) (after : Declared) → tables_after_insert now insert ≡ Ok next → Adds writes next.declared after → Adds writes now.declared after
row_first writes insert now next after e adds =
    let new = and_then_ok (insert_of now.declared.tables insert) _ next e in
    let changes = and_then_ok (insertions now.declared.tables new.0.table now.state new.0.rows) _ next new.1.1 in
    let is : record now { state = state_after_all (layouts_in now.declared) changes.0 now.state } ≡ next = ok_same _ next changes.1.1 in
    same_declared writes now next after (ap (λ (s : ViewState). s.declared) (sym is)) adds

-- an index more, which changes nothing
index_first : (writes : Tables → List WrittenAssertion) (table column : List ℕ) (now next : ViewState) (after : Declared) → with_index table column now ≡ Ok next → Adds writes next.declared after → Adds writes now.declared after
index_first writes table column now next after e adds =
    let found = and_then_ok (target_of now.declared.tables table) _ next e in
    let is : now ≡ next = ok_same now next (provided_ok (is_some (column_of column found.0.scope.layout.columns)) (UnknownName column) (Ok now) next found.1.1) in
    same_declared writes now next after (ap (λ (s : ViewState). s.declared) (sym is)) adds

one_first : (unique : List UniqueColumns) (d : Definition) (rest : List Definition) (now next : ViewState) (after : Declared) → with_definition unique d now ≡ Ok next → Adds (all_in rest) next.declared after → Adds (all_in (d ∷ rest)) now.declared after
one_first unique (definition.Table t) rest now next after e adds =
    let found = and_then_ok (with_table t.name t.columns t.keys now) (with_constraints unique t.name t.constraints) next e in
    table_first (all_in (definition.Table t ∷ rest)) t now found.0 after found.1.0
    (constraints_first unique t.name t.constraints (all_in rest) found.0 next after found.1.1 adds)
one_first unique (definition.Assertion name condition attributes) rest now next after e adds =
    let w : WrittenAssertion = record { name = name; condition = condition; attributes = attributes } in
    assertion_first (λ tables. w) (all_in rest) w now next after (λ later. refl) e adds
one_first unique (definition.Insert insert) rest now next after e adds = row_first (all_in rest) insert now next after e adds
one_first unique (definition.Index name table column) rest now next after e adds = index_first (all_in rest) table column now next after e adds

all_add : (definitions : List Definition) (now made : Taken) → with_all definitions now ≡ Ok made → Adds (all_in definitions) now.shown.declared made.shown.declared
all_add [] now made e =
    let same : now ≡ made = ok_same now made e in
    record {
      later = [];
      more = [];
      tables = ap (λ (t : Taken). t.shown.declared.tables) (sym same) ∙ sym (append-nil now.shown.declared.tables);
      assertions = ap (λ (t : Taken). t.shown.declared.assertions) (sym same) ∙ sym (append-nil now.shown.declared.assertions);
      written = tt;
    }
all_add (d ∷ rest) now made e =
    let unique = now.unique ++ unique_in d in
    let make : ViewState → Taken = λ shown. record { shown = shown; indexes = now.indexes ++ index_in d; unique = unique } in
    let next = and_then_ok (taken_with d now) (with_all rest) made e in
    let found = and_then_ok (with_definition unique d now.shown) (λ shown. Ok (make shown)) next.0 (unless_ok (index_fault now.indexes d) (and_then (with_definition unique d now.shown) (λ shown. Ok (make shown))) next.0 next.1.0) in
    let is : make found.0 ≡ next.0 = ok_same (make found.0) next.0 found.1.1 in
    one_first unique d rest now.shown found.0 made.shown.declared found.1.0
    (subst (λ (t : Taken). Adds (all_in rest) t.shown.declared made.shown.declared) (sym is) (all_add rest next.0 made next.1.1))

-- what was taken in has the assertions that were written
all_taken : (definitions : List Definition) (made : Taken) → taken_of definitions ≡ Ok made → AreWritten definitions made.shown.declared
all_taken definitions made e =
    let adds = all_add definitions nothing_taken made e in
    subst (λ (all : List Assertion). Pairs (IsAsWritten made.shown.declared.tables) (all_in definitions made.shown.declared.tables) all) (sym adds.assertions) adds.written

-- what definitions define has the assertions that they write
pub taken_written : (definitions : List Definition) (made : ViewState) → view_of_definitions definitions ≡ Ok made → AreWritten definitions made.declared
taken_written definitions made e =
    let taken = and_then_ok (taken_of definitions) (λ t. Ok t.shown) made e in
    let is : taken.0.shown ≡ made = ok_same taken.0.shown made taken.1.1 in
    subst (λ (s : ViewState). AreWritten definitions s.declared) is (all_taken definitions taken.0 taken.1.0)

none_left : {X : Type 0} (xs : List X) (n : ℕ) → length xs ≤ n → drop n xs ≡ []
none_left [] zero h = refl
none_left [] (suc n) h = refl
none_left (x ∷ xs) zero h = absurd (omega arith)
none_left (x ∷ xs) (suc n) h = none_left xs n (omega arith)

-- when no definition is left, all are taken in
pub all_written : (definitions : List Definition) (made : Taken) (n : ℕ) → length definitions ≤ n → with_all (drop n definitions) made ≡ taken_of definitions → AreWritten definitions made.shown.declared
all_written definitions made n h e = all_taken definitions made (sym e ∙ ap (λ (ds : List Definition). with_all ds made) (none_left definitions n h))
