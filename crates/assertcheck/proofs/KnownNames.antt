-- An UPDATE or a WHERE that could be made over the rows of its table knows its names.
use Rattle.std.proofs.Common.{◌≡◌, ◌≢◌, ◌∙◌, ℕ, Option, Some, None, Result, Ok, Err, List, [], ◌∷◌, length, refl, ap, arith}
use Rattle.std.specs.Prelude.{IfOk, IfErr}
use Rattle.value.specs.declared.refusals.Refusal.{Refusal}
use Rattle.value.specs.declared.refusals.Refusal.TheVariants.{NoMemory}
use Rattle.value.specs.Results.{and_then, unless}
use Rattle.value.proofs.Results.{and_then_ok}
use Rattle.table.specs.Rows.{Tables}
use Rattle.table.specs.declared.conds.Cond.{Cond}
use Rattle.table.specs.declared.exprs.Expr.{Expr}
use Rattle.syntax.specs.declared.trees.Condition.{Condition}
use Rattle.syntax.specs.declared.statements.UpdateSource.{UpdateSource}
use Rattle.syntax.specs.declared.statements.UpdateSource.TheVariants.{Null, To}
use Rattle.syntax.specs.declared.statements.Assignment.{Assignment}
use Rattle.form_check.specs.Scopes.{Scope}
use Rattle.form_check.specs.Queries.{Source, row_expression, row_filter}
use Rattle.form_check.proofs.KnownNames.{both_none, row_condition_known, row_expression_known}
use Rattle.assertcheck.specs.declared.updates.Setting.{Setting}
use Rattle.assertcheck.specs.declared.updates.Update.{Update}
use Rattle.assertcheck.specs.Conditions.{filter_fault, filter_of, sound_condition, target_of}
use Rattle.assertcheck.specs.Updates.{assigned_places, names_fault, settings_of, sound_update, update_of, update_over, value_fault, value_of, values_fault}

pub filter_known : (tables : Tables) (scope : Scope) (condition : Option Condition) (made : Cond) → row_filter scope condition ≡ Ok made → filter_fault tables scope condition ≡ None
filter_known tables scope None made e = refl
filter_known tables scope (Some condition) made e = row_condition_known tables scope condition made e

value_known : (tables : Tables) (scope : Scope) (value : UpdateSource) (made : Option Expr) → value_of scope value ≡ Ok made → value_fault tables scope value ≡ None
value_known tables scope Null made e = refl
value_known tables scope (To expression) made e =
    let (x, (is, more)) = and_then_ok (row_expression scope expression) (λ x. Ok (Some x)) made e in
    row_expression_known tables scope expression x is

values_known : (tables : Tables) (scope : Scope) (columns : List ℕ) (sets : List Assignment) (made : List Setting) → length columns ≡ length sets → settings_of scope columns sets ≡ Ok made → values_fault tables scope sets ≡ None
values_known tables scope columns [] made long e = refl
values_known tables scope [] (assignment ∷ rest) made long e = cc
values_known tables scope (column ∷ columns) (assignment ∷ rest) made long e =
    let (value, (is, more)) = and_then_ok (value_of scope assignment.value) (λ value. and_then (settings_of scope columns rest) (λ others. Ok (record { column = column; value = value } ∷ others))) made e in
    let (others, (are, last)) = and_then_ok (settings_of scope columns rest) (λ others. Ok (record { column = column; value = value } ∷ others)) made more in
    both_none (value_fault tables scope assignment.value) (values_fault tables scope rest) (value_known tables scope assignment.value value is) (values_known tables scope columns rest others (omega (arith, long)) are)

pub names_known : (tables : Tables) (target : Source) (columns : List ℕ) (sets : List Assignment) (condition : Option Condition) (update : Update) → length columns ≡ length sets → update_over target columns sets condition ≡ Ok update
    → names_fault tables target.scope sets condition ≡ None
names_known tables target columns sets condition update long e =
    let next : List Setting → Cond → _ = λ settings restriction. sound_update target.scope.layout.columns (record { table = target.table; sets = settings; filter = restriction }) in
    let (settings, (are, more)) = and_then_ok (settings_of target.scope columns sets) (λ settings. and_then (row_filter target.scope condition) (next settings)) update e in
    let (restriction, (is, last)) = and_then_ok (row_filter target.scope condition) (next settings) update more in
    both_none (values_fault tables target.scope sets) (filter_fault tables target.scope condition) (values_known tables target.scope columns sets settings long are) (filter_known tables target.scope condition restriction is)

-- the answer is that of the last step
pub is_made : {A : Type 0} (answer last : Result A Refusal) → answer ≡ last → IfOk last (λ made. answer ≡ Ok made)
is_made answer (Ok made) e = e
is_made answer (Err refusal) e = tt

pub is_refused : {A : Type 0} (answer last : Result A Refusal) → answer ≡ last → IfErr last (λ refusal. refusal ≢ NoMemory → answer ≡ Err refusal)
is_refused answer (Ok made) e = tt
is_refused answer (Err refusal) e = λ _. e

-- a WHERE that could be made has types and widths left to judge
pub filter_left : (tables : Tables) (scope : Scope) (condition : Option Condition) (made : Cond) → row_filter scope condition ≡ Ok made → filter_of tables scope condition ≡ sound_condition scope made
filter_left tables scope condition made e =
    ap (λ fault. unless fault (and_then (row_filter scope condition) (sound_condition scope))) (filter_known tables scope condition made e)
    ∙ ap (λ answer. and_then answer (sound_condition scope)) e

-- an UPDATE that could be made is the answer
pub update_made : (tables : Tables) (name : List ℕ) (target : Source) (columns : List ℕ) (sets : List Assignment) (condition : Option Condition) (update : Update)
    → target_of tables name ≡ Ok target → assigned_places target.scope.layout [] sets ≡ Ok columns → length columns ≡ length sets → update_over target columns sets condition ≡ Ok update
    → update_of tables name sets condition ≡ Ok update
update_made tables name target columns sets condition update found places long e =
    let made : Source → List ℕ → Result Update Refusal = λ target columns. unless (names_fault tables target.scope sets condition) (update_over target columns sets condition) in
    ap (λ answer. and_then answer (λ target. and_then (assigned_places target.scope.layout [] sets) (made target))) found
    ∙ ap (λ answer. and_then answer (made target)) places
    ∙ ap (λ fault. unless fault (update_over target columns sets condition)) (names_known tables target columns sets condition update long e)
    ∙ e
