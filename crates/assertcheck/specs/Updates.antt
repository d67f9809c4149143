-- UPDATE with its names found, or its first fault.
use Rattle.std.specs.Prelude.{ℕ, ◌==◌, Bool, true, ◌&&◌, List, [], ◌∷◌, ◌++◌, Option, Some, None, Result, Ok, Err, IfSome, IsSome, is_some, if◌then◌else◌}
use Rattle.std.specs.List.{list_all}
use Rattle.std.specs.Option.{option_or}
use Rattle.value.specs.declared.refusals.Refusal.{Refusal}
use Rattle.value.specs.declared.refusals.Refusal.TheVariants.{KeyUpdate, TypeMismatch, TooWide}
use Rattle.table.specs.declared.schemas.Column.{Column}
use Rattle.table.specs.Rows.{Layout, Tables}
use Rattle.syntax.specs.declared.trees.Condition.{Condition}
use Rattle.syntax.specs.declared.statements.UpdateSource.{UpdateSource}
use Rattle.syntax.specs.declared.statements.UpdateSource.TheVariants.{Null, To}
use Rattle.syntax.specs.declared.statements.Assignment.{Assignment}
use Rattle.table.specs.declared.exprs.Expr.{Expr}
use Rattle.table.specs.Bounds.{bound_of, is_bounded}
use Rattle.form_check.specs.Scopes.{Scope}
use Rattle.form_check.specs.Names.{expression_fault}
use Rattle.value.specs.Results.{and_then, if_holds, unless}
use Rattle.form_check.specs.Queries.{Source, row_expression, row_filter}
use Rattle.assertcheck.specs.declared.data_types.DataType.{DataType}
use Rattle.assertcheck.specs.Types.{are_comparable, column_type, expression_type, is_typed_condition}
use Rattle.assertcheck.specs.declared.updates.Setting.{Setting}
use Rattle.assertcheck.specs.declared.updates.Update.{Update}
use Rattle.assertcheck.specs.Conditions.{target_of, filter_fault}
use Rattle.assertcheck.specs.Statements.{new_place}

-- a column, if it is not the key
abbrev pub not_key : ℕ → List ℕ → ℕ → Result ℕ Refusal
not_key key name column = if column == key then Err (KeyUpdate name) else Ok column

-- the column of a name, if it isn't among those before it, and isn't the key
abbrev pub assignable : Layout → List ℕ → List ℕ → Result ℕ Refusal
assignable layout before name = and_then (new_place layout.columns before name) (not_key layout.key name)

-- the assigned columns from the left, behind those before them
abbrev pub assigned_places : Layout → List ℕ → List Assignment → Result (List ℕ) Refusal
assigned_places layout before [] = Ok before
assigned_places layout before (assignment ∷ rest) =
    and_then (assignable layout before assignment.column) (λ new. assigned_places layout (before ++ new ∷ []) rest)

-- what is wrong with the names in what is assigned
abbrev pub value_fault : Tables → Scope → UpdateSource → Option Refusal
value_fault tables scope Null = None
value_fault tables scope (To expression) = expression_fault tables expression (scope ∷ [])

-- the same of all that is assigned, from the left
abbrev pub values_fault : Tables → Scope → List Assignment → Option Refusal
values_fault tables scope [] = None
values_fault tables scope (assignment ∷ rest) =
    option_or (value_fault tables scope assignment.value) (values_fault tables scope rest)

-- what is wrong with the names in the assigned expressions from the left, and then in the condition
abbrev pub names_fault : Tables → Scope → List Assignment → Option Condition → Option Refusal
names_fault tables scope sets condition =
    option_or (values_fault tables scope sets) (filter_fault tables scope condition)

-- an expression over the rows of the table, or NULL
abbrev pub value_of : Scope → UpdateSource → Result (Option Expr) Refusal
value_of scope Null = Ok None
value_of scope (To expression) = and_then (row_expression scope expression) (λ made. Ok (Some made))

-- each column with what it gets
abbrev pub settings_of : Scope → List ℕ → List Assignment → Result (List Setting) Refusal
settings_of scope [] sets = Ok []
settings_of scope (column ∷ columns) [] = Ok []
settings_of scope (column ∷ columns) (assignment ∷ rest) =
    and_then (value_of scope assignment.value) (λ value.
    and_then (settings_of scope columns rest) (λ others. Ok (record { column = column; value = value } ∷ others)))

-- NULL is of every type, and an expression has to be of the column's
abbrev pub value_fits : List Column → Option DataType → Option Expr → Bool
value_fits columns wanted None = true
value_fits columns wanted (Some value) = are_comparable wanted (expression_type columns [] value)

-- whether what a column gets is of its type
abbrev pub fits : List Column → Setting → Bool
fits columns setting = value_fits columns (column_type columns setting.column) setting.value

-- whether an expression has a bound, if there is one
abbrev pub is_bounded_value : Option Expr → Bool
is_bounded_value None = true
is_bounded_value (Some value) = is_some (bound_of [] value)

-- whether what a column gets is an expression with a bound, or NULL
abbrev pub is_bounded_setting : Setting → Bool
is_bounded_setting setting = is_bounded_value setting.value

-- what is given to a column is evaluated without overflow
abbrev pub IsBoundedSetting : Setting → Type 0
IsBoundedSetting setting = IfSome setting.value (λ value. IsSome (bound_of [] value))

-- the UPDATE, if all its expressions and its condition are typed, and then if all are bounded
abbrev pub sound_update : List Column → Update → Result Update Refusal
sound_update columns update =
    if_holds (list_all (fits columns) update.sets && is_typed_condition columns [] update.filter) TypeMismatch (
    if_holds (list_all is_bounded_setting update.sets && is_bounded [] update.filter) TooWide (
    Ok update))

-- the UPDATE that gives these columns their values, where each expression and the condition are over the rows of the
-- table alone
abbrev pub update_over : Source → List ℕ → List Assignment → Option Condition → Result Update Refusal
update_over target columns sets condition =
    and_then (settings_of target.scope columns sets) (λ settings.
    and_then (row_filter target.scope condition) (λ restriction.
    sound_update target.scope.layout.columns (record { table = target.table; sets = settings; filter = restriction })))

-- UPDATE: the table, the assigned columns, the names in expressions and in the condition; then shapes, types and widths
abbrev pub update_of : Tables → List ℕ → List Assignment → Option Condition → Result Update Refusal
update_of tables name sets condition =
    and_then (target_of tables name) (λ target.
    and_then (assigned_places target.scope.layout [] sets) (λ columns.
    unless (names_fault tables target.scope sets condition) (update_over target columns sets condition)))
