-- Conditions and expressions of statements: over the rows of one table, without set functions and queries.
use Rattle.std.specs.Prelude.{ℕ, List, [], ◌∷◌, Option, Some, None, Result, Ok}
use Rattle.value.specs.declared.refusals.Refusal.{Refusal}
use Rattle.value.specs.declared.refusals.Refusal.TheVariants.{TypeMismatch, TooWide}
use Rattle.table.specs.Rows.{Tables}
use Rattle.syntax.specs.declared.trees.Condition.{Condition}
use Rattle.table.specs.declared.conds.Cond.{Cond}
use Rattle.table.specs.Bounds.{is_bounded}
use Rattle.form_check.specs.Scopes.{Scope}
use Rattle.form_check.specs.Names.{condition_fault}
use Rattle.value.specs.Results.{and_then, result_of_name, if_holds, unless}
use Rattle.form_check.specs.Queries.{Source, source_of, row_filter}
use Rattle.assertcheck.specs.Types.{is_typed_condition}

-- the table of a statement; no correlation_name is written there
abbrev pub target_of : Tables → List ℕ → Result Source Refusal
target_of tables name = result_of_name name (source_of tables name None)

-- a condition of rows, if it is typed and its expressions are bounded
abbrev pub sound_condition : Scope → Cond → Result Cond Refusal
sound_condition scope made =
    if_holds (is_typed_condition scope.layout.columns [] made) TypeMismatch
    (if_holds (is_bounded [] made) TooWide (Ok made))

-- what is wrong with the names in a WHERE
abbrev pub filter_fault : Tables → Scope → Option Condition → Option Refusal
filter_fault tables scope None = None
filter_fault tables scope (Some condition) = condition_fault tables condition (scope ∷ [])

-- WHERE of a statement: names, the shape, types and widths; a missing one keeps every row
abbrev pub filter_of : Tables → Scope → Option Condition → Result Cond Refusal
filter_of tables scope condition =
    unless (filter_fault tables scope condition) (and_then (row_filter scope condition) (sound_condition scope))
