-- What CREATE ASSERTION defines, or its first fault.
use Rattle.std.specs.Prelude.{ℕ, Bool, true, false, not, ◌&&◌, ◌||◌, List, [], Option, Some, None, Result, Ok}
use Rattle.value.specs.declared.refusals.Refusal.{Refusal}
use Rattle.value.specs.declared.refusals.Refusal.TheVariants.{AttributeClash, TypeMismatch, TooWide}
use Rattle.table.specs.Rows.{Tables, layouts_of}
use Rattle.syntax.specs.declared.trees.Condition.{Condition}
use Rattle.syntax.specs.declared.statements.Mode.{Mode}
use Rattle.syntax.specs.declared.statements.Mode.TheVariants.{Deferred, Immediate}
use Rattle.syntax.specs.declared.definitions.Attributes.{Attributes}
use Rattle.assertion.specs.declared.assertions.Assertion.{Assertion}
use Rattle.assertion.specs.declared.assertions.ConstraintAttributes.{ConstraintAttributes}
use Rattle.assertion.specs.declared.forms.Form.{Form}
use Rattle.form_check.specs.Names.{condition_fault}
use Rattle.value.specs.Results.{and_then, if_holds, unless}
use Rattle.form_check.specs.Forms.{form_of}
use Rattle.assertcheck.specs.Forms.{is_typed_form}
use Rattle.assertcheck.specs.Widths.{is_bounded_form}

-- whether INITIALLY DEFERRED is written
abbrev pub is_deferred : Option Mode → Bool
is_deferred None = false
is_deferred (Some Deferred) = true
is_deferred (Some Immediate) = false

-- whether DEFERRABLE, or NOT DEFERRABLE, is written
abbrev pub is_written : Bool → Option Bool → Bool
is_written wanted None = false
is_written true (Some deferrable) = deferrable
is_written false (Some deferrable) = not deferrable

-- what is initially deferred is deferrable, and without a word an assertion is immediate and not deferrable
abbrev pub attributes_of : Attributes → ConstraintAttributes
attributes_of written = record {
  deferrable = is_deferred written.initially || is_written true written.deferrable;
  initially_deferred = is_deferred written.initially;
}

-- INITIALLY DEFERRED NOT DEFERRABLE is a contradiction
abbrev pub are_at_odds : Attributes → Bool
are_at_odds written = is_deferred written.initially && is_written false written.deferrable

-- an assertion of a form, if the form is typed and its expressions are bounded
abbrev pub of_form : Tables → List ℕ → ConstraintAttributes → Form → Result Assertion Refusal
of_form tables name attributes form =
    if_holds (is_typed_form (layouts_of tables) form) TypeMismatch (
    if_holds (is_bounded_form form) TooWide (
    Ok (record { name = name; attributes = attributes; form = form })))

-- attributes first, then names, the shape, types and widths
abbrev pub checked_assertion : Tables → List ℕ → Condition → Attributes → Result Assertion Refusal
checked_assertion tables name condition written =
    if_holds (not (are_at_odds written)) (AttributeClash name) (
    unless (condition_fault tables condition []) (
    and_then (form_of tables condition) (of_form tables name (attributes_of written))))
