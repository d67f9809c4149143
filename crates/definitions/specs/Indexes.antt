-- Definitions without their indexes.
use Rattle.std.specs.Prelude.{◌≡◌, Bool, true, false, not, List, filter, Ok}
use Rattle.syntax.specs.declared.definitions.Definition.{Definition}
use Rattle.syntax.specs.declared.definitions.Definition.TheVariants as definition
use Rattle.delta.specs.Views.{ViewState}
use Rattle.definitions.specs.Taken.{view_of_definitions}

-- whether it is a CREATE INDEX
abbrev pub is_index : Definition → Bool
is_index (definition.Table t) = false
is_index (definition.Assertion name condition attributes) = false
is_index (definition.Insert insert) = false
is_index (definition.Index name table column) = true

-- definitions without their indexes
abbrev pub without_indexes : List Definition → List Definition
without_indexes definitions = filter (λ d. not (is_index d)) definitions

-- what definitions define, they define without their indexes
abbrev pub IndexesChangeNothing : Type 0
IndexesChangeNothing = (definitions : List Definition) (made : ViewState)
    → view_of_definitions definitions ≡ Ok made → view_of_definitions (without_indexes definitions) ≡ Ok made
