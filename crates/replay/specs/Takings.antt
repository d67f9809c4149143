-- Definitions that are taken in as soon as they are read.
use Rattle.std.specs.Prelude.{◌≡◌, ℕ, List, Result, Ok, Err}
use Rattle.value.specs.declared.refusals.Refusal.{Refusal}
use Rattle.syntax.specs.declared.definitions.Definition.{Definition}
use Rattle.syntax.specs.declared.statements.ScriptLine.{ScriptLine}
use Rattle.syntax.specs.SchemaGrammar.{IsSchema}
use Rattle.delta.specs.Views.{ViewState}
use Rattle.definitions.specs.Taken.{view_of_definitions}
use Rattle.definitions.specs.Written.{AreWritten}
use Rattle.commit.specs.Admission.{admission_of}
use Rattle.replay.specs.Texts.{AreRead, IsRead}

-- a text of definitions is read, and this is what they define, or their first fault
pub record IsReadTo (defs : List ℕ) (made : Result ViewState Refusal) : Type 0 where
  pub definitions : List Definition
  pub read : IsRead IsSchema defs definitions
  pub makes : view_of_definitions definitions ≡ made

-- the definitions of a text are read and admitted, as these tables; each assertion means what they write
pub record IsAdmitted (defs : List ℕ) (shown : ViewState) : Type 0 where
  pub definitions : List Definition
  pub read : IsRead IsSchema defs definitions
  pub admits : admission_of definitions ≡ Ok shown
  pub written : AreWritten definitions shown.declared

-- they are read, and refused so
pub record IsRefused (defs : List ℕ) (refusal : Refusal) : Type 0 where
  pub definitions : List Definition
  pub read : IsRead IsSchema defs definitions
  pub refused : admission_of definitions ≡ Err refusal

-- both texts are read, and the definitions are taken in, as these tables; each assertion means what they write
pub record AreTaken (defs script : List ℕ) (taken : ViewState) (lines : List ScriptLine) : Type 0 where
  pub definitions : List Definition
  pub read : AreRead defs script definitions lines
  pub takes : view_of_definitions definitions ≡ Ok taken
  pub written : AreWritten definitions taken.declared
