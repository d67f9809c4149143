-- What is prepared of a text, and what values make of it.
use Rattle.std.specs.Prelude.{◌≡◌, ℕ, ◌⊎◌, if◌then◌else◌, List, length, nat_eq, Option, None, Some, Result, Ok, Err}
use Rattle.value.specs.declared.refusals.Refusal.{Refusal}
use Rattle.value.specs.declared.refusals.Refusal.TheVariants.{Syntax}
use Rattle.value.specs.declared.values.Value.{Value}
use Rattle.token.specs.Bytes.{Text}
use Rattle.token.specs.Lexer.{tokens_of}
use Rattle.syntax.specs.Lexemes.{lexemes}
use Rattle.syntax.specs.Answer.{Fits}
use Rattle.parse.specs.Told.{most_open, IsRefusalOf}
use Rattle.syntax.specs.declared.statements.Event.{Event}
use Rattle.syntax.specs.StatementGrammar.{IsEvent}
use Rattle.prepared.specs.declared.faults.FillFault.{FillFault}
use Rattle.prepared.specs.declared.prepared.Prepared.{Prepared}
use Rattle.prepared.specs.declared.faults.FillFault.TheVariants.{WrongCount}
use Rattle.prepared.specs.Masks.{mask}
use Rattle.prepared.specs.Numbers.{numbers_from, parameter_count, stray}
use Rattle.prepared.specs.Constants.{and_then, constants_of}
use Rattle.prepared.specs.Statements.{filled_event}

-- the numbers of a text: those of its mask
unfoldable pub numbers_of : Text → List (Option ℕ)
numbers_of text = numbers_from text 0 (tokens_of (mask text))

-- the first `?` of a text where none may stand
unfoldable pub stray_of : Text → Option ℕ
stray_of text = stray text (tokens_of (mask text))

-- the event of a text's mask, and for each of its numbers, in reading order, which parameter it is, if it is one
abbrev pub prepared_of : Text → Event → Prepared
prepared_of text event = record { event = event; numbers = numbers_of text }

-- a text with this event, by the written grammar, once each parameter is a number; and none stands where it may not
pub record IsPrepared (text : Text) (prepared : Prepared) : Type 0 where
  pub event : IsEvent (lexemes (mask text)) prepared.event
  pub fits : Fits most_open (lexemes (mask text))
  pub in_place : stray_of text ≡ None
  pub numbers : prepared.numbers ≡ numbers_of text

-- the mask has an event, and this is the first parameter where none may stand
pub record IsStray (text : Text) (at : ℕ) : Type 0 where
  pub event : Event
  pub reads : IsEvent (lexemes (mask text)) event
  pub first : stray_of text ≡ Some at

-- The mask of the text is refused so, or its first parameter where none may stand.
abbrev pub RefusedText : Text → Refusal → Type 0
RefusedText text (Syntax at) =
    IsRefusalOf IsEvent most_open (lexemes (mask text)) (length text) (Syntax at) ⊎ IsStray text at
RefusedText text refusal = IsRefusalOf IsEvent most_open (lexemes (mask text)) (length text) refusal

-- the event with these values in the places of its parameters, or the first fault
abbrev pub event_with_values : Prepared → List Value → Result Event FillFault
event_with_values prepared values =
    if nat_eq (length values) (parameter_count prepared.numbers) then
    and_then (filled_event prepared.event (constants_of prepared.numbers values)) (λ made. Ok made.0)
    else Err (WrongCount (parameter_count prepared.numbers) (length values))
