-- Texts with constants written in the places of their parameters.
use Rattle.std.specs.Prelude.{◌≡◌, ℕ, suc, ℤ, pos, negsuc, Bool, true, false, nat_lt, unsigned_abs, List, [], ◌∷◌, ◌++◌, length, Option, Some, None, Ok}
use Rattle.token.specs.declared.kinds.Kind.TheVariants as k
use Rattle.token.specs.Bytes.{Text}
use Rattle.value.specs.declared.values.Value.{Value}
use Rattle.value.specs.declared.values.Value.TheVariants as v
use Rattle.value.specs.Texts.{is_plain}
use Rattle.syntax.specs.Grammar.{digits_value, text_in_quotes}
use Rattle.syntax.specs.declared.statements.Event.{Event}
use Rattle.syntax.specs.declared.statements.Event.TheVariants as event
use Rattle.syntax.specs.declared.statements.Statement.TheVariants as s
use Rattle.syntax.specs.StatementGrammar.{IsEvent}
use Rattle.syntax.specs.Language.{Lexeme, Lexemes}
use Rattle.syntax.specs.Lexemes.{lexemes}
use Rattle.prepared.specs.declared.prepared.Prepared.{Prepared}
use Rattle.prepared.specs.Masks.{mask}
use Rattle.prepared.specs.Numbers.{is_number, parameter_count}
use Rattle.prepared.specs.Constants.{Argument, Constants, constants_of, first_and_rest, largest_number}
use Rattle.prepared.specs.Prepared.{IsPrepared, event_with_values}

-- these tokens write a number: its digits, behind a minus where it is negative
pub record WritesNumber (n : ℕ) (x : Lexeme) : Type 0 where
  pub kind : x.kind ≡ k.Number
  pub digits : digits_value x ≡ n

-- a minus, and the digits of a number
pub record WritesNegative (n : ℕ) (tokens : Lexemes) : Type 0 where
  pub minus : Lexeme
  pub number : Lexeme
  pub are : tokens ≡ minus ∷ number ∷ []
  pub sign : minus.kind ≡ k.Minus
  pub digits : WritesNumber n number

-- the digits of a number alone
pub record WritesPositive (n : ℕ) (tokens : Lexemes) : Type 0 where
  pub number : Lexeme
  pub are : tokens ≡ number ∷ []
  pub digits : WritesNumber n number

-- these tokens write a number, negative or not
abbrev pub WritesInt : ℤ → Lexemes → Type 0
WritesInt (pos n) tokens = WritesPositive n tokens
WritesInt (negsuc n) tokens = WritesNegative (suc n) tokens

-- these tokens write a text: in quotes
pub record WritesText (t : List ℕ) (tokens : Lexemes) : Type 0 where
  pub text : Lexeme
  pub are : tokens ≡ text ∷ []
  pub kind : text.kind ≡ k.Text
  pub inside : text_in_quotes text ≡ t

-- this token writes NULL
pub record WritesNull (tokens : Lexemes) : Type 0 where
  pub null : Lexeme
  pub are : tokens ≡ null ∷ []
  pub kind : null.kind ≡ k.Null

-- these tokens write a constant
abbrev pub Writes : Value → Lexemes → Type 0
Writes v.Null tokens = WritesNull tokens
Writes (v.Int n) tokens = WritesInt n tokens
Writes (v.Text t) tokens = WritesText t tokens

-- a number or a text of the language, and no NULL
abbrev pub IsConstant : Value → Type 0
IsConstant v.Null = ⊥
IsConstant (v.Int n) = nat_lt largest_number (unsigned_abs n) ≡ false
IsConstant (v.Text t) = is_plain t ≡ true

-- one of the language, or NULL
abbrev pub IsValue : Value → Type 0
IsValue v.Null = Unit {0}
IsValue (v.Int n) = IsConstant (v.Int n)
IsValue (v.Text t) = IsConstant (v.Text t)

-- the values that may be given for an event: NULL too where it is an INSERT
abbrev pub MayStand : Event → Value → Type 0
MayStand (event.Run (s.Insert insert)) value = IsValue value
MayStand other value = IsConstant value

-- each of some values is so
abbrev pub AreAll : (Value → Type 0) → List Value → Type 0
AreAll ok [] = Unit {0}
AreAll ok (value ∷ rest) = ok value × AreAll ok rest

-- what stands for a token, where it is a number; and for those behind it
abbrev pub for_token : Bool → Constants → Option Argument
for_token true constants = (first_and_rest constants).0
for_token false constants = None

-- the constants that are left behind a token: a number takes one
abbrev pub behind_token : Bool → Constants → Constants
behind_token true constants = (first_and_rest constants).1
behind_token false constants = constants

-- the tokens that are written for one
abbrev pub written_token : (Argument → Lexemes) → Lexeme → Option Argument → Lexemes
written_token write x None = x ∷ []
written_token write x (Some given) = write given

-- tokens with the constants written in the places of the parameters
abbrev pub tokens_with_constants : (Argument → Lexemes) → Lexemes → Constants → Lexemes
tokens_with_constants write [] constants = []
tokens_with_constants write (x ∷ tokens) constants =
    written_token write x (for_token (is_number x.kind) constants)
    ++ tokens_with_constants write tokens (behind_token (is_number x.kind) constants)

-- Values that may stand there, filled in, give the event of each text that has them written in the places of its
-- parameters, however they are spelled.
pub record IsWritten (text : Text) (prepared : Prepared) (values : List Value)
    (write : Argument → Lexemes) : Type 0 where
  pub event : Event
  pub fills : event_with_values prepared values ≡ Ok event
  pub reads : IsEvent (tokens_with_constants write (lexemes (mask text)) (constants_of prepared.numbers values)) event

-- the law: values that may stand there, filled in, make the event of each text that has them written
abbrev pub FilledIsWritten : Type 0
FilledIsWritten =
    (text : Text) (prepared : Prepared) (values : List Value) (write : Argument → Lexemes) → IsPrepared text prepared
    → length values ≡ parameter_count prepared.numbers → AreAll (MayStand prepared.event) values
    → ((given : Argument) → IsValue given.value → Writes given.value (write given))
    → IsWritten text prepared values write
