-- The text with a `0` for each parameter.
use Rattle.std.specs.Prelude.{ℕ, zero, suc, ◌+◌, Bool, false, if◌then◌else◌, List, [], ◌∷◌, length, nat_eq, slice_get, slice_set, Option, None, Some, Result, Ok, Err}
use Rattle.std.specs.Option.{option_map_or}
use Rattle.value.specs.declared.refusals.Refusal.{Refusal}
use Rattle.value.specs.declared.refusals.Refusal.TheVariants.{Syntax}
use Rattle.token.specs.declared.spans.Token.{Token}
use Rattle.token.specs.Bytes.{Text}
use Rattle.token.specs.Lexer.{next_of, answer}
use Rattle.prepared.specs.declared.masks.Next.{Next}
use Rattle.prepared.specs.declared.masks.Next.TheVariants as next

-- `?`
abbrev pub is_question : ℕ → Bool
is_question b = nat_eq b 63

-- a `?` stands there
abbrev pub is_question_at : Text → ℕ → Bool
is_question_at text at = option_map_or is_question (slice_get text at) false

-- what stands next: a token with its end, or a `?` at which no token begins
abbrev pub next_by : Text → Result (Option Token) Refusal → Option Next
next_by text (Ok None) = None
next_by text (Ok (Some t)) = Some (next.Token t.end)
next_by text (Err (Syntax at)) = if is_question_at text at then Some (next.Parameter at) else None
next_by text (Err _) = None

-- what stands next in a text, from an offset on
unfoldable pub next_at : Text → ℕ → Option Next
next_at text from = next_by text (answer (next_of text from))

-- where the parameters stand, by what stands next, and what stands behind it
abbrev pub places_by : (ℕ → List ℕ) → Option Next → List ℕ
places_by behind None = []
places_by behind (Some (next.Token end)) = behind end
places_by behind (Some (next.Parameter at)) = at ∷ behind (at + 1)

-- where they stand from an offset on, in no more than so many turns, each of which takes a byte at least
abbrev pub places_within : ℕ → Text → ℕ → List ℕ
places_within zero text from = []
places_within (suc n) text from = places_by (places_within n text) (next_at text from)

-- where the parameters of a text stand: each `?` outside of quoted texts and comments
unfoldable pub places : Text → List ℕ
places text = places_within (length text) text 0

-- a text with a `0` at each of these places
abbrev pub with_zeros : List ℕ → Text → Text
with_zeros [] text = text
with_zeros (at ∷ rest) text = with_zeros rest (slice_set text at 48)

-- the text with a `0` for each parameter
unfoldable pub mask : Text → Text
mask text = with_zeros (places text) text
