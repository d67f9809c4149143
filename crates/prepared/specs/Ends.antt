-- A statement without the `;` at its end.
use Rattle.std.specs.Prelude.{ℕ, zero, suc, ◌+◌, ◌-◌, Bool, true, false, ◌&&◌, if◌then◌else◌, length, nat_eq, slice_get, take, Option, None, Some, Result, Ok, Err}
use Rattle.std.specs.Option.{option_map_or}
use Rattle.value.specs.declared.refusals.Refusal.{Refusal}
use Rattle.token.specs.declared.spans.Token.{Token}
use Rattle.token.specs.Bytes.{Text}
use Rattle.token.specs.Lexer.{next_of, answer}
use Rattle.prepared.specs.declared.masks.Next.{Next}
use Rattle.prepared.specs.declared.masks.Next.TheVariants as next
use Rattle.prepared.specs.Masks.{next_at}

-- where a token or a parameter ends
abbrev pub end_of : Next → ℕ
end_of (next.Token end) = end
end_of (next.Parameter at) = at + 1

-- where the last ends, by what stands next, and what is behind it
abbrev pub end_by : (ℕ → ℕ) → ℕ → Option Next → ℕ
end_by behind from None = from
end_by behind from (Some n) = behind (end_of n)

-- where the last token or parameter ends from an offset on, in no more than so many turns
abbrev pub end_within : ℕ → Text → ℕ → ℕ
end_within zero text from = from
end_within (suc n) text from = end_by (end_within n text) from (next_at text from)

-- where the last token or parameter of a text ends
unfoldable pub last_end : Text → ℕ
last_end text = end_within (length text) text 0

-- no token and no wrong byte
abbrev pub is_none : Result (Option Token) Refusal → Bool
is_none (Ok None) = true
is_none (Ok (Some t)) = false
is_none (Err refusal) = false

-- nothing but blanks and comments stands from there on
abbrev pub is_end : Text → ℕ → Bool
is_end text from = is_none (answer (next_of text from))

-- a `;` stands there
abbrev pub is_semicolon_at : Text → ℕ → Bool
is_semicolon_at text at = option_map_or (λ b. nat_eq b 59) (slice_get text at) false

-- the text before the token that ends there, if that is a `;` with nothing behind it
abbrev pub cut_at : Text → ℕ → Text
cut_at text end = if is_semicolon_at text (end - 1) && is_end text end then take (end - 1) text else text

-- a text without the `;` that is its last token
abbrev pub without_semicolon : Text → Text
without_semicolon text = cut_at text (last_end text)
