-- Which numbers of a text are parameters, and where none may stand.
use Rattle.std.specs.Prelude.{ℕ, ◌+◌, Bool, true, false, not, ◌&&◌, ◌||◌, if◌then◌else◌, List, [], ◌∷◌, length, nat_eq, Option, None, Some, codes}
use Rattle.std.specs.Str.{bytes_eq}
use Rattle.std.specs.List.{prefix_len}
use Rattle.std.specs.Option.{option_or}
use Rattle.token.specs.declared.kinds.Kind.{Kind}
use Rattle.token.specs.declared.kinds.Kind.TheVariants as k
use Rattle.token.specs.declared.spans.Token.{Token}
use Rattle.token.specs.Bytes.{Text}
use Rattle.syntax.specs.Lexemes.{bytes_of}
use Rattle.prepared.specs.Masks.{is_question}

-- whether a token is a number, as each parameter is in the mask
abbrev pub is_number : Kind → Bool
is_number k.Number = true
is_number _ = false

-- whether a token is a quoted text
abbrev pub is_text : Kind → Bool
is_text k.Text = true
is_text _ = false

-- whether a token is a plus or a minus
abbrev pub is_sign : Kind → Bool
is_sign k.Plus = true
is_sign k.Minus = true
is_sign _ = false

-- what a sum adds to, or takes from, may end with such a token
abbrev pub ends_operand : Kind → Bool
ends_operand k.Name = true
ends_operand k.Number = true
ends_operand k.Text = true
ends_operand k.Close = true
ends_operand _ = false

-- For each number among the tokens of the mask, in reading order, which parameter it is, if it is one: the text has a
-- `?` there. So many parameters stand before them.
abbrev pub numbers_from : Text → ℕ → List Token → List (Option ℕ)
numbers_from text count [] = []
numbers_from text count (t ∷ ts) =
    if is_number t.kind then
    (if bytes_eq (bytes_of text t) (codes "?") then Some count ∷ numbers_from text (count + 1) ts
    else None ∷ numbers_from text count ts)
    else numbers_from text count ts

-- how many of them are parameters
abbrev pub parameter_count : List (Option ℕ) → ℕ
parameter_count [] = 0
parameter_count (None ∷ rest) = parameter_count rest
parameter_count (Some n ∷ rest) = 1 + parameter_count rest

-- where a `?` stands in these bytes of a token that begins there, unless it is the whole token, and has no sign
abbrev pub stray_in : ℕ → Bool → Text → Option ℕ
stray_in start is_signed bytes =
    let before = prefix_len (λ b. not (is_question b)) bytes in
    if nat_eq before (length bytes) || (nat_eq (length bytes) 1 && not is_signed) then None else Some (start + before)

-- the same of a token; a `?` in a quoted text is none
abbrev pub stray_at : Text → Bool → Token → Option ℕ
stray_at text is_signed t = if is_text t.kind then None else stray_in t.start is_signed (bytes_of text t)

-- The first parameter that stands directly behind a sign that is no operator of a sum, or is a part of a longer token.
-- The token before these ends an operand, or is such a sign.
abbrev pub stray_from : Text → Bool → Bool → List Token → Option ℕ
stray_from text behind_operand behind_sign [] = None
stray_from text behind_operand behind_sign (t ∷ ts) =
    option_or (stray_at text behind_sign t)
    (stray_from text (ends_operand t.kind) (is_sign t.kind && not behind_operand) ts)

-- the first parameter of a text that stands where none may, found among the tokens of its mask
unfoldable pub stray : Text → List Token → Option ℕ
stray text tokens = stray_from text false false tokens
