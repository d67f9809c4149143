-- Which bytes are a name of the language.
use Rattle.std.specs.Prelude.{ℕ, Bool, false, ◌==◌, ◌&&◌, List, length, Option, Some, None, Result, Ok, Err}
use Rattle.value.specs.declared.refusals.Refusal.{Refusal}
use Rattle.token.specs.declared.kinds.Kind.{Kind}
use Rattle.token.specs.declared.kinds.Kind.TheVariants as k
use Rattle.token.specs.declared.spans.Token.{Token}
use Rattle.token.specs.Lexer.{answer, next_of}
use Rattle.syntax.specs.Reading.{same_kind}

-- the kind of a name's token
abbrev pub name_kind : Kind
name_kind = k.Name

-- a token is a name from the first byte to this end
abbrev pub is_whole_name : Token → (end : ℕ) → Bool
is_whole_name t end = (same_kind t.kind name_kind && (t.start == 0)) && (t.end == end)

-- the first token of some bytes is a name and all of them
abbrev pub is_only_name : Result (Option Token) Refusal → (end : ℕ) → Bool
is_only_name (Ok (Some t)) end = is_whole_name t end
is_only_name (Ok None) end = false
is_only_name (Err refusal) end = false

-- all of the bytes are one name
abbrev pub is_name : List ℕ → Bool
is_name bytes = is_only_name (answer (next_of bytes 0)) (length bytes)
