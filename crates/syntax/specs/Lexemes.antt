-- The tokens of a text, each with its bytes.
use Rattle.std.specs.Prelude.{ℕ, nat_le, ◌&&◌, if◌then◌else◌, List, [], ◌∷◌, map, slice_range, length}
use Rattle.token.specs.declared.spans.Token.{Token}
use Rattle.token.specs.Lexer.{tokens_of}
use Rattle.syntax.specs.Language.{Lexeme, Lexemes}

-- the bytes of a token; none where it is no part of the text
abbrev pub bytes_of : List ℕ → Token → List ℕ
bytes_of text t = if nat_le t.start t.end && nat_le t.end (length text) then slice_range text t.start t.end else []

-- a token with its bytes
abbrev pub lexeme : List ℕ → Token → Lexeme
lexeme text t = record { kind = t.kind; spelling = bytes_of text t; at = t.start }

-- the tokens of a text, each with its bytes
abbrev pub lexemes : List ℕ → Lexemes
lexemes text = map (lexeme text) (tokens_of text)

-- where the first of them begins, or the end where there is none
abbrev pub place : ℕ → Lexemes → ℕ
place end [] = end
place end (x ∷ xs) = x.at
