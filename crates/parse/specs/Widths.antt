-- The number of VARCHAR.
use Rattle.std.specs.Prelude.{ℕ, ◌&&◌, if◌then◌else◌, Option, Some, None}
use Rattle.token.specs.declared.kinds.Kind.TheVariants as k
use Rattle.syntax.specs.Language.{Lexeme}
use Rattle.syntax.specs.Reading.{same_kind}
use Rattle.syntax.specs.Grammar.{digits_value}
use Rattle.syntax.specs.SchemaGrammar.{is_width}

-- what a token says, if it is a number from 1 to 255
abbrev pub width_of : Lexeme → Option ℕ
width_of x = if same_kind x.kind k.Number && is_width x then Some (digits_value x) else None
