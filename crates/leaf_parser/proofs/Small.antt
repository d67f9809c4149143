-- The value of a number is within the limit of numbers.
use Rattle.std.proofs.Common.{◌≡◌, ◌≤◌, ℕ, Bool, true, false, Some, None, refl, arith, if◌then◌else◌, nat_le}
use Rattle.std.proofs.lemmas.Bool.Decides.{nat_tests}
use Rattle.std.specs.Option.{unwrap_or}
use Rattle.token.specs.Lexer.{number_value}
use Rattle.token.specs.Spellings.{decimal, largest_number}
use Rattle.syntax.specs.Language.{Lexeme}
use Rattle.syntax.specs.Grammar.{digits_value}

small : (n : ℕ) → unwrap_or (if nat_le n largest_number then Some n else None) 0 ≤ largest_number
small n =
    let case : (t : Bool) → nat_le n largest_number ≡ t → unwrap_or (if t then Some n else None) 0 ≤ largest_number = λ t. elim t as (λ u. nat_le n largest_number ≡ u → unwrap_or (if u then Some n else None) 0 ≤ largest_number) [ true ↦ λ is. grind (arith, nat_tests, is) | false ↦ λ is. omega arith ] in
    case _ refl

pub digits_value_small : (x : Lexeme) → digits_value x ≤ largest_number
unfolding digits_value number_value
digits_value_small x = small (decimal x.spelling)
