-- The reader of what stands in parentheses, where so many may be opened.
use Rattle.std.specs.Prelude.{ℕ, zero, suc}
use Rattle.syntax.specs.declared.wants.PartInParentheses.{PartInParentheses}
use Rattle.syntax.specs.declared.wants.Want.{Want}
use Rattle.syntax.specs.Reading.{Reader, refuse}
use Rattle.syntax.specs.Readers.{read}

-- reads what stands in parentheses, where so many might be opened before them; where none might, it refuses
unfoldable pub inside : ℕ → Want → Reader PartInParentheses
inside zero = λ _. refuse
inside (suc n) = read n
