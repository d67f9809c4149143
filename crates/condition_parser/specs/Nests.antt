-- A function value that reads what stands in parentheses.
use Rattle.std.specs.Prelude.{◌≡◌, ℕ, suc, Result}
use Rattle.std.specs.declared.alloc.Global.{Global}
use denote.Ref.{MutBor}
use Rattle.syntax.specs.declared.wants.PartInParentheses.{PartInParentheses}
use Rattle.syntax.specs.declared.wants.Want.{Want}
use Rattle.leaf_parser.specs.declared.stops.Stop.{Stop}
use Rattle.syntax.specs.Language.{Lexemes}
use Rattle.syntax.specs.Readers.{read}
use Rattle.leaf_parser.specs.Reads.{Reads}

-- where one more may be opened, it reads with one fewer
pub record Nests (depth : ℕ) (pre : Global → MutBor Lexemes → ℕ → Want → Type 0)
    (post : Global → MutBor Lexemes → ℕ → Want → Result PartInParentheses Stop → MutBor Lexemes → Type 0) : Type 0 where
  pub callable : (m : ℕ) → depth ≡ suc m → (alloc : Global) (old : MutBor Lexemes) (wanted : Want)
      → pre alloc old m wanted
  pub reads : (m : ℕ) → depth ≡ suc m
      → (alloc : Global) (old new : MutBor Lexemes) (wanted : Want) (r : Result PartInParentheses Stop)
      → post alloc old m wanted r new
      → Reads (read m wanted old.now) r new.now
