-- What stands in parentheses, by how many may be opened.
use Rattle.std.proofs.Common.{◌≡◌, ℕ, zero, suc, ◌-◌, refl}
use Rattle.syntax.specs.declared.wants.Want.{Want}
use Rattle.syntax.specs.Readers.{read, level}
use Rattle.condition_parser.specs.Inside.{inside}

pub read_level : (n : ℕ) (wanted : Want) → read n wanted ≡ level n (inside n) wanted
unfolding read inside
read_level zero wanted = refl
read_level (suc n) wanted = refl
