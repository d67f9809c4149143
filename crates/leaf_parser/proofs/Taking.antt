-- A token that is known is taken.
use Rattle.std.proofs.Common.{◌≡◌, false, [], ◌∷◌, sym, ap, subst, ◌∙◌, if◌then◌else◌}
use Rattle.token.specs.declared.kinds.Kind.{Kind}
use Rattle.token.specs.declared.kinds.Kind.TheVariants as k
use Rattle.syntax.specs.Language.{Lexeme, Lexemes}
use Rattle.syntax.specs.Reading.{Done, Fail, same_kind, expect, take}
use Rattle.syntax.proofs.WordLaws.{same_kind_self}
use Rattle.leaf_parser.specs.Reads.{IsAt, is_end}

pub at_none : (kind : Kind) → IsAt kind [] → ⊥
at_none kind h = let e : is_end k.End ≡ false = subst (λ q. is_end q ≡ false) (sym h.1) h.0 in cc

pub at_takes : (kind : Kind) (x : Lexeme) (xs : Lexemes) → IsAt kind (x ∷ xs) → expect kind (x ∷ xs) ≡ (Done x, xs)
at_takes kind x xs h = ap (λ b. if b then take (x ∷ xs) else (Fail, x ∷ xs)) (ap (λ q. same_kind x.kind q) (sym h.1) ∙ same_kind_self x.kind)
