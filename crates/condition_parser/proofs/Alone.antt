-- An expression of one factor.
use Rattle.std.proofs.Common.{◌≡◌, ℕ, false, ◌||◌, [], ◌∷◌, length, ap, ◌∙◌}
use Rattle.std.proofs.lemmas.Bool.{or_parts}
use Rattle.syntax.specs.declared.trees.Expression.{Expression}
use Rattle.syntax.specs.declared.wants.Want.{Want}
use Rattle.syntax.specs.declared.wants.PartInParentheses.{PartInParentheses}
use Rattle.syntax.specs.Language.{Lexemes, kind_at}
use Rattle.syntax.specs.Reading.{Reader, Done, and_then, pure}
use Rattle.syntax.specs.Grammar.{product_of, sum_of}
use Rattle.syntax.specs.Readers.{is_star, is_sign, product_item, product_after, sum_item, sum_after, expr_after}
use Rattle.leaf_parser.proofs.Turns.{many_stops}

no_product : (n : ℕ) (inner : Want → Reader PartInParentheses) (x : Expression) (ts : Lexemes) → is_star (kind_at ts) ≡ false → product_after n inner x ts ≡ (Done x, ts)
unfolding product_after product_of
no_product n inner x ts e = ap (λ o. and_then o.0 o.1 (λ xs. pure (product_of xs))) (many_stops is_star (product_item n inner) (length ts) (x ∷ []) ts e)

no_sum : (n : ℕ) (inner : Want → Reader PartInParentheses) (x : Expression) (ts : Lexemes) → is_sign (kind_at ts) ≡ false → sum_after n inner x ts ≡ (Done x, ts)
unfolding sum_after sum_of
no_sum n inner x ts e = ap (λ o. and_then o.0 o.1 (λ xs. pure (sum_of xs))) (many_stops is_sign (sum_item n inner) (length ts) (x ∷ []) ts e)

-- what follows is no operator
pub alone : (n : ℕ) (inner : Want → Reader PartInParentheses) (x : Expression) (ts : Lexemes) → (is_star (kind_at ts) || is_sign (kind_at ts)) ≡ false
    → expr_after n inner x ts ≡ (Done x, ts)
unfolding expr_after
alone n inner x ts e =
    let (star, sign) = or_parts (is_star (kind_at ts)) (is_sign (kind_at ts)) e in
    ap (λ o. and_then o.0 o.1 (sum_after n inner)) (no_product n inner x ts star) ∙ no_sum n inner x ts sign
