-- The types of sums and products.
use Rattle.std.proofs.Common.{◌≡◌, ℕ, ◌≤◌, inl, inr, List, Option, Some, length, map, drop, sym, ap, ◌∙◌}
use Rattle.std.specs.Prelude.{◌⊎◌}
use Rattle.std.proofs.lemmas.List.{drop_all}
use Rattle.table.specs.declared.schemas.Column.{Column}
use Rattle.table.specs.declared.exprs.Expr.{Expr}
use Rattle.table.specs.declared.exprs.Expr.TheOpen.{Expr-F}
use Rattle.table.specs.declared.exprs.Expr.TheFolds.{fold-roll-Expr}
use Rattle.table.specs.declared.exprs.Expr.TheViews.{Sum, Product}
use Rattle.table.specs.declared.exprs.Expr.TheVariants.{rolls-Sum, rolls-Product}
use Rattle.assertcheck.specs.declared.data_types.DataType.{DataType}
use Rattle.assertcheck.specs.declared.data_types.DataType.TheVariants.{Number}
use Rattle.assertcheck.specs.Types.{type_step, arithmetic_type, expression_type}

-- the type of a sum or a product by the types of its parts
pub computed : (columns : List Column) (slots : List DataType) (expr : Expr) (parts : List Expr) → (expr ≡ Sum parts) ⊎ (expr ≡ Product parts)
    → expression_type columns slots expr ≡ arithmetic_type (map (expression_type columns slots) parts)
computed columns slots expr parts is = elim is [
  | inl e ↦ ap (expression_type columns slots) (e ∙ sym (rolls-Sum parts)) ∙ fold-roll-Expr (Option DataType) (type_step columns slots) (Expr-F.Sum parts)
  | inr e ↦ ap (expression_type columns slots) (e ∙ sym (rolls-Product parts)) ∙ fold-roll-Expr (Option DataType) (type_step columns slots) (Expr-F.Product parts)
]

-- where none is left, each was a number
pub all_found : (f : Expr → Option DataType) (items : List Expr) (i : ℕ) → length items ≤ i → arithmetic_type (map f (drop i items)) ≡ arithmetic_type (map f items)
    → Some Number ≡ arithmetic_type (map f items)
all_found f items i past left = sym (ap (λ rest. arithmetic_type (map f rest)) (drop_all i items past)) ∙ left
