use Rattle.std.proofs.Common.{◌≡◌, ℕ, suc, List, [], ◌∷◌, length, refl, ◌∙◌, ap, arith}
use Rattle.syntax.specs.declared.definitions.ColumnDefinition.{ColumnDefinition}
use Rattle.definitions.specs.Tables.{defined_from}
use Rattle.definitions.proofs.tables.schema_of.Goals as goal

-- each column is made
long_as : (place : ℕ) (columns : List ColumnDefinition) (key : ℕ) → length (defined_from place columns key) ≡ length columns
long_as place [] key = refl
long_as place (d ∷ rest) key = ap (λ n. suc n) (long_as (suc place) rest key)

pub new-requires : goal.new-requires
new-requires c =
    let long = ap length c.in_ok-schema_columns.ensures ∙ long_as 0 c.args.columns.now c.in-Some.key in
    omega (arith, long, c.in-Some.ensures.within)
