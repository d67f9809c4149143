-- The roots to which a value links, as they are looked up.
use Rattle.std.proofs.Common.{◌≡◌, ℕ, List, [], ◌∷◌, map, refl, ap}
use Rattle.value.specs.declared.values.Root.TheVariants.{Of}
use Rattle.table.specs.Rows.{RowValues, value_in}

-- keys as roots
pub roots_of_keys : (key : ℕ) (rows : List RowValues) → map Of (map (value_in key) rows) ≡ map (λ row. Of (value_in key row)) rows
roots_of_keys key [] = refl
roots_of_keys key (row ∷ rows) = ap (λ roots. Of (value_in key row) ∷ roots) (roots_of_keys key rows)
