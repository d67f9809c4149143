-- Roots as a view holds them, so that versions share them.
use Rattle.std.specs.Prelude.{◌≡◌, Option, List, [], ◌∷◌, ◌++◌, map, option_to_list}
use Rattle.value.specs.declared.values.Value.{Value}
use Rattle.value.specs.declared.values.Root.{Root}
use Rattle.value.specs.declared.values.Root.TheVariants.{All, Of}
use Rattle.value.specs.Ordered.{HoldsOf}
use Rattle.pages.specs.Reach.{value_of}

-- the whole, if it is one of them, and then those under values
abbrev pub roots_in : Option Root → List (Value × Root) → List Root
roots_in whole values = option_to_list whole ++ map value_of values

-- each root stands under its own value
abbrev pub AreUnder : List (Value × Root) → Type 0
AreUnder [] = Unit {0}
AreUnder (entry ∷ entries) = (entry.1 ≡ Of entry.0) × AreUnder entries

-- the whole, if it is there, stands by itself, and each other root under its value
pub record AreInPlace (whole : Option Root) (values : List (Value × Root)) : Type 0 where
  pub by_itself : HoldsOf (λ root. root ≡ All) whole
  pub under : AreUnder values
