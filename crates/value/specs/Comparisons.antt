-- The comparisons of SQL-92, and what is known when two values are compared.
use Rattle.std.specs.Prelude.{Bool, not, Option, Some, None}
use Rattle.std.specs.Ordering.{is_eq, is_lt, is_gt}
use Rattle.std.specs.declared.cmp.Ordering.{Ordering}
use Rattle.value.specs.declared.comparisons.Comparison.{Comparison}
use Rattle.value.specs.declared.comparisons.Comparison.TheVariants.{Equal, NotEqual, Less, AtMost, Greater, AtLeast}
use Rattle.value.specs.declared.values.Value.{Value}
use Rattle.value.specs.declared.values.Value.TheVariants.{Null, Int, Text}
use Rattle.value.specs.ValueOrder.{value_cmp}

-- whether a comparison holds of two values of which the first stands so beside the second
abbrev pub holds : Comparison → Ordering → Bool
holds Equal o = is_eq o
holds NotEqual o = not (is_eq o)
holds Less o = is_lt o
holds AtMost o = not (is_gt o)
holds Greater o = is_gt o
holds AtLeast o = not (is_lt o)

-- what a comparison knows: nothing where a side is NULL
abbrev pub known_cmp : Value → Value → Option Ordering
known_cmp Null w = None
known_cmp (Int m) Null = None
known_cmp (Text s) Null = None
known_cmp (Int m) (Int n) = Some (value_cmp (Int m) (Int n))
known_cmp (Int m) (Text t) = Some (value_cmp (Int m) (Text t))
known_cmp (Text s) (Int n) = Some (value_cmp (Text s) (Int n))
known_cmp (Text s) (Text t) = Some (value_cmp (Text s) (Text t))
