-- The total orders of values and of roots.
use Rattle.std.specs.Ordering.{nat_cmp, int_cmp}
use Rattle.std.specs.Cmp.Lexicographic.{slice_cmp}
use Rattle.std.specs.declared.cmp.Ordering.{Ordering}
use Rattle.std.specs.declared.cmp.Ordering.TheVariants.{Less, Equal, Greater}
use Rattle.value.specs.declared.values.Value.{Value}
use Rattle.value.specs.declared.values.Value.TheVariants.{Null, Int, Text}
use Rattle.value.specs.declared.values.Root.{Root}
use Rattle.value.specs.declared.values.Root.TheVariants.{All, Of}

-- NULL, then numbers, then texts byte by byte
abbrev pub value_cmp : Value → Value → Ordering
value_cmp Null Null = Equal
value_cmp Null (Int n) = Less
value_cmp Null (Text t) = Less
value_cmp (Int m) Null = Greater
value_cmp (Int m) (Int n) = int_cmp m n
value_cmp (Int m) (Text t) = Less
value_cmp (Text s) Null = Greater
value_cmp (Text s) (Int n) = Greater
value_cmp (Text s) (Text t) = slice_cmp nat_cmp s t

-- the whole, then the values
abbrev pub root_cmp : Root → Root → Ordering
root_cmp All All = Equal
root_cmp All (Of w) = Less
root_cmp (Of v) All = Greater
root_cmp (Of v) (Of w) = value_cmp v w
