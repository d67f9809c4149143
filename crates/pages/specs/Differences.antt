-- A map with differences beside it.
use Rattle.std.specs.Prelude.{◌+◌, ◌<◌, ◌^◌, Option, List, [], ◌∷◌, length}
use Rattle.std.specs.declared.cmp.Ordering.{Ordering}
use Rattle.std.specs.declared.cmp.Ordering.TheVariants.{Less}
use Rattle.value.specs.declared.values.Value.{Value}
use Rattle.value.specs.ValueOrder.{value_cmp}
use Rattle.value.specs.Ordered.{put}
use Rattle.pages.specs.Reach.{key_of, value_of, entry_of, AreInOrder}
use Rattle.pages.specs.Shapes.{IsPage}

module _ {V : Type 0} where
  -- the entries with the differences: each says what stands at its key, or that nothing does
  abbrev pub with_differences : List (Value × Option V) → List (Value × V) → List (Value × V)
  with_differences [] main = main
  with_differences (d ∷ ds) main =
      put value_cmp key_of (key_of d) (entry_of (key_of d) (value_of d)) (with_differences ds main)

  -- where a key stands beside that of the first entry; less where there is none
  abbrev pub side_of : Value → List (Value × V) → Ordering
  side_of k [] = Less
  side_of k (x ∷ xs) = value_cmp k (key_of x)

  -- a page of differences, and entries in order
  pub record AreApart (differences : List (Value × Option V)) (main : List (Value × V)) : Type 0 where
    pub page : IsPage differences
    pub order : AreInOrder main
    pub short : length main + length differences < 2 ^ 63
