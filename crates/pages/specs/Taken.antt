-- A change of a page, by places.
use Rattle.std.specs.Prelude.{◌≡◌, ℕ, ◌≤◌, ◌++◌, Option, List, take, drop, length, option_to_list}
use Rattle.value.specs.declared.values.Value.{Value}
use Rattle.value.specs.ValueOrder.{value_cmp}
use Rattle.value.specs.Ordered.{put}
use Rattle.pages.specs.Reach.{key_of}

-- a change at the key takes away the entries from a place up to another, and the new entry stands there
pub record IsTakenFrom {V : Type 0} (key : Value) (front behind : ℕ) (page : List (Value × V)) : Type 0 where
  pub order : front ≤ behind
  pub within : behind ≤ length page
  pub changed : (new : Option (Value × V))
      → put value_cmp key_of key new page ≡ take front page ++ (option_to_list new ++ drop behind page)
