-- A node that is cut in two.
use Rattle.std.specs.Prelude.{◌≡◌, false, ◌<◌, ◌++◌, length}
use Rattle.value.specs.declared.values.Value.{Value}
use Rattle.pages.specs.Reach.{reaches}
use Rattle.pages.specs.Levels.{Tree}
use Rattle.pages.specs.Parts.{AreFrom}

-- the two nodes have the entries of the one, each has some and room for more, and the key is above the first one's and
-- above none of the second's
pub record AreHalves {V : Type 0} (old new : Tree V) (key : Value) (half : Tree V) : Type 0 where
  pub items : new.1 ++ half.1 ≡ old.1
  pub first_height : new.0.0 ≡ old.0.0
  pub second_height : half.0.0 ≡ old.0.0
  pub first_room : new.0.1 < 15
  pub second_room : half.0.1 < 15
  pub first_some : 0 < length new.1
  pub second_some : 0 < length half.1
  pub below : reaches key new.1 ≡ false
  pub from : AreFrom key half.1
