use Rattle.std.proofs.Common.{◌≡◌, map}
use Rattle.std.specs.Prelude.{Contains}
use Rattle.siread.specs.declared.keys.Place.{Place as AnyPlace}
use Rattle.siread.specs.Keys.{place_of}
use Rattle.changes.specs.Nets.{HasPlace, noted_at}
use Rattle.changes.proofs.Places.{noted_after_all}
use Rattle.changes.proofs.touched.TouchedRows.put.Given as goal

-- what will be noted after the changes that are left is what was to be noted, and there is room for them
abbrev pub invariant-loop-change : goal.invariant-loop-change
invariant-loop-change l =
    ((place : AnyPlace) → noted_after_all l.change-iterator.rest.items place (noted_at l.self place) ≡ noted_after_all l.fn.changes.items place (noted_at l.fn.self place))
    × ((place : AnyPlace) → Contains (map place_of l.change-iterator.rest.items) place → HasPlace l.self place)
