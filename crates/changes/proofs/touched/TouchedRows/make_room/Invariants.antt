use Rattle.std.proofs.Common.{◌≡◌, map, take}
use Rattle.std.specs.Prelude.{Contains}
use Rattle.siread.specs.declared.keys.Place.{Place as AnyPlace}
use Rattle.siread.specs.Keys.{place_of}
use Rattle.changes.specs.Nets.{HasPlace, noted_at}
use Rattle.changes.proofs.touched.TouchedRows.make_room.Given as goal

-- what is noted is as it was, and there is room for the changes so far
abbrev pub invariant-loop-change : goal.invariant-loop-change
invariant-loop-change l =
    ((place : AnyPlace) → noted_at l.self place ≡ noted_at l.fn.self place)
    × ((place : AnyPlace) → Contains (map place_of (take l.change-index l.changes)) place → HasPlace l.self place)
