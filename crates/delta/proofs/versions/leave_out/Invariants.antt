use Rattle.std.proofs.Common.{◌≡◌, filter, length, map, not, take}
use Rattle.std.specs.Arc.{arc_value}
use Rattle.std.specs.Str.{bytes_eq}
use Rattle.delta.specs.Maintained.{AreWatched}
use Rattle.delta.proofs.versions.leave_out.Given as goal

-- of the first assertions those that stay, each with its watch
abbrev pub invariant-loop-index : goal.invariant-loop-index
invariant-loop-index l = record {
  stay : l.left.items ≡ filter (λ a. not (bytes_eq a.name l.name)) (take l.index l.assertions);
  watched : AreWatched l._schemas l._tables l.left.items (length l.left.items) (map arc_value l.shared.items);
}
