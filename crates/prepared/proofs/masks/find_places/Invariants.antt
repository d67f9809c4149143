use Rattle.std.proofs.Common.{◌≡◌, ◌-◌, ◌++◌, length}
use Rattle.prepared.specs.Masks.{places_within}
use Rattle.prepared.proofs.masks.find_places.Given as goal

-- the places so far, and those from here on, are all
abbrev pub invariant-loop-turn : goal.invariant-loop-turn
invariant-loop-turn l = l.places.items ++ places_within (l._turn-end - l._turn) l.text l.from ≡ places_within (length l.text) l.text 0
