use Rattle.std.proofs.Common.{◌≡◌, ◌++◌, drop, length}
use Rattle.assertcheck.specs.Statements.{places_from}
use Rattle.assertcheck.proofs.columns.all_places.Given as goal

-- the places so far with those from here on are all
abbrev pub invariant-loop-column : goal.invariant-loop-column
invariant-loop-column l = l.places.items ++ places_from (length l.places.items) (drop l._column-index l.columns) ≡ places_from 0 l.columns
