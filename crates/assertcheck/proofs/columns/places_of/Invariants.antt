use Rattle.std.proofs.Common.{◌≡◌, [], drop}
use Rattle.assertcheck.specs.Statements.{places_of}
use Rattle.assertcheck.proofs.columns.places_of.Given as goal

-- the places so far lead through the other names to all
abbrev pub invariant-loop-name : goal.invariant-loop-name
invariant-loop-name l = places_of l.schema.columns l.places.items (drop l.name-index l.names) ≡ places_of l.schema.columns [] l.names
