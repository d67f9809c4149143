use Rattle.std.proofs.Common.{◌≡◌, ◌++◌, drop, map}
use Rattle.siread.specs.declared.keys.LockKey.TheVariants.{Row as OneRow}
use Rattle.assertion.specs.Declarations.{layouts_in}
use Rattle.alone.specs.Statements.{place_in, places_in}
use Rattle.txn.proofs.steps.list_places.Given as goal

-- the keys so far with those of the rows that are left are all
abbrev pub invariant-loop-row : goal.invariant-loop-row
invariant-loop-row l =
    l.keys.items ++ map OneRow (map (place_in (layouts_in l.own.declared) l.new.table) (drop l.row-index l.rows))
    ≡ map OneRow (places_in (layouts_in l.own.declared) l.new)
