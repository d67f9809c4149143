use Rattle.std.proofs.Common.{◌≡◌, ◌++◌, drop, map}
use Rattle.table.specs.Aggregates.{aggregate}
use Rattle.table.specs.Kinds.{kind_of_aggregate}
use Rattle.table.specs.Slots.{kinds_of, values_of}
use Rattle.changes.proofs.listings.set_functions.Given as goal

-- the slots so far, and those of the other set functions
abbrev pub invariant-loop-aggregate : goal.invariant-loop-aggregate
invariant-loop-aggregate l = record {
  values : values_of l.slots ++ map (λ a. aggregate a (map (λ row. row.now) l.rows)) (drop l.aggregate-index l.aggregates)
      ≡ map (λ a. aggregate a (map (λ row. row.now) l.rows)) l.aggregates;
  kinds : kinds_of l.slots ++ map kind_of_aggregate (drop l.aggregate-index l.aggregates)
      ≡ map kind_of_aggregate l.aggregates;
}
