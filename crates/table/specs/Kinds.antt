-- The kind of slot that holds what a set function gives.
use Rattle.table.specs.declared.aggregates.Aggregate.{Aggregate}
use Rattle.table.specs.declared.aggregates.Aggregate.TheVariants as aggregate
use Rattle.table.specs.declared.slots.SlotKind.{SlotKind}
use Rattle.table.specs.declared.slots.SlotKind.TheVariants.{Count, Sum, Extreme}

-- a count, a sum, or one of the values themselves
abbrev pub kind_of_aggregate : Aggregate → SlotKind
kind_of_aggregate aggregate.CountRows = Count
kind_of_aggregate (aggregate.Count column) = Count
kind_of_aggregate (aggregate.CountDistinct column) = Count
kind_of_aggregate (aggregate.Sum column) = Sum
kind_of_aggregate (aggregate.SumDistinct column) = Sum
kind_of_aggregate (aggregate.Min column) = Extreme
kind_of_aggregate (aggregate.Max column) = Extreme
