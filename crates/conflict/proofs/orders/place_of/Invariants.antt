use Rattle.std.proofs.Common.{◌<◌, drop, reverse}
use Rattle.std.specs.List.{AllByRecursion}
use Rattle.alone.specs.Order.{rank, serial_order}
use Rattle.conflict.proofs.orders.place_of.Given as goal

-- all at the end have a greater rank
abbrev pub invariant-loop-at : goal.invariant-loop-at
invariant-loop-at l =
    AllByRecursion (λ other. l.rank < rank (reverse l.committed) other)
    (drop l.at (serial_order (reverse l.committed)))
