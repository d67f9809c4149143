use Rattle.std.proofs.Common.{◌≡◌, ◌++◌, map}
use Rattle.std.specs.List.{zip}
use Rattle.std.specs.Iterator.Adapters.{zip_first, zip_second}
use Rattle.std.specs.Slice.Iter.{iter_rest}
use Rattle.definitions.specs.Constraints.{agree}
use Rattle.definitions.proofs.constraints.agreements.Given as goal

-- the parts made so far, and those of the other pairs
abbrev pub invariant-loop-column : goal.invariant-loop-column
invariant-loop-column l =
    l.parts ++ map (agree l.own) (zip (iter_rest (zip_first l.column-iterator)) (iter_rest (zip_second l.column-iterator)))
    ≡ map (agree l.own) (zip l.columns l.referenced)
