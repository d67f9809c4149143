use Rattle.std.proofs.Common.{◌≡◌, ◌++◌, map}
use Rattle.durable.specs.Images.{insertion_of}
use Rattle.durable.proofs.images.push_rows.Given as goal

-- what was put in so far, and what is left, is all
abbrev pub invariant-loop-row : goal.invariant-loop-row
invariant-loop-row l =
    l.image.items ++ map (insertion_of l.table l.key) l.row-iterator ≡ l.initial.image.items ++ map (insertion_of l.table l.key) l.rows
