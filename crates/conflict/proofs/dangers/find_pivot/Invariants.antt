use Rattle.std.proofs.Common.{◌≡◌, ◌+◌, false, length, take, reverse}
use Rattle.std.specs.List.{list_any}
use Rattle.alone.specs.Numbers.{is_reader_of}
use Rattle.conflict.specs.Candidates.{record_of}
use Rattle.conflict.proofs.dangers.find_pivot.Given as goal

-- none so far would be the pivot
abbrev pub invariant-loop-pivot : goal.invariant-loop-pivot
invariant-loop-pivot l = list_any (is_reader_of (reverse l.committed) (record_of l.candidate)) (reverse (take (l.held + length l.yielded) l.committed)) ≡ false
