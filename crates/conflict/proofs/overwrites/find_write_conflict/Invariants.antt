use Rattle.std.proofs.Common.{◌≡◌, false, take}
use Rattle.std.specs.List.{list_any}
use Rattle.alone.specs.Commits.{share_row}
use Rattle.conflict.proofs.overwrites.find_write_conflict.Given as goal

-- no row so far is that of another
abbrev pub invariant-loop-row : goal.invariant-loop-row
invariant-loop-row l = list_any (λ other. share_row (take l.row l.changes) other.changes) l.others ≡ false
