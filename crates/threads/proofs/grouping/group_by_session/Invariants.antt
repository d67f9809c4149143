use Rattle.std.proofs.Common.{◌≡◌, length, reverse}
use Rattle.threads.specs.Adding.{scripts_with_lines}
use Rattle.threads.specs.Grouping.{scripts_of}
use Rattle.threads.proofs.grouping.group_by_session.Given as goal

-- the scripts so far, and then the lines that are left
abbrev pub invariant-group : goal.invariant-group
invariant-group l = scripts_with_lines l.scripts.items (reverse l.left) ≡ scripts_of l.fn.lines

abbrev pub decreases-group : goal.decreases-group
decreases-group l = length l.left
