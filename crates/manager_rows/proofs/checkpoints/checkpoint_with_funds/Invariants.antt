use Rattle.std.proofs.Common.{◌==◌}
use Rattle.std.specs.Prelude.{if◌then◌else◌}
use Rattle.manager_rows.proofs.checkpoints.checkpoint_with_funds.Given as goal

-- the first manager's shelf and limits, and the second's
abbrev pub ghosts-goes_on : goal.ghosts-goes_on
ghosts-goes_on g a = record {
  shelf = λ id. (if id == 1 then a.first.shelf else a.second.shelf);
  limits = λ id. (if id == 1 then a.first.limits else a.second.limits);
}
