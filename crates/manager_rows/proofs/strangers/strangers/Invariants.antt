use Rattle.std.proofs.Common.{◌==◌}
use Rattle.std.specs.Prelude.{if◌then◌else◌}
use Rattle.manager_rows.proofs.strangers.strangers.Given as goal

-- the first manager's shelf and limits, and the second's
abbrev pub ghosts-two_managers : goal.ghosts-two_managers
ghosts-two_managers g a = record {
  shelf = λ id. (if id == 1 then a.shifts.shelf else a.accounts.shelf);
  limits = λ id. (if id == 1 then a.shifts.limits else a.accounts.limits);
}
