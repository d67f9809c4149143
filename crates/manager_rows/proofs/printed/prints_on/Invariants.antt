use Rattle.std.proofs.Common.{◌==◌}
use Rattle.std.specs.Prelude.{if◌then◌else◌}
use Rattle.manager_rows.proofs.printed.prints_on.Given as goal

-- the shelf and limits of the manager, and of the one that is opened where that found no memory
abbrev pub ghosts-serve : goal.ghosts-serve
ghosts-serve g a = record {
  shelf = λ id. (if id == 1 then a.one.shelf else a.two.shelf);
  limits = λ id. (if id == 1 then a.one.limits else a.two.limits);
}
