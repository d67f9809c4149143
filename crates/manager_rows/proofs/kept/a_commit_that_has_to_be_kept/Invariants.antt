use Rattle.manager_rows.proofs.kept.a_commit_that_has_to_be_kept.Given as goal

-- the one manager's shelf and limits
abbrev pub ghosts-keep_or_not : goal.ghosts-keep_or_not
ghosts-keep_or_not g a = record { shelf = λ _. a.opening.shelf; limits = λ _. a.opening.limits }
