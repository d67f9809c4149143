use Rattle.manager_rows.proofs.given_back.rolled_back.Given as goal

-- the one manager's shelf and limits
abbrev pub ghosts-rolls_back : goal.ghosts-rolls_back
ghosts-rolls_back g a = record { shelf = λ _. a.on.shelf; limits = λ _. a.on.limits }
