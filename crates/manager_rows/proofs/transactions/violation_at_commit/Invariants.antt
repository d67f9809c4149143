use Rattle.manager_rows.proofs.transactions.violation_at_commit.Given as goal

-- the one manager's shelf and limits
abbrev pub ghosts-violates : goal.ghosts-violates
ghosts-violates g a = record { shelf = λ _. a.on.shelf; limits = λ _. a.on.limits }
