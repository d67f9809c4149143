use Rattle.manager_rows.proofs.without_memory.without_memory.Given as goal

-- the one manager's shelf and limits
abbrev pub ghosts-answers : goal.ghosts-answers
ghosts-answers g a = record { shelf = λ _. a.on.shelf; limits = λ _. a.on.limits }
