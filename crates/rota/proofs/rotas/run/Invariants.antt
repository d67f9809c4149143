use Rattle.rota.proofs.rotas.run.Given as goal

-- the one manager's shelf and limits
abbrev pub ghosts-run_on : goal.ghosts-run_on
ghosts-run_on g a = record { shelf = λ _. a.shelf; limits = λ _. a.limits }
