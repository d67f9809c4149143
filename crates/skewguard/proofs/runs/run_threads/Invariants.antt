use Rattle.skewguard.proofs.runs.run_threads.Given as goal

-- the one manager's shelf and limits
abbrev pub ghosts-threads_into : goal.ghosts-threads_into
ghosts-threads_into g a = record { shelf = λ _. a.shelf; limits = λ _. record { commits = a.max_commits; sessions = 256 } }
