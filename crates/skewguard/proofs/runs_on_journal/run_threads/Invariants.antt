use Rattle.skewguard.proofs.runs_on_journal.run_threads.Given as goal

-- the one manager's shelf and limits
abbrev pub ghosts-threads_on_journal : goal.ghosts-threads_on_journal
ghosts-threads_on_journal g a = record { shelf = λ _. a.shelf; limits = λ _. record { commits = a.max_commits; sessions = 256 } }
