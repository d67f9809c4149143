use Rattle.tests_of_programs.proofs.threads_in_turn.written_to.Given as goal

abbrev pub ghosts-threads_into : goal.ghosts-threads_into
ghosts-threads_into g a = record { shelf = λ _. a.shelf; limits = λ _. record { commits = a.max_commits; sessions = 256 } }
