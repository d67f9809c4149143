use Rattle.tests_of_programs.proofs.threads_in_turn.session_without_a_place.Given as goal

abbrev pub ghosts-runs_one_of_two : goal.ghosts-runs_one_of_two
ghosts-runs_one_of_two g a = record { shelf = λ _. a.shelf; limits = λ _. record { commits = 3; sessions = 1 } }
