use Rattle.tests_of_programs.proofs.threads_in_turn.report_without_a_session.Given as goal

abbrev pub ghosts-prints_unrun : goal.ghosts-prints_unrun
ghosts-prints_unrun g a = record { shelf = λ _. a.shelf; limits = λ _. record { commits = 3; sessions = 1 } }
