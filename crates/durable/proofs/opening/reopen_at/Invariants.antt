use Rattle.durable.proofs.opening.reopen_at.Given as goal

abbrev pub ghost-reopen : goal.ghost-reopen
ghost-reopen g a = g.told
