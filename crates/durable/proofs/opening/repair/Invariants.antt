use Rattle.durable.proofs.opening.repair.Given as goal

abbrev pub ghost-repair : goal.ghost-repair
ghost-repair g a = g.told
