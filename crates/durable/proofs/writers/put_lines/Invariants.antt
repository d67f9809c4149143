use Rattle.durable.proofs.writers.put_lines.Given as goal

abbrev pub ghost-append : goal.ghost-append
ghost-append g a = g.told
