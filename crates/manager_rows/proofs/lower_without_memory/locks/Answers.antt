use Rattle.manager_rows.proofs.lower_without_memory.locks.Goals as goal

pub put-requires : goal.put-requires
put-requires g c = c.new-locks.ensures.below 1
