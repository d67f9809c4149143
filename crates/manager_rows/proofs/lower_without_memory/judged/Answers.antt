use Rattle.std.proofs.Common.{arith}
use Rattle.manager_rows.proofs.lower_without_memory.judged.Goals as goal

-- (no commit stands before the first)
pub judge-requires-clause-readers : goal.judge-requires-clause-readers
judge-requires-clause-readers c = λ writes. record { low = 0; within = omega arith; are = c.requires }
