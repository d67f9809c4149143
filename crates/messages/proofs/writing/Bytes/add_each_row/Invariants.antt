use Rattle.std.proofs.Common.{◌≡◌, ◌++◌, drop}
use Rattle.messages.specs.Spelling as spelling
use Rattle.messages.proofs.writing.Bytes.add_each_row.Given as goal

-- what is written so far, and then what is left
abbrev pub invariant-loop-row : goal.invariant-loop-row
invariant-loop-row l = l.self ++ spelling.each_row (drop l.row-index l.rows) ≡ l.initial.self ++ spelling.each_row l.rows
