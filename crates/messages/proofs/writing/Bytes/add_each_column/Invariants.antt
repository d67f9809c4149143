use Rattle.std.proofs.Common.{◌≡◌, ◌++◌, drop}
use Rattle.messages.specs.Spelling as spelling
use Rattle.messages.proofs.writing.Bytes.add_each_column.Given as goal

-- what is written so far, and then what is left
abbrev pub invariant-loop-column : goal.invariant-loop-column
invariant-loop-column l = l.self ++ spelling.each_column (drop l.column-index l.columns) ≡ l.initial.self ++ spelling.each_column l.columns
