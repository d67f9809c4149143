use Rattle.std.proofs.Common.{◌≡◌, ◌++◌, drop, map}
use Rattle.messages.specs.Columns.{derived_name}
use Rattle.messages.specs.Spelling as spelling
use Rattle.messages.proofs.writing.Bytes.add_each_name.Given as goal

-- what is written so far, and then what is left
abbrev pub invariant-loop-column : goal.invariant-loop-column
invariant-loop-column l = l.self ++ spelling.each_name (map derived_name (drop l.column-index l.columns)) ≡ l.initial.self ++ spelling.each_name (map derived_name l.columns)
