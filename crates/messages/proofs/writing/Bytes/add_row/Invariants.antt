use Rattle.std.proofs.Common.{◌≡◌, ◌++◌, drop, map}
use Rattle.alone.specs.Results.{value_of}
use Rattle.messages.specs.Spelling as spelling
use Rattle.messages.proofs.writing.Bytes.add_row.Given as goal

-- what is written so far, and then what is left
abbrev pub invariant-loop-value : goal.invariant-loop-value
invariant-loop-value l = l.self ++ spelling.row (map value_of (drop l.value-index l.values)) ≡ l.initial.self ++ spelling.row (map value_of l.values)
