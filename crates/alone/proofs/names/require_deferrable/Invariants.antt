use Rattle.std.proofs.Common.{◌≡◌, drop}
use Rattle.value.specs.Results.{behind}
use Rattle.alone.specs.Modes.{tested_names}
use Rattle.alone.proofs.names.require_deferrable.Given as goal

-- what was made so far with what the rest becomes is what all become
abbrev pub invariant-loop-name : goal.invariant-loop-name
invariant-loop-name l = behind l.made.items (tested_names l.assertions (drop l.name-index l.names)) ≡ tested_names l.assertions l.names
