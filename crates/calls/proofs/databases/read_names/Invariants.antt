use Rattle.std.proofs.Common.{◌≡◌, drop}
use Rattle.calls.specs.Calls.{names_of}
use Rattle.calls.proofs.Naming.{with_front}
use Rattle.calls.proofs.databases.read_names.Given as goal

-- the names so far, and then those of the values that are left
abbrev pub invariant-loop-value : goal.invariant-loop-value
invariant-loop-value l = with_front l.names.items (names_of (drop l.value-index l.values)) ≡ names_of l.values
