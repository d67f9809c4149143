use Rattle.std.proofs.Common.{◌≡◌, ◌++◌, drop}
use Rattle.token.specs.Bytes.{name_of}
use Rattle.token.proofs.readings.name_bytes.Given as goal

abbrev pub invariant-loop-b : goal.invariant-loop-b
invariant-loop-b l = l.name.items ++ name_of (drop l.b-index l.spelling) ≡ name_of l.spelling
