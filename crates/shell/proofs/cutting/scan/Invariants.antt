use Rattle.std.proofs.Common.{◌≡◌, drop}
use Rattle.shell.specs.Cuts.{scan}
use Rattle.shell.proofs.cutting.scan.Given as goal

-- the place behind the bytes so far, and then behind those that are left
abbrev pub invariant-loop-byte : goal.invariant-loop-byte
invariant-loop-byte l = scan l.now (drop l.byte-index l.bytes) ≡ scan l.initial.now l.bytes
