use Rattle.std.proofs.Common.{◌≡◌, drop}
use Rattle.prepared.specs.Masks.{with_zeros}
use Rattle.prepared.proofs.masks.put_zeros.Given as goal

abbrev pub invariant-loop-at : goal.invariant-loop-at
invariant-loop-at l = with_zeros (drop l.at-index l.places) l.text ≡ with_zeros l.places l.initial.text
