use Rattle.std.proofs.Common.{◌≡◌, ◌-◌}
use Rattle.messages.specs.Reading.{values_in}
use Rattle.messages.proofs.Loop.{with_front}
use Rattle.messages.proofs.reading.read_some.Given as goal

abbrev pub invariant-loop : goal.invariant-loop
invariant-loop l = with_front l.values.items (values_in (l.count - l.counter) l.rest) ≡ values_in l.count l.bytes
