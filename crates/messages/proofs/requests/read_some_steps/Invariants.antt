use Rattle.std.proofs.Common.{◌≡◌, ◌-◌}
use Rattle.messages.specs.Requests.{steps_in}
use Rattle.messages.proofs.Loop.{with_front}
use Rattle.messages.proofs.requests.read_some_steps.Given as goal

abbrev pub invariant-loop : goal.invariant-loop
invariant-loop l = with_front l.steps.items (steps_in (l.count - l.counter) l.rest) ≡ steps_in l.count l.bytes
