use Rattle.std.proofs.Common.{◌≡◌, drop}
use Rattle.messages.specs.Statuses.{status_of_each}
use Rattle.messages.proofs.responses.status_of_each.Given as goal

-- the status is that of those that are left
abbrev pub invariant-loop-response : goal.invariant-loop-response
invariant-loop-response l = status_of_each (drop l.response-index l.responses) ≡ status_of_each l.responses
