use Rattle.std.proofs.Common.{◌≡◌, ◌+◌, length, vec_capacity}
use Rattle.calls.proofs.Stepping.{AreSoFar}
use Rattle.calls.proofs.databases.Database.run_steps.Given as goal

-- so many statements are run, all of which are done, and the room for responses is as it was
abbrev pub invariant-loop-step : goal.invariant-loop-step
invariant-loop-step l = record {
  run : AreSoFar l.session l.steps l.step-index l.initial.self l.self l.initial.responses.items l.responses.items;
  few : length l.responses.items ≡ length l.initial.responses.items + l.step-index;
  room : vec_capacity l.responses ≡ vec_capacity l.initial.responses;
}
