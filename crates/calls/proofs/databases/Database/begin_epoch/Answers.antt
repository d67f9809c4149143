use Rattle.std.proofs.Common.{ap, refl, ◌∙◌, inr}
use Rattle.messages.specs.declared.responses.Response.TheVariants.{Changed}
use Rattle.commit.specs.Events.{EngineState}
use Rattle.replay.specs.Reports.{closing_part_of}
use Rattle.calls.proofs.databases.Database.begin_epoch.Goals as goal

pub returns-in-Ok-checkpoint : goal.returns-in-Ok-checkpoint
returns-in-Ok-checkpoint c = inr (inr (record {
  closed = c.in-Ok-checkpoint.ensures.closed;
  next = c.in-Ok-checkpoint.ensures.after;
  seats = c.in-Ok-checkpoint.ensures.seats;
  writer = c.in-Ok-checkpoint.ensures.writer;
  sessions = refl;
  statements = refl;
  told = ap Changed (c.in-Ok.ensures ∙ ap closing_part_of (c.core.ensures ∙ ap (λ (e : EngineState). e.core) c.engine.ensures));
}))
