use Rattle.std.proofs.Common.{ap, refl, ◌∙◌, inr}
use Rattle.messages.specs.declared.responses.Response.TheVariants.{Closing}
use Rattle.commit.specs.Events.{EngineState}
use Rattle.replay.specs.Reports.{closing_part_of}
use Rattle.calls.proofs.databases.Database.report.Goals as goal

pub returns-in-Ok : goal.returns-in-Ok
returns-in-Ok c = inr (record { response = ap Closing (c.in-Ok.ensures ∙ ap closing_part_of (c.core.ensures ∙ ap (λ (e : EngineState). e.core) c.engine.ensures)); same = refl })
