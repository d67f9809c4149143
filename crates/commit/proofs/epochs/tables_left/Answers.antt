use Rattle.std.proofs.Common.{◌∙◌, ap}
use Rattle.commit.specs.Cores.{newest_tables}
use Rattle.commit.proofs.Continuing.{last_left}
use Rattle.commit.proofs.epochs.tables_left.Goals as goal

pub returns-in-Some : goal.returns-in-Some
returns-in-Some c =
    c.newest.ensures ∙ ap newest_tables c.core.ensures
    ∙ last_left c.args.loaded.now c.args.outcomes.now c.in-Some.outcome.now c.in-Some.ensures.value
