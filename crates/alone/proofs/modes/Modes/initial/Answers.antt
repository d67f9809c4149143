use Rattle.std.proofs.Common.{sym, ◌∙◌}
use Rattle.alone.proofs.Immediates.{none_deferred}
use Rattle.alone.proofs.modes.Modes.initial.Goals as goal

pub returns-then-not-is_any_initially_deferred : goal.returns-then-not-is_any_initially_deferred
returns-then-not-is_any_initially_deferred c =
    c.all_immediate.ensures ∙ none_deferred c.args.assertions.now (sym c.is_any_initially_deferred.ensures ∙ c.if-not-is_any_initially_deferred.true)
