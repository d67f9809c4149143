use Rattle.std.proofs.Common.{sym, ◌∙◌}
use Rattle.std.specs.Arc.{arc_value}
use Rattle.delta.proofs.WatchLemmas.{watched-elsewhere}
use Rattle.delta.proofs.watches.watch_after.Goals as goal

pub returns-in_ok-try_clone : goal.returns-in_ok-try_clone
returns-in_ok-try_clone c =
    rw c.in_ok-try_clone.ensures
    (watched-elsewhere c.args.schemas.now c.args.form.now c.args.change.now c.args.before.now c.args.after.now (arc_value c.args.watch.now) c.requires.step c.requires.watched (sym c.is_over.ensures ∙ c.if-is_over.false))
