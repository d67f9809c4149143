use Rattle.std.proofs.Common.{rules}
use Rattle.form_check.specs.ShownSources.{shown_source}
use Rattle.assertcheck.proofs.Refused.{by_last}
use Rattle.assertcheck.proofs.updates.update_over.Goals as goal

pub returns-clause-refused : goal.returns-clause-refused
returns-clause-refused c = by_last (shown_source c.args.target) c.args.places.now c.args.sets.now c.args.condition.now
    c.in_ok-settings.settings.items c.from_vec.result c.in_ok-filter.filter c.columns.result.now c.require_sound.result
    (search rules) (search rules) c.require_sound.ensures.sound c.columns.ensures.value c.from_vec.ensures
