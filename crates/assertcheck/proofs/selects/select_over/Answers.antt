use Rattle.form_check.specs.ShownSources.{shown_source}
use Rattle.std.proofs.Common.{rules}
use Rattle.assertcheck.proofs.SelectedNames.{select_by_last}
use Rattle.assertcheck.proofs.selects.select_over.Goals as goal

pub returns-clause-refused : goal.returns-clause-refused
returns-clause-refused c =
    select_by_last (shown_source c.args.target) c.args.select.now c.in_ok-listing.listing c.in_ok-filter.filter c.columns.result.now c.require_sound.result
    (search rules) (search rules) c.columns.ensures.value c.require_sound.ensures.refused
