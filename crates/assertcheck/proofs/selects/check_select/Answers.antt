use Rattle.std.proofs.Common.{◌∙◌, sym}
use Rattle.form_check.specs.ShownSources.{shown_source}
use Rattle.assertcheck.proofs.SelectedNames.{each_row_made, each_row_unrefused}
use Rattle.assertcheck.proofs.selects.check_select.Goals as goal

pub returns-else-not-lists_each_row-clause-made : goal.returns-else-not-lists_each_row-clause-made
returns-else-not-lists_each_row-clause-made c =
    each_row_made c.args.catalog.now c.args.select.now (shown_source c.in_ok-target.target) c.select_over-made.result c.in_ok-target.ensures.found c.select_over-made.ensures.made
    (sym c.lists_each_row.ensures ∙ c.if-not-lists_each_row.false)

pub returns-else-not-lists_each_row-clause-refused : goal.returns-else-not-lists_each_row-clause-refused
returns-else-not-lists_each_row-clause-refused c =
    each_row_unrefused c.args.catalog.now c.args.select.now c.select_over-made.result (sym c.lists_each_row.ensures ∙ c.if-not-lists_each_row.false)
