use Rattle.std.proofs.Common.{◌∙◌, ap, map, subst, sym, Option}
use Rattle.value.specs.Ordered.{put}
use Rattle.value.specs.ValueOrder.{value_cmp}
use Rattle.pages.specs.Reach.{key_of, entry_of}
use Rattle.groups.specs.Figures.{Figures}
use Rattle.groups.specs.Totals.{entry_from, AreTotalsOf}
use Rattle.groups.proofs.EntryLemmas.{AreTotalsOf-put, put_entry-entry}
use Rattle.groups.proofs.entries.Totals.put.Goals as goal

pub returns-clause-put : goal.returns-clause-put
returns-clause-put c =
    let g = c.args.group.now in
    let pages = c.self.inside.pages in
    rw (← c.self.view_is)
    (ap (map entry_from) (c.in_ok-put.ensures.changed ∙ ap (λ (o : Option Figures). put value_cmp key_of g (entry_of g o) pages) c.unless_empty.ensures) ∙ put_entry-entry g c.args.total pages)

pub returns-clause-totals : goal.returns-clause-totals
returns-clause-totals c = λ asked before after here elsewhere are.
    subst (AreTotalsOf asked after) (sym (returns-clause-put c)) (AreTotalsOf-put asked c.args.group.now c.args.total before after c.args.self here elsewhere are)
