use Rattle.std.proofs.Common.{◌∙◌, sym, subst}
use Rattle.groups.specs.Totals.{IsEntryOf}
use Rattle.groups.proofs.EntryLemmas.{total_at-entry}
use Rattle.groups.proofs.entries.Totals.get.Goals as goal

pub returns-clause-value : goal.returns-clause-value
returns-clause-value c = rw (← c.self.view_is) (c.get.ensures.value ∙ total_at-entry c.args.group.now c.self.inside.pages)

pub returns-clause-entry : goal.returns-clause-entry
returns-clause-entry c = λ asked members are.
    subst (IsEntryOf asked (members c.args.group.now)) (sym (rw (← c.self.view_is) (c.get.ensures.value ∙ total_at-entry c.args.group.now c.self.inside.pages))) (are.right c.args.group.now)
