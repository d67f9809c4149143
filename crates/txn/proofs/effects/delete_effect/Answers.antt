use Rattle.std.proofs.Common.{ℕ, ap, sym, ◌∙◌}
use Rattle.assertion.specs.Declarations.{layouts_in}
use Rattle.assertion.specs.Meaning.{rows_of}
use Rattle.txn.proofs.effects.delete_effect.Goals as goal

pub returns-clause-put_in : goal.returns-clause-put_in
returns-clause-put_in c =
    let layouts = layouts_in c.args.view.now.declared in
    record {
      due = c.in_ok-changes.ensures.due layouts c.args.view.now.state c.recall_table.ensures.state (sym c.requires.runnable.key_is)
          (sym (c.rows.ensures.value ∙ ap (λ (t : ℕ). rows_of t c.args.view.now.state) c.table-table.ensures));
      fit = c.in_ok-changes.ensures.fit layouts;
    }
