use Rattle.std.proofs.Common.{ℕ, ap, sym, ◌∙◌}
use Rattle.table.specs.Rows.{Layout}
use Rattle.assertion.specs.Declarations.{layouts_in}
use Rattle.assertion.specs.Meaning.{rows_of}
use Rattle.alone.specs.Statements.{columns_of}
use Rattle.txn.proofs.effects.update_effect.Goals as goal

pub returns-clause-put_in : goal.returns-clause-put_in
returns-clause-put_in c =
    let layouts = layouts_in c.args.view.now.declared in
    record {
      due = c.in_ok-changes.ensures.due layouts c.args.view.now.state c.recall_table.ensures.state (sym c.requires.runnable.key_is)
          (sym (c.rows.ensures.value ∙ ap (λ (t : ℕ). rows_of t c.args.view.now.state) c.table-table.ensures)) c.requires.keyless;
      fit = c.in_ok-changes.ensures.fitting layouts
          (sym (c.columns-columns.ensures.value ∙ ap (λ (l : Layout). l.columns) c.schema.ensures ∙ ap (λ (t : ℕ). columns_of t layouts) c.table-table.ensures));
    }
