use Rattle.std.proofs.Common.{◌∙◌, ap, sym, subst, ℕ}
use Rattle.table.specs.Rows.{row_at}
use Rattle.mvrows.specs.Keyed.{AreKeyed}
use Rattle.mvrows.proofs.KeyedRows.{at-rows}
use Rattle.mvrows.proofs.rows.Rows.get.Goals as goal

pub returns-then-key_column-self : goal.returns-then-key_column-self
returns-then-key_column-self c =
    let pages = c.self.inside.pages in
    c.get.ensures.value ∙ at-rows c.args.key_column c.args.key.now pages (subst (λ (n : ℕ). AreKeyed n pages) (sym c.if-key_column-self.true) c.self.invariant.keyed)
    ∙ ap (row_at c.args.key_column c.args.key.now) c.self.view_is
