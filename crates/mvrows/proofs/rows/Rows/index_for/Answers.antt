use Rattle.std.proofs.Common.{◌≡◌, ◌∙◌, ℕ, List, true, sym, subst}
use Rattle.std.proofs.lemmas.Option.{IfSome_then}
use Rattle.table.specs.Rows.{RowValues}
use Rattle.table.specs.Aggregates.{is_there}
use Rattle.mvrows.specs.Indexed.{AreIndexesOf}
use Rattle.mvrows.proofs.IndexedRows.{indexed_keys, there_unless}
use Rattle.mvrows.proofs.rows.Rows.index_for.Goals as goal

pub returns : goal.returns
returns c =
    let key = c.args.key_column in
    let rows = c.args.self.now in
    let there : is_there c.args.value.now ≡ true = there_unless (is_there c.args.value.now) (sym c.is_null.ensures ∙ c.if-is_null.false) in
    let are : AreIndexesOf key rows c.self.inside.indexes =
    subst (λ (n : ℕ). AreIndexesOf n rows c.self.inside.indexes) (sym c.if-key_column-self.false) (subst (λ (rs : List RowValues). AreIndexesOf c.self.inside.column rs c.self.inside.indexes) c.self.view_is c.self.invariant.indexed) in
    IfSome_then c.get.result (c.get.ensures key rows are)
    (λ index is. is.right c.args.value.now ∙ indexed_keys key c.args.column c.args.value.now rows there)
