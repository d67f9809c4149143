use Rattle.std.proofs.Common.{ℕ, List, Option, sym, subst}
use Rattle.std.specs.Option.{option_copied}
use Rattle.std.proofs.lemmas.Result.{IfOk-weaker}
use Rattle.value.specs.Ordered.{HasKey}
use Rattle.value.specs.ValueOrder.{value_cmp}
use Rattle.table.specs.Rows.{RowValues, value_in, put_row}
use Rattle.mvrows.specs.Indexed.{AreIndexesOf, IsReplacement}
use Rattle.mvrows.specs.declared.indexes.ColumnIndex.{ColumnIndex}
use Rattle.mvrows.proofs.rows.Rows.indexes_after.Goals as goal

pub returns : goal.returns
returns c =
    let column = c.args.key_column in
    let k = c.args.change.now.key in
    let rows = c.args.self.now in
    let new = c.as_ref.ensures.value in
    let are : AreIndexesOf column rows c.self.inside.indexes =
    subst (λ (n : ℕ). AreIndexesOf n rows c.self.inside.indexes) (sym c.if-key_column-self.false) (subst (λ (rs : List RowValues). AreIndexesOf c.self.inside.column rs c.self.inside.indexes) c.self.view_is c.self.invariant.indexed) in
    let is : IsReplacement column k (option_copied c.get-old.result) (option_copied c.as_ref.result) rows = record {
      ordered = c.requires.ordered;
      stands = sym c.get-old.ensures;
      keyed = subst (HasKey value_cmp (value_in column) k) (sym new) c.requires.keyed;
    } in
    IfOk-weaker c.with.result _ _
    (λ (made : List ColumnIndex) after. subst (λ (o : Option RowValues). AreIndexesOf column (put_row column k o rows) made) new (after column rows is are))
    c.with.ensures
