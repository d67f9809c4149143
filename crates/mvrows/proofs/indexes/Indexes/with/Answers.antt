use Rattle.std.proofs.Common.{◌≡◌, ◌∙◌, List, length, get_or, sym, subst, ap, arith}
use Rattle.std.specs.Option.{option_copied}
use Rattle.std.proofs.lemmas.List.Elements.{All-push}
use Rattle.table.specs.Rows.{put_row}
use Rattle.groups.specs.Indexes.{IsIndexOf}
use Rattle.mvrows.specs.declared.indexes.ColumnIndex.{ColumnIndex}
use Rattle.mvrows.proofs.indexes.Indexes.with.Goals as goal

pub loop-it-preserved : goal.loop-it-preserved
loop-it-preserved c = λ key rows is are.
    let P : ColumnIndex → Type 0 = λ (it : ColumnIndex). IsIndexOf key it.column (put_row key c.args.key.now (option_copied c.args.new) rows) it.index in
    let it : ColumnIndex = c.it-item.result in
    let all : c.deref-it-items.result.now ≡ c.args.self.now = c.deref-it-items.ensures.value ∙ c.self.view_is in
    let here : IsIndexOf key it.column rows it.index =
    subst (λ (x : ColumnIndex). IsIndexOf key x.column rows x.index) (sym (c.it-item.is ∙ ap (λ (xs : List ColumnIndex). get_or xs c.loop-it.it-index it) all)) (are c.loop-it.it-index it (omega (arith, ap length all))) in
    let taken : IsIndexOf key it.column rows c.in_ok-copy.field-0 = rw c.in_ok-copy.ensures here in
    let made : ColumnIndex = record { column = it.column; index = c.in_ok-index.index } in
    let after : P made = c.in_ok-index.ensures key rows is.ordered is.stands is.keyed taken in
    rw c.in_ok-push.ensures.items (All-push P c.loop-it.list.items made (c.loop-it.invariant key rows is are) after)
