use Rattle.std.proofs.Common.{[]}
use Rattle.std.proofs.lemmas.List.Elements.{All-push}
use Rattle.groups.specs.Indexes.{IsIndexOf}
use Rattle.mvrows.specs.declared.indexes.ColumnIndex.{ColumnIndex}
use Rattle.mvrows.proofs.indexes.Indexes.emptied.Goals as goal

pub loop-it-preserved : goal.loop-it-preserved
loop-it-preserved c = λ key.
    let P : ColumnIndex → Type 0 = λ (it : ColumnIndex). IsIndexOf key it.column [] it.index in
    let made : ColumnIndex = record { column = c.it-item.result.column; index = c.new.result } in
    rw c.in_ok-push.ensures.items (All-push P c.loop-it.list.items made (c.loop-it.invariant key) (c.new.ensures.index key made.column))
