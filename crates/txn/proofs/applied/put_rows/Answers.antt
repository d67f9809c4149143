use Rattle.std.proofs.Common.{◌+◌, ◌∙◌, drop}
use Rattle.std.proofs.lemmas.Result.{err_from_is_err_and}
use Rattle.value.proofs.Lists.{drop_item}
use Rattle.txn.proofs.Inserting.{put_none, put_one}
use Rattle.txn.proofs.applied.put_rows.Goals as goal

pub returns-in_err-change-clause-refused : goal.returns-in_err-change-clause-refused
returns-in_err-change-clause-refused c =
    let rows = c.args.rows.now in
    let i = c.loop-row.row-index in
    let p = err_from_is_err_and c.from_residual-in_err-change.result c.from_residual-in_err-change.ensures.1 in
    rw (p.1, p.2) (λ named.
    put_none c.args.own.now c.args.table rows c.loop-row.changes.items c.loop-row.view (drop i rows) (drop (i + 1) rows) c.row-item.result
    (drop_item rows i c.row-item.result c.loop-row-test.true c.row-item.is) c.loop-row.invariant
    c.in_err-change.field-0.0 (c.in_err-change.ensures.refused named))

pub loop-row-preserved : goal.loop-row-preserved
loop-row-preserved c =
    let rows = c.args.rows.now in
    let i = c.loop-row.row-index in
    put_one c.args.own.now c.args.table rows c.loop-row.changes.items c.loop-row.view (drop i rows) (drop (i + 1) rows) c.row-item.result
    (drop_item rows i c.row-item.result c.loop-row-test.true c.row-item.is) c.loop-row.invariant
    c.in_ok-change.change c.settle.new.self c.push.new.self.items c.in_ok-change.ensures.made (c.settle.ensures ∙ c.in_ok-view-2.ensures) c.in_ok-push.ensures.items
