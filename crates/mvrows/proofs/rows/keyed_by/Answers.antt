use Rattle.std.proofs.Common.{◌≡◌, ◌<◌, ◌∙◌, ap, sym, subst, arith, length, Some}
use Rattle.std.proofs.lemmas.List.{take_all}
use Rattle.value.specs.Ordered.{put}
use Rattle.value.specs.ValueOrder.{value_cmp}
use Rattle.table.specs.Rows.{RowValues}
use Rattle.pages.specs.Reach.{key_of, entry_of}
use Rattle.mvrows.specs.Keyed.{rows_of, AreKeyed}
use Rattle.mvrows.proofs.KeyedRows.{rows_more, keyed_more, length-rows_of}
use Rattle.mvrows.proofs.rows.keyed_by.Goals as goal

pub loop-at-preserved : goal.loop-at-preserved
loop-at-preserved c =
    let k = c.in_ok-key.key in
    let row = c.row_from-row.result.now in
    let rows = rows_of c.args.pages.now in
    let within : c.loop-at.at < length rows = omega (arith, c.loop-at-test.true, c.len-at-end.ensures.count, length-rows_of c.args.pages.now) in
    let made : c.put.new.self ≡ put value_cmp key_of k (entry_of k (Some row)) c.loop-at.made =
    c.in_ok-put.ensures.changed ∙ ap (λ (r : RowValues). put value_cmp key_of k (entry_of k (Some r)) c.loop-at.made) c.in_ok-row.ensures in
    record {
      rows = ap rows_of made ∙ rows_more c.args.key_column k c.loop-at.made row c.loop-at.at rows c.in_ok-key.ensures c.loop-at.invariant.keyed c.loop-at.invariant.rows within c.row_from-row.ensures c.requires;
      keyed = subst (AreKeyed c.args.key_column) (sym made) (keyed_more c.args.key_column k row c.loop-at.made c.in_ok-key.ensures c.loop-at.invariant.keyed);
    }

pub returns-clause-rows : goal.returns-clause-rows
returns-clause-rows c =
    c.loop-at.invariant.rows ∙ take_all c.loop-at.at (rows_of c.args.pages.now) (omega (arith, c.loop-at-test.false, c.len-at-end.ensures.count, length-rows_of c.args.pages.now))
