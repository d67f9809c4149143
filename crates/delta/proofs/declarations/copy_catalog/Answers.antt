use Rattle.std.proofs.Common.{sym, ap, arith}
use Rattle.std.specs.Prelude.{is_some}
use Rattle.std.proofs.lemmas.List.{length-map}
use Rattle.table.specs.Rows.{layouts_of, names_of}
use Rattle.delta.proofs.StartLemmas.{take-get, get-there}
use Rattle.delta.proofs.Declaring.{new_name, table_at}
use Rattle.delta.proofs.declarations.copy_catalog.Goals as goal
use Rattle.delta.proofs.declarations.copy_catalog.Goals.{in-Some+in-Some-at+in_ok-copy+in_ok-copy-2+in_ok-add_new, in-Some+in_default-at, in_default}

pub add_new-requires : goal.add_new-requires
add_new-requires c =
    rw (c.loop-table.invariant, c.in_ok-copy.ensures)
    (ap is_some (new_name c.args.catalog.now c.loop-table.table c.in-Some.name.now c.in-Some-at.schema.now (table_at c.args.catalog.now c.loop-table.table c.in-Some.name.now c.in-Some-at.schema.now c.in-Some.ensures c.in-Some-at.ensures) c.len-table-end.ensures.unique))

pub loop-table-preserved : goal.loop-table-preserved
loop-table-preserved c = elim c.match-name.branch [
  | in-Some+in-Some-at+in_ok-copy+in_ok-copy-2+in_ok-add_new w ↦ rw (w.copy-is, w.in_ok-add_new.ensures.ok, c.loop-table.invariant, w.in_ok-copy.ensures, w.in_ok-copy-2.ensures)
      (sym (take-get c.args.catalog.now c.loop-table.table (w.in-Some.name.now, w.in-Some-at.schema.now) (table_at c.args.catalog.now c.loop-table.table w.in-Some.name.now w.in-Some-at.schema.now w.in-Some.ensures w.in-Some-at.ensures)))
  | in-Some+in_default-at w ↦ absurd (get-there (layouts_of c.args.catalog.now) c.loop-table.table (omega (arith, c.loop-table-test.true, c.len-table-end.ensures.value, length-map c.args.catalog.now (λ table. table.1))) w.in_default-at.ensures)
  | in_default w ↦ absurd (get-there (names_of c.args.catalog.now) c.loop-table.table (omega (arith, c.loop-table-test.true, c.len-table-end.ensures.value, length-map c.args.catalog.now (λ table. table.0))) w.in_default.ensures)
]
