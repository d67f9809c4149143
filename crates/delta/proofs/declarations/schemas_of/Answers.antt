use Rattle.std.proofs.Common.{sym, arith}
use Rattle.std.proofs.lemmas.List.{length-map}
use Rattle.table.specs.Rows.{layouts_of}
use Rattle.delta.proofs.StartLemmas.{take-get, get-there}
use Rattle.delta.proofs.declarations.schemas_of.Goals as goal
use Rattle.delta.proofs.declarations.schemas_of.Goals.{in-Some+in_ok-copy+in_ok-push, in_default}

pub loop-table-preserved : goal.loop-table-preserved
loop-table-preserved c = elim c.match-at.branch [
  | in-Some+in_ok-copy+in_ok-push w ↦ rw (w.schemas-is, w.in_ok-push.ensures.items, c.loop-table.invariant, w.in_ok-copy.ensures) (sym (take-get (layouts_of c.args.catalog.now) c.loop-table.table w.in-Some.schema.now w.in-Some.ensures))
  | in_default w ↦ absurd (get-there (layouts_of c.args.catalog.now) c.loop-table.table (omega (arith, c.loop-table-test.true, c.len-table-end.ensures.value, length-map c.args.catalog.now (λ table. table.1))) w.in_default.ensures)
]
