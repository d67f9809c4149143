use Rattle.std.proofs.Common.{ℕ, ap, arith, length, sym, subst}
use Rattle.value.specs.Ordered.{HasKey, IsAscending}
use Rattle.value.specs.ValueOrder.{value_cmp}
use Rattle.table.specs.Rows.{value_in, key_of}
use Rattle.assertion.specs.Meaning.{State, rows_of}
use Rattle.delta.proofs.TableLemmas.{good_order}
use Rattle.delta.proofs.versions.tables_after.Goals as goal

pub put_change-requires-clause-table_in : goal.put_change-requires-clause-table_in
put_change-requires-clause-table_in c = omega (arith, c.requires.is.table_in, ap length c.in_ok-made.ensures.equal)

pub put_change-requires-clause-keyed : goal.put_change-requires-clause-keyed
put_change-requires-clause-keyed c = subst (λ (n : ℕ). HasKey value_cmp (value_in n) c.args.change.now.key c.args.change.now.new) (sym c.key_column-column.ensures) c.requires.is.keyed

pub put_change-requires-clause-ordered : goal.put_change-requires-clause-ordered
put_change-requires-clause-ordered c =
    let table : ℕ = c.args.change.now.table in
    subst (λ (n : ℕ). IsAscending value_cmp (value_in n) (rows_of table c.in_ok-made.made.items)) (sym c.key_column-column.ensures)
    (subst (λ (s : State). IsAscending value_cmp (value_in (key_of table c.args.schemas.now)) (rows_of table s)) (sym c.in_ok-made.ensures.equal) (good_order c.args.schemas.now c.args.tables.now c.requires.good table))
