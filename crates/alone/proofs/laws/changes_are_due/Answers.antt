use Rattle.std.proofs.Common.{refl}
use Rattle.table.specs.Rows.{key_of}
use Rattle.alone.specs.Statements.{removal, renewal}
use Rattle.alone.proofs.Effects.{delete_doable, update_doable}
use Rattle.alone.proofs.Orders.{found_in_order, due_changes, due_from}
use Rattle.alone.proofs.laws.changes_are_due.Goals as goal

pub returns-clause-removals : goal.returns-clause-removals
returns-clause-removals c = λ layouts state fit table restriction.
    due_from layouts state _ (found_in_order layouts state fit.ordered table restriction (removal table (key_of table layouts)) (λ row. refl)) (delete_doable layouts state fit table restriction)

pub returns-clause-renewals : goal.returns-clause-renewals
returns-clause-renewals c = λ layouts state fit table sets restriction leaves.
    due_from layouts state _ (found_in_order layouts state fit.ordered table restriction (renewal table (key_of table layouts) sets) (λ row. refl)) (update_doable layouts state fit table sets restriction leaves)

pub returns-clause-one_by_one : goal.returns-clause-one_by_one
returns-clause-one_by_one c = λ layouts state fit changes due. due_changes layouts state fit changes due
