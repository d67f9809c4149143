use Rattle.std.proofs.Common.{◌≡◌, ◌++◌, drop}
use Rattle.std.specs.Prelude.{flat_map}
use Rattle.txn.specs.Transactions.{false_names, name_if_false}
use Rattle.txn.proofs.checks.list_false.Given as goal

-- the names so far, and those among the assertions that are left
abbrev pub invariant-loop-place : goal.invariant-loop-place
invariant-loop-place l = l.names.items ++ flat_map (name_if_false l.view) (drop l.place l.view.declared.assertions) ≡ false_names l.view
