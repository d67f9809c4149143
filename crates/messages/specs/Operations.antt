-- The numbers of operations.
use Rattle.std.specs.Prelude.{ℕ, ◌==◌, Option, Some, None, if◌then◌else◌}
use Rattle.messages.specs.declared.operations.Operation.{Operation}
use Rattle.messages.specs.declared.operations.Operation.TheVariants as op

-- the operation of a number, if there is one
abbrev pub operation_of : ℕ → Option Operation
operation_of n =
    if n == 0 then Some op.Again
    else if n == 1 then Some op.Line
    else if n == 2 then Some op.OpenSession
    else if n == 3 then Some op.CloseSession
    else if n == 4 then Some op.Prepare
    else if n == 5 then Some op.Forget
    else if n == 6 then Some op.Run
    else if n == 7 then Some op.Execute
    else if n == 8 then Some op.Begin
    else if n == 9 then Some op.BeginReadOnly
    else if n == 10 then Some op.Commit
    else if n == 11 then Some op.Rollback
    else if n == 12 then Some op.Report
    else if n == 13 then Some op.Checkpoint
    else if n == 14 then Some op.RunAll
    else if n == 15 then Some op.Transact
    else if n == 16 then Some op.Image
    else if n == 17 then Some op.Move
    else None
