use denote.Exit.{no}
use denote.Param.{param}
use denote.Param.Send.{IsSend, IsSync, sendable, arg_send, mut_send, param_send, shr_send}
use denote.Struct.Field.{u64-field}
use Rattle.session.specs.contracts.manager.Manager as Manager
use Rattle.threads.proofs.runs.fn.run_sessions_kept.scope.Goals as goal
use Rattle.session.proofs.Crossing.{Manager-sync}
use Rattle.threads.specs.contracts.keeping.Commits as Commits
use Rattle.threads.proofs.Crossing.{Commits-sync, Room-send, Script-sync, seven-send}

-- what the closure takes, in its order: the runtime, the manager, how commits are made, the gate, a script, its place
-- and the room
pub spawn-requires-send-F : goal.spawn-requires-send-F
spawn-requires-send-F g c κs within =
    let manager : IsSync (Manager.the_row (param 0 g.row.N) g.N.Named) = Manager-sync (param 0 g.row.N) g.N.Named c.requires.sends c.requires.shares in
    let place : IsSend u64-field.row = search sendable in
    let commits : IsSync (Commits.the_row (param 3 g.row.D) g.D.Device) = Commits-sync (param 3 g.row.D) g.D.Device c.requires.device in
    param_send 1 _ (arg_send _ no _ (seven-send _ _ _ _ _ _ _ _ (shr_send _ _ _ c.requires.runtime) (shr_send _ _ _ manager) (shr_send _ _ _ commits) (shr_send _ _ _ c.requires.gate)
    (shr_send _ _ _ Script-sync) place (mut_send _ _ _ Room-send)))
