use denote.Exit.{no}
use denote.Param.{param}
use denote.Param.Send.{IsSend, IsSync, arg_send, mut_send, param_send, shr_send}
use Rattle.session.specs.contracts.manager.Manager as Manager
use Rattle.session.proofs.Crossing.{Manager-sync}
use Rattle.rota.specs.contracts.rotas.Doctor as Doctor
use Rattle.rota.proofs.rotas.fn.ask_all.scope.Goals as goal
use Rattle.rota.proofs.Crossing.{Doctor-send, three-send}

-- what the closure takes, in its order: the runtime, the manager and the doctor
pub spawn-requires-send-F : goal.spawn-requires-send-F
spawn-requires-send-F g c κs within =
    let manager : IsSync (Manager.the_row (param 0 g.row.N) g.N.Named) = Manager-sync (param 0 g.row.N) g.N.Named c.requires.sends c.requires.shares in
    let doctor : IsSend (Doctor.the_row (param 0 g.row.N) g.N.Named) = Doctor-send (param 0 g.row.N) g.N.Named c.requires.sends in
    param_send 1 _ (arg_send _ no _ (three-send _ _ _ _ (shr_send _ _ _ c.requires.runtime) (shr_send _ _ _ manager) (mut_send _ _ _ doctor)))
