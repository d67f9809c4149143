-- What a doctor's thread takes beside the manager may cross.
use denote.RattleType.{RattleType}
use denote.Param.Send.{IsSend, sendable}
use denote.Struct.Tuple.{TupleAt}
use Rattle.std.proofs.Common.{ℕ, List, [], ◌∷◌}
use Rattle.std.proofs.Crossing.{crosses}
use Rattle.session.specs.declared.named.Named as named
use Rattle.session.proofs.Crossing.{Receipt-send, Session-send}
use Rattle.rota.specs.contracts.doctors.Ending as Ending
use Rattle.rota.specs.contracts.rotas.Doctor as Doctor

Ending-send : (N : RattleType) (g : named.Ghosts N.Denot) → IsSend N → IsSend (Ending.the_field N g).row
Ending-send N g s = search (Receipt-send, crosses, sendable) depth 60 fits 20000

pub Doctor-send : (N : RattleType) (g : named.Ghosts N.Denot) → IsSend N → IsSend (Doctor.the_row N g)
Doctor-send N g s = search (Ending-send, Session-send, crosses, sendable) depth 60 fits 20000

-- a closure crosses if its three captures do, whatever its name
pub three-send : (ν : List ℕ) (A B C : RattleType) → IsSend A → IsSend B → IsSend C → IsSend (TupleAt ν (A ∷ B ∷ C ∷ []))
three-send ν A B C a b c = search sendable depth 60 fits 20000
