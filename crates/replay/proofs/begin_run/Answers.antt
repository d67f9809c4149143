use Rattle.replay.proofs.Taking.{not_seated}
use Rattle.replay.proofs.begin_run.Goals as goal

pub returns-in-Err-seat_sessions-clause-refused : goal.returns-in-Err-seat_sessions-clause-refused
returns-in-Err-seat_sessions-clause-refused c =
    not_seated _ _ _ _ c.in_ok-taken.ensures.read _ c.in-Ok.ensures.same c.in-Ok.ensures.satisfied _ c.as_slice.ensures
    c.in-Err-seat_sessions.refusal c.in-Err-seat_sessions.ensures.refused
