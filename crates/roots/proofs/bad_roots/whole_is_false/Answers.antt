use Rattle.roots.proofs.bad_roots.whole_is_false.Goals as goal

pub returns : goal.returns
returns c = rw (← c.in_ok-truth.ensures) c.is.ensures
