use Rattle.roots.proofs.bad_roots.row_passes.Goals as goal

pub returns-in_ok-slots-in-Some : goal.returns-in_ok-slots-in-Some
returns-in_ok-slots-in-Some c = rw (c.in-Some.is, ← c.in_ok-slots-in-Some.ensures.values) c.keeps-in-Some.ensures.value
