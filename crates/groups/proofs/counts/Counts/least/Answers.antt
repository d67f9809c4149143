use Rattle.groups.proofs.ExtremeLemmas.{first-key, first-none}
use Rattle.groups.proofs.counts.Counts.least.Goals as goal

pub returns-in-Some : goal.returns-in-Some
returns-in-Some c = rw (← c.self.view_is) (first-key c.self.inside.pages c.in-Some.entry.now c.in-Some.ensures)

pub returns-in-None : goal.returns-in-None
returns-in-None c = rw (← c.self.view_is) (first-none c.self.inside.pages c.in-None.ensures)
