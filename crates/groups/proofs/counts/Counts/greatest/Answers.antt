use Rattle.groups.proofs.ExtremeLemmas.{last-key, last-none}
use Rattle.groups.proofs.counts.Counts.greatest.Goals as goal

pub returns-in-Some : goal.returns-in-Some
returns-in-Some c = rw (← c.self.view_is) (last-key c.self.inside.pages c.in-Some.entry.now c.in-Some.ensures)

pub returns-in-None : goal.returns-in-None
returns-in-None c = rw (← c.self.view_is) (last-none c.self.inside.pages c.in-None.ensures)
