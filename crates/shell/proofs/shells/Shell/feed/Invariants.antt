use Rattle.shell.specs.Writing.{Feeds}
use Rattle.shell.proofs.shells.Shell.feed.Given as goal

-- what is read so far is answered
abbrev pub invariant-loop-turn : goal.invariant-loop-turn
invariant-loop-turn g l =
    Feeds l.initial.self.engine l.initial.self.cutter l.self.engine l.self.cutter (g.R.Read.remaining l.initial.input) (g.R.Read.remaining l.input)
    (g.W.Write.contents l.initial.out) (g.W.Write.contents l.out)
