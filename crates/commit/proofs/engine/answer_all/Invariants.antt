use Rattle.commit.proofs.Answering.{AreSoFar}
use Rattle.commit.proofs.engine.answer_all.Given as goal

-- the events so far are answered
abbrev pub invariant-loop-line : goal.invariant-loop-line
invariant-loop-line l = AreSoFar l.fn.engine l.lines l.line-index l.engine l.answers.items
