use Rattle.std.proofs.Common.{◌≡◌, OnOk, false, subst}
use Rattle.std.specs.Io.KnownBytes.{IsAtEnd}
use Rattle.shell.proofs.Feeding.{feeds_turn, turns}
use Rattle.shell.proofs.shells.Shell.feed_piece.Goals as goal

pub returns-in-Ok-clause-turned : goal.returns-in-Ok-clause-turned
returns-in-Ok-clause-turned g c =
    turns c.args.self.now.engine c.args.self.now.cutter c.read_on-more.result.0 c.read_on-more.new.self (g.R.Read.remaining c.args.input.now)
    (g.R.Read.remaining c.read_on-more.new.input) c.read_on-more.ensures.read c.answer_ended.new.self.engine c.answer_ended.new.self.cutter
    (g.W.Write.contents c.args.out.now) (g.W.Write.contents c.answer_ended.new.out) c.in_ok-answer_ended.ensures.answered
    (subst (λ r. OnOk r (c.read_on-more.result.0 ≡ false → IsAtEnd (g.R.Read.remaining c.args.input.now))) c.in-Ok.is c.read_on-more.ensures.end)

pub returns-in-Err-clause-stopped : goal.returns-in-Err-clause-stopped
returns-in-Err-clause-stopped g c stopped =
    feeds_turn c.args.self.now.engine c.args.self.now.cutter c.read_on-more.result.0 c.read_on-more.new.self (g.R.Read.remaining c.args.input.now)
    (g.R.Read.remaining c.read_on-more.new.input) c.read_on-more.ensures.read c.answer_ended.new.self.engine c.answer_ended.new.self.cutter
    (g.W.Write.contents c.args.out.now) (g.W.Write.contents c.answer_ended.new.out) c.in_ok-answer_ended.ensures.answered
