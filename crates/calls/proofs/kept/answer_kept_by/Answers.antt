use Rattle.durable.proofs.Said.{ready_after}
use Rattle.journal_file.specs.Files as files
use Rattle.calls.proofs.Keeping.{handled_kept}
use Rattle.calls.proofs.kept.answer_kept_by.Goals as goal

pub returns-clause-step : goal.returns-clause-step
returns-clause-step c =
    ready_after files.file_bytes files.file_may_leave files.file_moment files.file_left_since c.args.writer.now c.answer_kept.new.keeper
    c.args.engine.now.core.records c.answer_kept.new.self.core.records c.answer_kept.result c.answer_kept.ensures.asked c.requires.step

pub returns-clause-handled : goal.returns-clause-handled
returns-clause-handled c =
    handled_kept c.args.engine.now c.answer_kept.new.self c.args.writer.now c.answer_kept.new.keeper c.args.line.now c.answer_kept.result
    c.answer_kept.ensures.answered c.answer_kept.ensures.after c.answer_kept.ensures.same c.answer_kept.ensures.asked
