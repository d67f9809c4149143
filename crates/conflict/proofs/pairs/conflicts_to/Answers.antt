use Rattle.std.proofs.Common.{sym, ap, ◌∙◌}
use Rattle.std.specs.Prelude.{◌&&◌}
use Rattle.alone.specs.Commits.{conflicts_to, touch_any}
use Rattle.conflict.proofs.pairs.conflicts_to.Goals as goal

pub returns-then-is_overlap : goal.returns-then-is_overlap
unfolding conflicts_to
returns-then-is_overlap c =
    c.touch_any.ensures
    ∙ ap (λ changes. touch_any changes c.args.candidate.now.reads.now) c.as_slice.ensures
    ∙ sym (ap (λ b. b && touch_any c.args.writer.now.changes c.args.candidate.now.reads.now) (sym c.is_overlap.ensures ∙ c.if-is_overlap.true))

pub returns-else-is_overlap : goal.returns-else-is_overlap
unfolding conflicts_to
returns-else-is_overlap c =
    c.if-is_overlap.false
    ∙ sym (ap (λ b. b && touch_any c.args.writer.now.changes c.args.candidate.now.reads.now) (sym c.is_overlap.ensures ∙ c.if-is_overlap.false))
