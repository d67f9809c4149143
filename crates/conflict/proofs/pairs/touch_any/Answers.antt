use Rattle.alone.specs.Commits.{touch_any}
use Rattle.conflict.proofs.pairs.touch_any.Goals as goal

pub returns : goal.returns
unfolding touch_any
returns c = c.is_any_touched.ensures
