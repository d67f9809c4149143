use Rattle.alone.specs.Commits.{share_row}
use Rattle.conflict.proofs.pairs.share_row.Goals as goal

pub returns : goal.returns
unfolding share_row
returns c = c.is_any_shared.ensures
