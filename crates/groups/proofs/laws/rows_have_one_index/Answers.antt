use Rattle.groups.specs.Indexes.{keys_with}
use Rattle.groups.proofs.IndexExact.{one_index}
use Rattle.groups.proofs.laws.rows_have_one_index.Goals as goal

pub returns : goal.returns
returns c = λ key column rows index other is is_other. one_index (keys_with key column rows) index other is is_other
