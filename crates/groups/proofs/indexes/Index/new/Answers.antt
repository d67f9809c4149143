use Rattle.groups.proofs.IndexLemmas.{IsIndexOf-none}
use Rattle.groups.proofs.indexes.Index.new.Goals as goal

pub returns-clause-index : goal.returns-clause-index
returns-clause-index c = λ key column. rw c.new.ensures (IsIndexOf-none key column)
