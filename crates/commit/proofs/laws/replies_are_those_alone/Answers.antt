use Rattle.std.proofs.Common.{◌∷◌, [], ap}
use Rattle.alone.specs.Alone.{Run}
use Rattle.commit.proofs.laws.replies_are_those_alone.Goals as goal

pub returns-clause-next : goal.returns-clause-next
returns-clause-next c = λ t statement. ap (λ (r : Run). r.replies) (c.runs_are_joined.ensures t.declared t.start _ t.trace (statement ∷ []))
