use Rattle.std.proofs.Common.{◌≡◌, take}
use Rattle.table.specs.Slots.{kinds_of, values_of}
use Rattle.roots.specs.Answers.{kinds_in}
use Rattle.roots.specs.Summaries.{queries_of}
use Rattle.roots.specs.Bad.{answers}
use Rattle.roots.proofs.answers.slots.Given as goal

-- the slots so far hold what the first queries give
abbrev pub invariant-loop-index : goal.invariant-loop-index
invariant-loop-index l = (kinds_of l.slots ≡ kinds_in (take l.index (queries_of l.schemas l.form))) × (values_of l.slots ≡ answers l.tables (take l.index (queries_of l.schemas l.form)) l.row)
