use Rattle.std.proofs.Common.{◌≡◌, ◌++◌, drop}
use Rattle.assertion.specs.Candidates.{candidates_of}
use Rattle.roots.proofs.candidate_roots.candidates.Given as goal

-- what was pushed and what is to come is the whole
abbrev pub invariant-loop-change : goal.invariant-loop-change
invariant-loop-change l = l.roots.items ++ candidates_of l.schemas l.tables (drop l.change-index l.changes) l.form ≡ candidates_of l.schemas l.tables l.changes l.form
