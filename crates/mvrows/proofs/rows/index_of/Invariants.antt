use Rattle.mvrows.specs.Indexed.{IsIndexSoFar}
use Rattle.mvrows.proofs.rows.index_of.Given as goal

-- the index of the rows before those that are left
abbrev pub invariant-loop-entry : goal.invariant-loop-entry
invariant-loop-entry l = IsIndexSoFar l.key_column l.column l.pages l.entry-iterator l.index
