use Rattle.std.proofs.Common.{◌≡◌, ◌≤◌, drop, length, vec_capacity}
use Rattle.session.specs.Books.{IsFresh}
use Rattle.threads.proofs.Chains.{GoesOn}
use Rattle.threads.proofs.runs.run_lines.Given as goal

-- there is room for the answers and marks that are still to come, and these go on behind what was answered so far
abbrev pub invariant-loop-line : goal.invariant-loop-line
invariant-loop-line g l = record {
  counted : length l.room.answers.items ≡ l.line-index;
  marked : length l.room.unkept.items ≡ l.line-index;
  room : length l.lines ≤ vec_capacity l.room.answers;
  marks : length l.lines ≤ vec_capacity l.room.unkept;
  told : GoesOn (IsFresh (g.N.Named.shelf l.stage.manager.now.id) l.stage.manager.now.id l.stage.manager.now.epoch) l.lines l.room.answers.items (drop l.line-index l.lines) l.session.seen l.open;
}
