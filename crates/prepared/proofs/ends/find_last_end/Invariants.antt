use Rattle.std.proofs.Common.{◌≡◌, ◌-◌, length}
use Rattle.prepared.specs.Ends.{end_within}
use Rattle.prepared.proofs.ends.find_last_end.Given as goal

-- the end from here on is that of the text
abbrev pub invariant-loop-turn : goal.invariant-loop-turn
invariant-loop-turn l = end_within (l._turn-end - l._turn) l.text l.end ≡ end_within (length l.text) l.text 0
