use Rattle.std.proofs.Common.{◌≡◌, ◌+◌, ◌≤◌, length}
use Rattle.value.specs.Texts.{character_count}
use Rattle.value.proofs.texts.count_characters.Given as goal

-- what is counted and what is left are the whole
abbrev pub invariant-loop-behind : goal.invariant-loop-behind
invariant-loop-behind l = (l.count + character_count l.rest ≡ character_count l.bytes) × (l.count + length l.rest ≤ length l.bytes)

abbrev pub decreases-loop-behind : goal.decreases-loop-behind
decreases-loop-behind l = length l.rest
