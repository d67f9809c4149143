use Rattle.std.proofs.Common.{◌≡◌, ◌++◌, drop}
use Rattle.alone.specs.Modes.{is_immediate, modes_with}
use Rattle.alone.proofs.modes.Modes.set.Given as goal

-- the modes so far and those of the assertions that are left are those of all
abbrev pub invariant-loop-place : goal.invariant-loop-place
invariant-loop-place l =
    l.immediate.items ++ modes_with l.names (is_immediate l.mode) (drop l.place l.assertions) (drop l.place l.self)
    ≡ modes_with l.names (is_immediate l.mode) l.assertions l.self
