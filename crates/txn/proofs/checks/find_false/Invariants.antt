use Rattle.std.proofs.Common.{◌≡◌, drop}
use Rattle.assertion.specs.Declarations.{layouts_in}
use Rattle.alone.specs.Modes.{immediate_ones}
use Rattle.alone.specs.Checks.{violation}
use Rattle.txn.proofs.checks.find_false.Given as goal

-- none of the assertions so far is meant and false
abbrev pub invariant-loop-place : goal.invariant-loop-place
invariant-loop-place l =
    violation (layouts_in l.view.declared) (immediate_ones (drop l.place l.meant) (drop l.place l.view.declared.assertions)) l.view.state
    ≡ violation (layouts_in l.view.declared) (immediate_ones l.meant l.view.declared.assertions) l.view.state
