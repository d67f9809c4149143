use Rattle.std.proofs.Common.{◌≡◌, ◌++◌, drop}
use Rattle.assertion.specs.Declarations.{layouts_in}
use Rattle.alone.specs.Modes.{immediate_ones}
use Rattle.alone.specs.Checks.{checks_read}
use Rattle.changes.proofs.checks.push_checks.Given as goal

-- the keys so far, and those of the assertions that are left
abbrev pub invariant-loop-place : goal.invariant-loop-place
invariant-loop-place l =
    let layouts = layouts_in l.view.declared in
    l.keys.items
    ++ checks_read layouts l.view.state (immediate_ones (drop l.place l.meant) (drop l.place l.view.declared.assertions))
    l.changes
    ≡ l.initial.keys.items ++ checks_read layouts l.view.state (immediate_ones l.meant l.view.declared.assertions) l.changes
