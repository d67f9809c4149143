use Rattle.std.proofs.Common.{◌≡◌, ◌++◌, drop}
use Rattle.std.specs.Prelude.{flat_map}
use Rattle.assertion.specs.Declarations.{layouts_in}
use Rattle.alone.specs.Checks.{finding_keys}
use Rattle.changes.proofs.checks.push_finding.Given as goal

-- what was pushed and what is to come is the whole
abbrev pub invariant-loop-change : goal.invariant-loop-change
invariant-loop-change l =
    let found = finding_keys (layouts_in l.view.declared) l.form in
    l.keys.items ++ flat_map found (drop l.change-index l.changes) ≡ l.initial.keys.items ++ flat_map found l.changes
