use Rattle.std.proofs.Common.{◌≡◌, ◌++◌, drop}
use Rattle.std.specs.Prelude.{flat_map}
use Rattle.assertion.specs.Declarations.{layouts_in}
use Rattle.alone.specs.Checks.{keys_for}
use Rattle.changes.proofs.checks.push_roots.Given as goal

-- what was pushed and what is to come is the whole
abbrev pub invariant-loop-root : goal.invariant-loop-root
invariant-loop-root l =
    let keys = keys_for (layouts_in l.view.declared) l.view.state l.form in
    l.keys.items ++ flat_map keys (drop l.root-index l.roots) ≡ l.initial.keys.items ++ flat_map keys l.roots
