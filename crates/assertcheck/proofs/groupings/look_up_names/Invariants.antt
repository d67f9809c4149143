use Rattle.std.proofs.Common.{◌≡◌, drop}
use Rattle.form_check.specs.ShownScopes.{lent_scope}
use Rattle.assertcheck.specs.Groupings.{names_fault}
use Rattle.assertcheck.proofs.groupings.look_up_names.Given as goal

-- the first fault is that of the rest
abbrev pub invariant-loop-name : goal.invariant-loop-name
invariant-loop-name l = names_fault (lent_scope l.scope) (drop l.name-index l.names) ≡ names_fault (lent_scope l.scope) l.names
