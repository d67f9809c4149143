use Rattle.std.proofs.Common.{◌≡◌, cond, drop}
use Rattle.form_check.specs.ShownScopes.{lent_scope}
use Rattle.form_check.specs.Queries.{joint_condition}
use Rattle.form_check.specs.Links.{is_link, beside, filter_parts}
use Rattle.value.specs.Results.{behind, each}
use Rattle.form_check.proofs.links.LinkedTables.filter_parts.Given as goal

-- the conditions made so far with those of the rest, without the link where it is still to come, are all
abbrev pub invariant-loop-part : goal.invariant-loop-part
invariant-loop-part l = behind l.made.items (each (joint_condition (lent_scope l.self.child) (lent_scope l.self.root)) (cond l.is_found (drop l.part-index l.parts) (beside (is_link (lent_scope l.self.child) (lent_scope l.self.root) l.column) (drop l.part-index l.parts)))) ≡ filter_parts (lent_scope l.self.child) (lent_scope l.self.root) l.parts
