use Rattle.std.proofs.Common.{◌≡◌, drop}
use Rattle.std.specs.Prelude.{find}
use Rattle.std.specs.Option.{option_and_then}
use Rattle.form_check.specs.ShownScopes.{lent_scope}
use Rattle.form_check.specs.Links.{link_of, is_link, first_link}
use Rattle.form_check.proofs.links.LinkedTables.first_link.Given as goal

-- the link is among the parts that are left
abbrev pub invariant-loop-part : goal.invariant-loop-part
invariant-loop-part l = option_and_then (link_of (lent_scope l.self.child) (lent_scope l.self.root)) (find (is_link (lent_scope l.self.child) (lent_scope l.self.root) l.column) (drop l.part-index l.parts)) ≡ first_link (lent_scope l.self.child) (lent_scope l.self.root) l.parts
