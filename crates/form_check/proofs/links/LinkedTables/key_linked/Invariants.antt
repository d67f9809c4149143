use Rattle.std.proofs.Common.{◌≡◌, drop}
use Rattle.std.specs.Prelude.{find}
use Rattle.form_check.specs.ShownScopes.{lent_scope}
use Rattle.form_check.specs.Links.{is_link}
use Rattle.form_check.proofs.links.LinkedTables.key_linked.Given as goal

-- the first link by the key is among the parts that are left
abbrev pub invariant-loop-part : goal.invariant-loop-part
invariant-loop-part l = find (is_link (lent_scope l.self.child) (lent_scope l.self.root) l.key) (drop l.part-index l.parts) ≡ find (is_link (lent_scope l.self.child) (lent_scope l.self.root) l.key) l.parts
