use Rattle.std.proofs.Common.{not}
use Rattle.std.specs.Str.{bytes_eq}
use Rattle.delta.proofs.Declaring.{bounded_left}
use Rattle.delta.proofs.views.View.without_assertion.Goals as goal

pub redeclare-requires-clause-bounded : goal.redeclare-requires-clause-bounded
redeclare-requires-clause-bounded c =
    rw (c.in_ok-left.ensures.left, c.deref-6.ensures.value, c.deref-5.ensures, c.deref-parts.ensures)
    (bounded_left (λ a. not (bytes_eq a.name c.args.name.now)) _ c.self.invariant.bounded)
