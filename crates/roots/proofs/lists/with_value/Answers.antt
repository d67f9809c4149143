use Rattle.std.proofs.Common.{◌∙◌, ap, sym}
use Rattle.std.specs.Prelude.{is_some}
use Rattle.roots.proofs.ListedLemmas.{agreed, some-mapped, same-found}
use Rattle.roots.proofs.lists.with_value.Goals as goal

pub returns-then-is_some-is_in : goal.returns-then-is_some-is_in
returns-then-is_some-is_in c =
    same-found c.args.value.now c.args.is_in c.args.values c.requires
    (ap is_some (sym c.get.ensures.value) ∙ some-mapped (λ r. r.now) c.get.result ∙ sym c.is_some.ensures ∙ agreed c.is_some.result c.args.is_in c.if-is_some-is_in.true)
