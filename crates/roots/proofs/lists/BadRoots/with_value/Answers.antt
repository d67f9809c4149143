use Rattle.roots.proofs.ListedLemmas.{under-put, value-put}
use Rattle.roots.proofs.lists.BadRoots.with_value.Goals as goal

pub invariant_of-result : goal.invariant_of-result
invariant_of-result c = rw c.in_ok-with_value.ensures (record {
  by_itself = c.self.invariant.by_itself;
  under = under-put c.args.value.now c.args.is_in c.self.inside.values c.self.invariant.under;
})

pub returns : goal.returns
returns c =
    rw (c.in_ok-with_value.ensures, ← c.self.view_is)
    (value-put c.self.inside.whole c.args.value.now c.args.is_in c.self.inside.values c.self.invariant)
