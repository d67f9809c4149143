use Rattle.roots.proofs.ListedLemmas.{whole-put, whole-there}
use Rattle.roots.proofs.lists.BadRoots.with_whole.Goals as goal

pub invariant_of-result : goal.invariant_of-result
invariant_of-result c = record {
  by_itself = rw c.the_whole.ensures (whole-there c.args.is_in);
  under = c.self.invariant.under;
}

pub returns : goal.returns
returns c =
    rw (c.the_whole.ensures, ← c.self.view_is)
    (whole-put c.self.inside.whole c.args.is_in c.self.inside.values c.self.invariant)
