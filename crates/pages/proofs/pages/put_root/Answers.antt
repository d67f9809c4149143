use Rattle.std.proofs.Common.{◌∙◌, sym, subst}
use Rattle.value.proofs.ValueOrders.{value_cmp_total}
use Rattle.value.proofs.OrderedLists.{IsAscending-put}
use Rattle.pages.specs.Reach.{key_of, entry_of, AreInOrder}
use Rattle.pages.specs.Shapes.{entries_in}
use Rattle.pages.proofs.Parting.{has_key}
use Rattle.pages.proofs.pages.put_root.Goals as goal

pub returns-clause-order : goal.returns-clause-order
returns-clause-order g c =
    let entry = entry_of c.args.key.now c.args.value in
    subst AreInOrder (sym (c.lower.ensures ∙ c.in_ok-put_either.ensures.changed)) (IsAscending-put value_cmp_total key_of c.args.key.now entry (entries_in c.args.root.now) (has_key c.args.key.now c.args.value) c.requires.order)
