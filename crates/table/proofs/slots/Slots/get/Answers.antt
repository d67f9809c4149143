use Rattle.table.proofs.SlotLemmas.{within_limit}
use Rattle.table.proofs.slots.Slots.get.Goals as goal

pub returns-clause-small : goal.returns-clause-small
returns-clause-small c = rw (← c.self.view_is, c.value_in_slot.ensures, c.as_slice.ensures.value) (within_limit c.self.inside.values.items c.args.slot c.self.invariant)
