use Rattle.std.proofs.Common.{sym, ◌∙◌}
use Rattle.assertcheck.proofs.TypeLists.{missing, present}
use Rattle.assertcheck.proofs.typed_forms.slot_types.Goals as goal

pub returns-in_default : goal.returns-in_default
returns-in_default g c =
    missing (g.T.SlotTypes.slot_type c.args.of.now) c.args.slots.now c.loop-slot.slot-index c.slot-item.result c.loop-slot.types.items c.loop-slot-test.true c.slot-item.is c.loop-slot.invariant
    (sym c.slot_type.ensures ∙ c.in_default.is)

pub loop-slot-preserved : goal.loop-slot-preserved
loop-slot-preserved g c =
    present (g.T.SlotTypes.slot_type c.args.of.now) c.args.slots.now c.loop-slot.slot-index c.slot-item.result c.loop-slot.types.items c.loop-slot-test.true c.slot-item.is c.loop-slot.invariant
    c.in-Some.found c.push.new.self.items (sym c.slot_type.ensures ∙ c.in-Some.is) c.in_ok-push.ensures.items
