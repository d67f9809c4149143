use Rattle.std.proofs.Common.{◌≡◌, drop, map}
use Rattle.assertcheck.specs.Forms.{all_types}
use Rattle.assertcheck.proofs.TypeLists.{behind}
use Rattle.assertcheck.proofs.typed_forms.slot_types.Given as goal

-- the types so far, with those of the rest behind them
abbrev pub invariant-loop-slot : goal.invariant-loop-slot
invariant-loop-slot g l = behind l.types.items (all_types (map (g.T.SlotTypes.slot_type l.of) (drop l.slot-index l.slots))) ≡ all_types (map (g.T.SlotTypes.slot_type l.of) l.slots)
