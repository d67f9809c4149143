use Rattle.std.proofs.Common.{sym, ◌∙◌, arith}
use Rattle.prepared.specs.Masks.{places}
use Rattle.prepared.proofs.Places.{places_end, places_passed}
use Rattle.prepared.proofs.masks.find_places.Goals as goal

pub returns-in_default : goal.returns-in_default
unfolding places
returns-in_default c = places_end _ _ _ _ _ c.loop-turn.invariant (omega arith) (sym c.find_next.ensures.value ∙ c.in_default.is)

pub loop-turn-preserved : goal.loop-turn-preserved
loop-turn-preserved c = places_passed _ _ _ _ _ _ _ _ _ c.loop-turn.invariant (omega arith) (sym c.in-Some.ensures.value) c.in_ok-from.ensures
