use Rattle.std.proofs.Common.{◌∙◌, ap, subst, append-nil, sym, ◌++◌}
use Rattle.std.specs.Map.{keys_of}
use Rattle.std.specs.List.Sorted.{IsStrictlySortedBy}
use Rattle.std.specs.Prelude.{flat_map}
use Rattle.siread.specs.contracts.keys.PlaceOrd.TheImpl.{cmp-value as place_order}
use Rattle.changes.specs.Nets.{Noted, change_noted}
use Rattle.changes.proofs.Places.{net_noted}
use Rattle.changes.proofs.touched.TouchedRows.net_change.Goals as goal

pub returns : goal.returns
returns c = λ layouts start now f g noted.
    sym (append-nil c.loop-place.made.items)
    ∙ ap (λ (entries : Noted). c.loop-place.made.items ++ flat_map change_noted entries) (sym c.in-None.ensures.steps.0)
    ∙ c.loop-place.invariant
    ∙ net_noted layouts start now c.args.self.now (subst (λ (entries : Noted). IsStrictlySortedBy place_order.it (keys_of entries)) c.self.view_is c.len.ensures.ordered) f g noted
