use Rattle.std.proofs.Common.{◌≡◌, ◌∙◌, ◌-◌, ap, sym, map, take, drop, length, Global}
use Rattle.std.proofs.lemmas.List.{length-drop}
use Rattle.std.proofs.lemmas.Result.{IfOk-weaker}
use Rattle.std.specs.Arc.{arc_value}
use Rattle.std.specs.declared.sync.Arc.{Arc}
use Rattle.std.specs.declared.vec.Vec.{Vec}
use Rattle.pages.proofs.Orders.{take_all, map_drop}
use Rattle.pages.proofs.copies.share_from.Goals as goal

pub returns : goal.returns
returns g c =
    let items = c.args.items.now in
    let from = c.args.from in
    IfOk-weaker c.share.result (λ (copy : Vec (Arc g.row.T.Denot Global) Global). map arc_value copy.items ≡ map arc_value (take (length items - from) (drop from items))) (λ (copy : Vec (Arc g.row.T.Denot Global) Global). map arc_value copy.items ≡ drop from (map arc_value items))
    (λ copy e. e ∙ ap (map arc_value) (take_all (length items - from) (drop from items) (sym (length-drop from items))) ∙ map_drop arc_value from items) c.share.ensures
