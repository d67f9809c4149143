use Rattle.std.proofs.Common.{◌<◌, ◌∙◌, ap, sym, subst, arith, length, map}
use Rattle.std.proofs.lemmas.Bool.{false≢true}
use Rattle.std.proofs.lemmas.List.{length-map}
use Rattle.std.specs.Arc.{arc_value}
use Rattle.pages.specs.Levels.{IsNarrow, IsWide}
use Rattle.pages.specs.Parts.{Leads}
use Rattle.pages.proofs.Descents.{so_at_child}
use Rattle.pages.proofs.Parting.{led_within}
use Rattle.pages.proofs.parts.make_way.Goals as goal
use Rattle.pages.proofs.parts.make_way.Goals.{else-grows-via-then-grows+else-width-ge-MOST, else-grows-via-else-grows}

pub own_at-requires : goal.own_at-requires
own_at-requires g c =
    let leads : Leads c.args.key.now (arc_value c.args.seps.now).items c.route-at.result = subst (λ ss. Leads c.args.key.now ss c.route-at.result) (c.deref-2.ensures.value ∙ ap (λ v. v.items) c.deref.ensures) c.route-at.ensures in
    let within : c.route-at.result < length (map arc_value c.args.nodes.now.items) = led_within c.args.key.now (arc_value c.args.seps.now).items c.route-at.result (map arc_value c.args.nodes.now.items) leads c.requires.below.parted in
    omega (arith, length-map c.args.nodes.now.items arc_value, within)

pub index-requires : goal.index-requires
index-requires g c =
    let leads : Leads c.args.key.now (arc_value c.args.seps.now).items c.route-at.result = subst (λ ss. Leads c.args.key.now ss c.route-at.result) (c.deref-2.ensures.value ∙ ap (λ v. v.items) c.deref.ensures) c.route-at.ensures in
    let within : c.route-at.result < length (map arc_value c.args.nodes.now.items) = led_within c.args.key.now (arc_value c.args.seps.now).items c.route-at.result (map arc_value c.args.nodes.now.items) leads c.requires.below.parted in
    let inside : c.route-at.result < length c.own_at.new.nodes.items = omega (arith, within, length-map c.own_at.new.nodes.items arc_value, ap length c.own_at.ensures) in
    omega (arith, inside, c.own_at.new.nodes.ok.0)

pub cut-requires-clause-wide : goal.cut-requires-clause-wide
cut-requires-clause-wide g c =
    let leads : Leads c.args.key.now (arc_value c.args.seps.now).items c.route-at.result = subst (λ ss. Leads c.args.key.now ss c.route-at.result) (c.deref-2.ensures.value ∙ ap (λ v. v.items) c.deref.ensures) c.route-at.ensures in
    let within : c.route-at.result < length (map arc_value c.args.nodes.now.items) = led_within c.args.key.now (arc_value c.args.seps.now).items c.route-at.result (map arc_value c.args.nodes.now.items) leads c.requires.below.parted in
    let inside : c.route-at.result < length c.own_at.new.nodes.items = omega (arith, within, length-map c.own_at.new.nodes.items arc_value, ap length c.own_at.ensures) in
    so_at_child IsWide c.own_at.new.nodes.items c.route-at.result c.index.result.now c.deref-then-grows.result.now inside c.index.ensures c.deref-then-grows.ensures (omega (arith, c.width.ensures.width, c.if-width-ge-MOST.true))

pub returns-clause-within : goal.returns-clause-within
returns-clause-within g c =
    let leads : Leads c.args.key.now (arc_value c.args.seps.now).items c.route-at.result = subst (λ ss. Leads c.args.key.now ss c.route-at.result) (c.deref-2.ensures.value ∙ ap (λ v. v.items) c.deref.ensures) c.route-at.ensures in
    let within : c.route-at.result < length (map arc_value c.args.nodes.now.items) = led_within c.args.key.now (arc_value c.args.seps.now).items c.route-at.result (map arc_value c.args.nodes.now.items) leads c.requires.below.parted in
    let inside : c.route-at.result < length c.own_at.new.nodes.items = omega (arith, within, length-map c.own_at.new.nodes.items arc_value, ap length c.own_at.ensures) in
    inside

pub returns-clause-room : goal.returns-clause-room
returns-clause-room g c grows =
    let leads : Leads c.args.key.now (arc_value c.args.seps.now).items c.route-at.result = subst (λ ss. Leads c.args.key.now ss c.route-at.result) (c.deref-2.ensures.value ∙ ap (λ v. v.items) c.deref.ensures) c.route-at.ensures in
    let within : c.route-at.result < length (map arc_value c.args.nodes.now.items) = led_within c.args.key.now (arc_value c.args.seps.now).items c.route-at.result (map arc_value c.args.nodes.now.items) leads c.requires.below.parted in
    let inside : c.route-at.result < length c.own_at.new.nodes.items = omega (arith, within, length-map c.own_at.new.nodes.items arc_value, ap length c.own_at.ensures) in
    elim c.else-grows.branch [
      | else-grows-via-then-grows+else-width-ge-MOST w ↦ so_at_child IsNarrow c.own_at.new.nodes.items c.route-at.result w.index.result.now w.deref-then-grows.result.now inside w.index.ensures w.deref-then-grows.ensures (omega (arith, w.width.ensures.width, w.if-width-ge-MOST.false))
      | else-grows-via-else-grows w ↦ absurd (false≢true (sym w.if-grows.false ∙ grows))
    ]
