use Rattle.std.proofs.Common.{rules, ◌<◌, ◌∙◌, ap, sym, subst, arith, length, List, map, Global}
use Rattle.std.proofs.lemmas.List.{length-map}
use Rattle.std.specs.Arc.{arc_value}
use Rattle.std.specs.declared.sync.Arc.{Arc}
use Rattle.value.specs.Ordered.{at}
use Rattle.value.specs.ValueOrder.{value_cmp}
use Rattle.pages.specs.Reach.{key_of}
use Rattle.pages.specs.Levels.{Tree}
use Rattle.pages.specs.Parts.{AreRising, Leads}
use Rattle.pages.specs.Shapes.{tree_of, IsWhole}
use Rattle.pages.proofs.Descents.{child_entries, child_lower}
use Rattle.pages.proofs.Parting.{led_within, at_led}
use Rattle.pages.proofs.nodes.Node.+get.Goals as goal

pub route-requires : goal.route-requires
route-requires g t c = let whole = subst IsWhole c.in-Inner.is c.self.invariant in subst AreRising (sym (c.deref-in-Inner-2.ensures.value ∙ ap (λ v. v.items) c.deref-in-Inner.ensures)) whole.below.rising

pub index-requires : goal.index-requires
index-requires g t c =
    let nodes : List (Arc (Tree g.row.V.Denot) Global) = c.in-Inner.nodes.items in
    let whole = subst IsWhole c.in-Inner.is c.self.invariant in
    let leads : Leads c.args.key.now (arc_value c.in-Inner.seps).items c.route.result = subst (λ ss. Leads c.args.key.now ss c.route.result) (c.deref-in-Inner-2.ensures.value ∙ ap (λ v. v.items) c.deref-in-Inner.ensures) c.route.ensures in
    omega (arith, c.in-Inner.nodes.ok.0, length-map nodes arc_value, led_within c.args.key.now (arc_value c.in-Inner.seps).items c.route.result (map arc_value nodes) leads whole.below.parted)

pub get-requires : goal.get-requires
get-requires g t c κs within =
    let nodes : List (Arc (Tree g.row.V.Denot) Global) = c.in-Inner.nodes.items in
    let whole = subst IsWhole c.in-Inner.is c.self.invariant in
    let leads : Leads c.args.key.now (arc_value c.in-Inner.seps).items c.route.result = subst (λ ss. Leads c.args.key.now ss c.route.result) (c.deref-in-Inner-2.ensures.value ∙ ap (λ v. v.items) c.deref-in-Inner.ensures) c.route.ensures in
    let inside : c.route.result < length nodes = omega (arith, length-map nodes arc_value, led_within c.args.key.now (arc_value c.in-Inner.seps).items c.route.result (map arc_value nodes) leads whole.below.parted) in
    let lower : c.deref-in-Inner-3.result.now.0.0 < c.args.self.now.0.0 =
    omega (
      arith,
      child_lower nodes c.route.result c.index.result.now c.deref-in-Inner-3.result.now inside c.index.ensures c.deref-in-Inner-3.ensures,
      ap (λ (s : Tree g.row.V.Denot). s.0.0) (ap tree_of (sym c.in-Inner.is) ∙ c.self.view_is),
    ) in
    (omega (arith, lower, c.decreases), search rules)

pub returns-in-Inner : goal.returns-in-Inner
returns-in-Inner g t c =
    let nodes : List (Arc (Tree g.row.V.Denot) Global) = c.in-Inner.nodes.items in
    let whole = subst IsWhole c.in-Inner.is c.self.invariant in
    let leads : Leads c.args.key.now (arc_value c.in-Inner.seps).items c.route.result = subst (λ ss. Leads c.args.key.now ss c.route.result) (c.deref-in-Inner-2.ensures.value ∙ ap (λ v. v.items) c.deref-in-Inner.ensures) c.route.ensures in
    let within : c.route.result < length nodes = omega (arith, length-map nodes arc_value, led_within c.args.key.now (arc_value c.in-Inner.seps).items c.route.result (map arc_value nodes) leads whole.below.parted) in
    c.get.ensures
    ∙ ap (at value_cmp key_of c.args.key.now) (child_entries nodes c.route.result c.index.result.now c.deref-in-Inner-3.result.now within c.index.ensures c.deref-in-Inner-3.ensures)
    ∙ sym (at_led c.args.key.now (arc_value c.in-Inner.seps).items c.route.result (map arc_value nodes) leads whole.below.parted)
    ∙ ap (λ (s : Tree g.row.V.Denot). at value_cmp key_of c.args.key.now s.1) (ap tree_of (sym c.in-Inner.is) ∙ c.self.view_is)
