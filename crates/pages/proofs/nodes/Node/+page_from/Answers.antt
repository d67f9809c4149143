use Rattle.std.proofs.Common.{rules, ◌≡◌, ◌<◌, ◌+◌, ◌∙◌, ap, sym, List, take, drop, map, length, arith, subst, slice_index_or, Global}
use Rattle.std.specs.Arc.{arc_value}
use Rattle.std.specs.declared.sync.Arc.{Arc}
use Rattle.value.specs.declared.values.Value.{Value}
use Rattle.pages.specs.Levels.{Tree, entries_of, entries_at, highest}
use Rattle.pages.specs.Shapes.{tree_of}
use Rattle.pages.proofs.Orders.{front_of_more}
use Rattle.pages.proofs.Descents.{child_entries, child_lower}
use Rattle.std.proofs.Common.{refl}
use Rattle.pages.proofs.nodes.Node.+page_from.Goals as goal

pub page_from-requires : goal.page_from-requires
page_from-requires g t c κs within =
    let nodes : List (Arc (Tree g.row.V.Denot) Global) = c.deref-in-Inner.result.now in
    let same = c.deref-in-Inner.ensures.value in
    let r = c.node_at-place.result.0 in
    let node : c.index.result.now ≡ slice_index_or nodes r c.index.result.now =
    c.index.ensures ∙ ap (λ (cs : List (Arc (Tree g.row.V.Denot) Global)). slice_index_or cs r c.index.result.now) (sym same) in
    let lower : c.deref-in-Inner-2.result.now.0.0 < c.args.self.now.0.0 =
    omega (
      arith,
      child_lower nodes r c.index.result.now c.deref-in-Inner-2.result.now c.node_at-place.ensures.within node c.deref-in-Inner-2.ensures,
      ap (λ (cs : List (Arc (Tree g.row.V.Denot) Global)). highest (map arc_value cs)) same,
      ap (λ (s : Tree g.row.V.Denot). s.0.0) (ap tree_of (sym c.in-Inner.is) ∙ c.self.view_is),
    ) in
    let entries = child_entries nodes r c.index.result.now c.deref-in-Inner-2.result.now c.node_at-place.ensures.within node c.deref-in-Inner-2.ensures in
    (omega (arith, lower, c.decreases), (search rules, subst (λ (es : List (Value × g.row.V.Denot)). c.node_at-place.result.1 < length es) (sym entries) c.node_at-place.ensures.there))

pub returns-in-Inner-clause-entries : goal.returns-in-Inner-clause-entries
returns-in-Inner-clause-entries g t c =
    let nodes : List (Arc (Tree g.row.V.Denot) Global) = c.deref-in-Inner.result.now in
    let same = c.deref-in-Inner.ensures.value in
    let r = c.node_at-place.result.0 in
    let rest = c.node_at-place.result.1 in
    let found = c.page_from.result.now in
    let node : c.index.result.now ≡ slice_index_or nodes r c.index.result.now =
    c.index.ensures ∙ ap (λ (cs : List (Arc (Tree g.row.V.Denot) Global)). slice_index_or cs r c.index.result.now) (sym same) in
    let entries = child_entries nodes r c.index.result.now c.deref-in-Inner-2.result.now c.node_at-place.ensures.within node c.deref-in-Inner-2.ensures in
    front_of_more (length found) found (drop rest (entries_at (map arc_value nodes) r)) (entries_of (drop (r + 1) (map arc_value nodes))) refl (c.page_from.ensures.entries ∙ ap (λ es. take (length found) (drop rest es)) entries)
    ∙ ap (take (length found)) (sym c.node_at-place.ensures.entries ∙ ap (λ (cs : List (Arc (Tree g.row.V.Denot) Global)). drop c.args.at (entries_of (map arc_value cs))) same ∙ ap (λ (s : Tree g.row.V.Denot). drop c.args.at s.1) (ap tree_of (sym c.in-Inner.is) ∙ c.self.view_is))
