use Rattle.std.proofs.Common.{rules, ◌≡◌, ◌<◌, ◌+◌, ◌∙◌, ap, sym, subst, map, arith, length, set, ◌^◌, ℕ, List, [], Global}
use Rattle.std.proofs.lemmas.List.{length-map}
use Rattle.std.specs.Arc.{arc_value, arc_with_value}
use Rattle.std.specs.declared.sync.Arc.{Arc}
use Rattle.value.specs.Ordered.{put}
use Rattle.value.specs.ValueOrder.{value_cmp}
use Rattle.pages.specs.Reach.{key_of, entry_of}
use Rattle.pages.specs.Levels.{Tree, entries_of, entries_at, IsNarrow}
use Rattle.pages.specs.Shapes.{tree_of, tree_over, HasRoom, IsWhole}
use Rattle.pages.proofs.Descents.{child_entries, child_lower, child_so}
use Rattle.pages.proofs.Parting.{has_key, led_within}
use Rattle.pages.proofs.Shifts.{map_set, parted_length}
use Rattle.pages.proofs.Changes.{are_put, are_same, at_most_all, length_put, none_left, on_err, room_for, room_if, set_there}
use Rattle.pages.proofs.nodes.Node.+put.Goals as goal

pub make_way-requires-clause-room : goal.make_way-requires-clause-room
make_way-requires-clause-room g t c grows =
    let view : tree_over (map arc_value c.in-Inner.nodes.items) ≡ c.args.self.now = ap tree_of (sym c.in-Inner.is) ∙ c.self.view_is in
    omega (arith, room_for c.args.new c.args.self.now c.is_some.result c.is_some.ensures c.requires.room grows, ap (λ (s : Tree g.row.V.Denot). s.0.1) view)

pub seps_left-requires : goal.seps_left-requires
seps_left-requires g t c =
    omega (
      arith,
      c.in_ok-at-in-Inner.ensures.within,
      length-map c.make_way.new.nodes.items arc_value,
      parted_length (arc_value c.make_way.new.seps).items (map arc_value c.make_way.new.nodes.items) c.in_ok-at-in-Inner.ensures.same.below.parted,
      ap length (c.deref-in-Inner-2.ensures.value ∙ ap (λ v. v.items) c.deref-in-Inner.ensures),
    )

pub put-requires : goal.put-requires
put-requires g t c κs within =
    let nodes : List (Arc (Tree g.row.V.Denot) Global) = c.in-Inner.nodes.items in
    let mid : List (Arc (Tree g.row.V.Denot) Global) = c.make_way.new.nodes.items in
    let at = c.in_ok-at-in-Inner.at in
    let whole = subst IsWhole c.in-Inner.is c.self.invariant in
    let way = c.in_ok-at-in-Inner.ensures.same in
    let view : tree_over (map arc_value nodes) ≡ c.args.self.now = ap tree_of (sym c.in-Inner.is) ∙ c.self.view_is in
    let lower : c.in-Some.node.now.0.0 < c.args.self.now.0.0 =
    omega (
      arith,
      child_lower mid at c.index_mut.result.now c.in-Some.node.now c.in_ok-at-in-Inner.ensures.within c.index_mut.ensures.value c.in-Some.ensures.value,
      way.height,
      ap (λ (s : Tree g.row.V.Denot). s.0.0) view,
    ) in
    let entries : c.in-Some.node.now.1 ≡ entries_at (map arc_value mid) at = child_entries mid at c.index_mut.result.now c.in-Some.node.now c.in_ok-at-in-Inner.ensures.within c.index_mut.ensures.value c.in-Some.ensures.value in
    let short : length c.in-Some.node.now.1 < 2 ^ 63 = omega (arith, c.requires.short, ap length entries, at_most_all (map arc_value mid) at, ap length way.items, ap (λ (s : Tree g.row.V.Denot). length s.1) view) in
    let room : HasRoom c.args.new c.in-Some.node.now =
    room_if c.args.new c.in-Some.node.now c.is_some.result c.is_some.ensures
    (λ grows. child_so IsNarrow mid at c.index_mut.result.now c.in-Some.node.now c.in_ok-at-in-Inner.ensures.within c.index_mut.ensures.value c.in-Some.ensures.value (c.in_ok-at-in-Inner.ensures.room grows)) in
    (omega (arith, lower, c.decreases), (search rules, (room, short)))

pub invariant_of-self-in_err-put-in-Some : goal.invariant_of-self-in_err-put-in-Some
invariant_of-self-in_err-put-in-Some g t c =
    let nodes : List (Arc (Tree g.row.V.Denot) Global) = c.in-Inner.nodes.items in
    let mid : List (Arc (Tree g.row.V.Denot) Global) = c.make_way.new.nodes.items in
    let at = c.in_ok-at-in-Inner.at in
    let whole = subst IsWhole c.in-Inner.is c.self.invariant in
    let way = c.in_ok-at-in-Inner.ensures.same in
    let view : tree_over (map arc_value nodes) ≡ c.args.self.now = ap tree_of (sym c.in-Inner.is) ∙ c.self.view_is in
    let x : Arc (Tree g.row.V.Denot) Global = c.index_mut.result.now in
    let y : Arc (Tree g.row.V.Denot) Global = arc_with_value x c.put.new.self in
    let same = are_same c.args.key.now (arc_value c.make_way.new.seps).items mid (map arc_value (set mid at y)) at x c.put.new.self c.in_ok-at-in-Inner.ensures.place way.below way.filled c.index_mut.ensures.value (map_set arc_value mid at y)
    (c.in_err-put-in-Some.ensures.height ∙ ap (λ (s : Tree g.row.V.Denot). s.0.0) c.in-Some.ensures.value) (c.in_err-put-in-Some.ensures.same ∙ ap (λ (s : Tree g.row.V.Denot). s.1) c.in-Some.ensures.value) in
    record { count = whole.count ∙ sym (ap length (same.items ∙ way.items)); below = same.below; filled = same.filled }

pub returns-in_err-put-in-Some-clause-height : goal.returns-in_err-put-in-Some-clause-height
returns-in_err-put-in-Some-clause-height g t c =
    let nodes : List (Arc (Tree g.row.V.Denot) Global) = c.in-Inner.nodes.items in
    let mid : List (Arc (Tree g.row.V.Denot) Global) = c.make_way.new.nodes.items in
    let at = c.in_ok-at-in-Inner.at in
    let whole = subst IsWhole c.in-Inner.is c.self.invariant in
    let way = c.in_ok-at-in-Inner.ensures.same in
    let view : tree_over (map arc_value nodes) ≡ c.args.self.now = ap tree_of (sym c.in-Inner.is) ∙ c.self.view_is in
    let x : Arc (Tree g.row.V.Denot) Global = c.index_mut.result.now in
    let y : Arc (Tree g.row.V.Denot) Global = arc_with_value x c.put.new.self in
    let same = are_same c.args.key.now (arc_value c.make_way.new.seps).items mid (map arc_value (set mid at y)) at x c.put.new.self c.in_ok-at-in-Inner.ensures.place way.below way.filled c.index_mut.ensures.value (map_set arc_value mid at y)
    (c.in_err-put-in-Some.ensures.height ∙ ap (λ (s : Tree g.row.V.Denot). s.0.0) c.in-Some.ensures.value) (c.in_err-put-in-Some.ensures.same ∙ ap (λ (s : Tree g.row.V.Denot). s.1) c.in-Some.ensures.value) in
    ap (λ (h : ℕ). h + 1) (same.height ∙ way.height) ∙ ap (λ (s : Tree g.row.V.Denot). s.0.0) view

pub returns-in_err-put-in-Some-clause-same : goal.returns-in_err-put-in-Some-clause-same
returns-in_err-put-in-Some-clause-same g t c =
    let nodes : List (Arc (Tree g.row.V.Denot) Global) = c.in-Inner.nodes.items in
    let mid : List (Arc (Tree g.row.V.Denot) Global) = c.make_way.new.nodes.items in
    let at = c.in_ok-at-in-Inner.at in
    let whole = subst IsWhole c.in-Inner.is c.self.invariant in
    let way = c.in_ok-at-in-Inner.ensures.same in
    let view : tree_over (map arc_value nodes) ≡ c.args.self.now = ap tree_of (sym c.in-Inner.is) ∙ c.self.view_is in
    let x : Arc (Tree g.row.V.Denot) Global = c.index_mut.result.now in
    let y : Arc (Tree g.row.V.Denot) Global = arc_with_value x c.put.new.self in
    let same = are_same c.args.key.now (arc_value c.make_way.new.seps).items mid (map arc_value (set mid at y)) at x c.put.new.self c.in_ok-at-in-Inner.ensures.place way.below way.filled c.index_mut.ensures.value (map_set arc_value mid at y)
    (c.in_err-put-in-Some.ensures.height ∙ ap (λ (s : Tree g.row.V.Denot). s.0.0) c.in-Some.ensures.value) (c.in_err-put-in-Some.ensures.same ∙ ap (λ (s : Tree g.row.V.Denot). s.1) c.in-Some.ensures.value) in
    on_err c.from_residual-in_err-put-in-Some.result (same.items ∙ way.items ∙ ap (λ (s : Tree g.row.V.Denot). s.1) view)

pub settle-requires-clause-some : goal.settle-requires-clause-some
settle-requires-clause-some g t c none several =
    let nodes : List (Arc (Tree g.row.V.Denot) Global) = c.in-Inner.nodes.items in
    let mid : List (Arc (Tree g.row.V.Denot) Global) = c.make_way.new.nodes.items in
    let at = c.in_ok-at-in-Inner.at in
    let whole = subst IsWhole c.in-Inner.is c.self.invariant in
    let way = c.in_ok-at-in-Inner.ensures.same in
    let view : tree_over (map arc_value nodes) ≡ c.args.self.now = ap tree_of (sym c.in-Inner.is) ∙ c.self.view_is in
    let x : Arc (Tree g.row.V.Denot) Global = c.index_mut.result.now in
    let y : Arc (Tree g.row.V.Denot) Global = arc_with_value x c.put.new.self in
    let entry = entry_of c.args.key.now c.args.new in
    let done = are_put c.args.key.now entry (arc_value c.make_way.new.seps).items mid (map arc_value (set mid at y)) at x c.put.new.self (has_key c.args.key.now c.args.new) c.in_ok-at-in-Inner.ensures.place way.below way.filled c.index_mut.ensures.value (map_set arc_value mid at y)
    (c.in_ok-put-in-Some.ensures.height ∙ ap (λ (s : Tree g.row.V.Denot). s.0.0) c.in-Some.ensures.value) (c.in_ok-put-in-Some.ensures.changed ∙ ap (λ (s : Tree g.row.V.Denot). put value_cmp key_of c.args.key.now entry s.1) c.in-Some.ensures.value) in
    let within : at < length (map arc_value mid) = led_within c.args.key.now (arc_value c.make_way.new.seps).items at (map arc_value mid) c.in_ok-at-in-Inner.ensures.place way.below.parted in
    let entries : c.in-Some.node.now.1 ≡ entries_at (map arc_value mid) at = child_entries mid at c.index_mut.result.now c.in-Some.node.now c.in_ok-at-in-Inner.ensures.within c.index_mut.ensures.value c.in-Some.ensures.value in
    let new : c.put.new.self.1 ≡ [] = sym (set_there at (map arc_value mid) c.put.new.self within) ∙ ap (λ ts. entries_at ts at) (sym (map_set arc_value mid at y)) ∙ none in
    let before : c.deref.result.now.1 ≡ entries_at (map arc_value mid) at = child_entries mid at c.index.result.now c.deref.result.now c.in_ok-at-in-Inner.ensures.within c.index.ensures c.deref.ensures in
    let gone = none_left c.args.key.now c.args.new c.is_some-in-Inner.result c.in-Some.node.now.1 c.put.new.self.1 c.is_some-in-Inner.ensures c.in_ok-put-in-Some.ensures.changed new in
    c.in_ok-left-in-Inner.ensures.some gone.0 (omega (arith, gone.1, c.count-before.ensures.count, ap length before, ap length entries)) (omega (arith, several, ap length (c.deref-in-Inner-2.ensures.value ∙ ap (λ v. v.items) c.deref-in-Inner.ensures)))

pub settle-requires-clause-below : goal.settle-requires-clause-below
settle-requires-clause-below g t c =
    let nodes : List (Arc (Tree g.row.V.Denot) Global) = c.in-Inner.nodes.items in
    let mid : List (Arc (Tree g.row.V.Denot) Global) = c.make_way.new.nodes.items in
    let at = c.in_ok-at-in-Inner.at in
    let whole = subst IsWhole c.in-Inner.is c.self.invariant in
    let way = c.in_ok-at-in-Inner.ensures.same in
    let view : tree_over (map arc_value nodes) ≡ c.args.self.now = ap tree_of (sym c.in-Inner.is) ∙ c.self.view_is in
    let x : Arc (Tree g.row.V.Denot) Global = c.index_mut.result.now in
    let y : Arc (Tree g.row.V.Denot) Global = arc_with_value x c.put.new.self in
    let entry = entry_of c.args.key.now c.args.new in
    let done = are_put c.args.key.now entry (arc_value c.make_way.new.seps).items mid (map arc_value (set mid at y)) at x c.put.new.self (has_key c.args.key.now c.args.new) c.in_ok-at-in-Inner.ensures.place way.below way.filled c.index_mut.ensures.value (map_set arc_value mid at y)
    (c.in_ok-put-in-Some.ensures.height ∙ ap (λ (s : Tree g.row.V.Denot). s.0.0) c.in-Some.ensures.value) (c.in_ok-put-in-Some.ensures.changed ∙ ap (λ (s : Tree g.row.V.Denot). put value_cmp key_of c.args.key.now entry s.1) c.in-Some.ensures.value) in
    done.below

pub settle-requires-clause-filled : goal.settle-requires-clause-filled
settle-requires-clause-filled g t c =
    let nodes : List (Arc (Tree g.row.V.Denot) Global) = c.in-Inner.nodes.items in
    let mid : List (Arc (Tree g.row.V.Denot) Global) = c.make_way.new.nodes.items in
    let at = c.in_ok-at-in-Inner.at in
    let whole = subst IsWhole c.in-Inner.is c.self.invariant in
    let way = c.in_ok-at-in-Inner.ensures.same in
    let view : tree_over (map arc_value nodes) ≡ c.args.self.now = ap tree_of (sym c.in-Inner.is) ∙ c.self.view_is in
    let x : Arc (Tree g.row.V.Denot) Global = c.index_mut.result.now in
    let y : Arc (Tree g.row.V.Denot) Global = arc_with_value x c.put.new.self in
    let entry = entry_of c.args.key.now c.args.new in
    let done = are_put c.args.key.now entry (arc_value c.make_way.new.seps).items mid (map arc_value (set mid at y)) at x c.put.new.self (has_key c.args.key.now c.args.new) c.in_ok-at-in-Inner.ensures.place way.below way.filled c.index_mut.ensures.value (map_set arc_value mid at y)
    (c.in_ok-put-in-Some.ensures.height ∙ ap (λ (s : Tree g.row.V.Denot). s.0.0) c.in-Some.ensures.value) (c.in_ok-put-in-Some.ensures.changed ∙ ap (λ (s : Tree g.row.V.Denot). put value_cmp key_of c.args.key.now entry s.1) c.in-Some.ensures.value) in
    done.filled

pub settle-requires-clause-count : goal.settle-requires-clause-count
settle-requires-clause-count g t c =
    let nodes : List (Arc (Tree g.row.V.Denot) Global) = c.in-Inner.nodes.items in
    let mid : List (Arc (Tree g.row.V.Denot) Global) = c.make_way.new.nodes.items in
    let at = c.in_ok-at-in-Inner.at in
    let whole = subst IsWhole c.in-Inner.is c.self.invariant in
    let way = c.in_ok-at-in-Inner.ensures.same in
    let view : tree_over (map arc_value nodes) ≡ c.args.self.now = ap tree_of (sym c.in-Inner.is) ∙ c.self.view_is in
    let x : Arc (Tree g.row.V.Denot) Global = c.index_mut.result.now in
    let y : Arc (Tree g.row.V.Denot) Global = arc_with_value x c.put.new.self in
    let entry = entry_of c.args.key.now c.args.new in
    let done = are_put c.args.key.now entry (arc_value c.make_way.new.seps).items mid (map arc_value (set mid at y)) at x c.put.new.self (has_key c.args.key.now c.args.new) c.in_ok-at-in-Inner.ensures.place way.below way.filled c.index_mut.ensures.value (map_set arc_value mid at y)
    (c.in_ok-put-in-Some.ensures.height ∙ ap (λ (s : Tree g.row.V.Denot). s.0.0) c.in-Some.ensures.value) (c.in_ok-put-in-Some.ensures.changed ∙ ap (λ (s : Tree g.row.V.Denot). put value_cmp key_of c.args.key.now entry s.1) c.in-Some.ensures.value) in
    let before : c.deref.result.now.1 ≡ entries_at (map arc_value mid) at = child_entries mid at c.index.result.now c.deref.result.now c.in_ok-at-in-Inner.ensures.within c.index.ensures c.deref.ensures in
    omega (arith, whole.count, ap length way.items, done.count, c.count-before.ensures.count, ap length before)

pub settle-requires-clause-short : goal.settle-requires-clause-short
settle-requires-clause-short g t c =
    let nodes : List (Arc (Tree g.row.V.Denot) Global) = c.in-Inner.nodes.items in
    let mid : List (Arc (Tree g.row.V.Denot) Global) = c.make_way.new.nodes.items in
    let at = c.in_ok-at-in-Inner.at in
    let whole = subst IsWhole c.in-Inner.is c.self.invariant in
    let way = c.in_ok-at-in-Inner.ensures.same in
    let view : tree_over (map arc_value nodes) ≡ c.args.self.now = ap tree_of (sym c.in-Inner.is) ∙ c.self.view_is in
    let x : Arc (Tree g.row.V.Denot) Global = c.index_mut.result.now in
    let y : Arc (Tree g.row.V.Denot) Global = arc_with_value x c.put.new.self in
    let entry = entry_of c.args.key.now c.args.new in
    let done = are_put c.args.key.now entry (arc_value c.make_way.new.seps).items mid (map arc_value (set mid at y)) at x c.put.new.self (has_key c.args.key.now c.args.new) c.in_ok-at-in-Inner.ensures.place way.below way.filled c.index_mut.ensures.value (map_set arc_value mid at y)
    (c.in_ok-put-in-Some.ensures.height ∙ ap (λ (s : Tree g.row.V.Denot). s.0.0) c.in-Some.ensures.value) (c.in_ok-put-in-Some.ensures.changed ∙ ap (λ (s : Tree g.row.V.Denot). put value_cmp key_of c.args.key.now entry s.1) c.in-Some.ensures.value) in
    omega (arith, c.requires.short, ap length done.items, length_put c.args.key.now entry (entries_of (map arc_value mid)), ap length way.items, ap (λ (s : Tree g.row.V.Denot). length s.1) view)

pub returns-clause-height : goal.returns-clause-height
returns-clause-height g t c =
    let nodes : List (Arc (Tree g.row.V.Denot) Global) = c.in-Inner.nodes.items in
    let mid : List (Arc (Tree g.row.V.Denot) Global) = c.make_way.new.nodes.items in
    let at = c.in_ok-at-in-Inner.at in
    let whole = subst IsWhole c.in-Inner.is c.self.invariant in
    let way = c.in_ok-at-in-Inner.ensures.same in
    let view : tree_over (map arc_value nodes) ≡ c.args.self.now = ap tree_of (sym c.in-Inner.is) ∙ c.self.view_is in
    let x : Arc (Tree g.row.V.Denot) Global = c.index_mut.result.now in
    let y : Arc (Tree g.row.V.Denot) Global = arc_with_value x c.put.new.self in
    let entry = entry_of c.args.key.now c.args.new in
    let done = are_put c.args.key.now entry (arc_value c.make_way.new.seps).items mid (map arc_value (set mid at y)) at x c.put.new.self (has_key c.args.key.now c.args.new) c.in_ok-at-in-Inner.ensures.place way.below way.filled c.index_mut.ensures.value (map_set arc_value mid at y)
    (c.in_ok-put-in-Some.ensures.height ∙ ap (λ (s : Tree g.row.V.Denot). s.0.0) c.in-Some.ensures.value) (c.in_ok-put-in-Some.ensures.changed ∙ ap (λ (s : Tree g.row.V.Denot). put value_cmp key_of c.args.key.now entry s.1) c.in-Some.ensures.value) in
    ap (λ (h : ℕ). h + 1) (c.settle.ensures.same.height ∙ done.height ∙ way.height) ∙ ap (λ (s : Tree g.row.V.Denot). s.0.0) view

pub returns-clause-changed : goal.returns-clause-changed
returns-clause-changed g t c =
    let nodes : List (Arc (Tree g.row.V.Denot) Global) = c.in-Inner.nodes.items in
    let mid : List (Arc (Tree g.row.V.Denot) Global) = c.make_way.new.nodes.items in
    let at = c.in_ok-at-in-Inner.at in
    let whole = subst IsWhole c.in-Inner.is c.self.invariant in
    let way = c.in_ok-at-in-Inner.ensures.same in
    let view : tree_over (map arc_value nodes) ≡ c.args.self.now = ap tree_of (sym c.in-Inner.is) ∙ c.self.view_is in
    let x : Arc (Tree g.row.V.Denot) Global = c.index_mut.result.now in
    let y : Arc (Tree g.row.V.Denot) Global = arc_with_value x c.put.new.self in
    let entry = entry_of c.args.key.now c.args.new in
    let done = are_put c.args.key.now entry (arc_value c.make_way.new.seps).items mid (map arc_value (set mid at y)) at x c.put.new.self (has_key c.args.key.now c.args.new) c.in_ok-at-in-Inner.ensures.place way.below way.filled c.index_mut.ensures.value (map_set arc_value mid at y)
    (c.in_ok-put-in-Some.ensures.height ∙ ap (λ (s : Tree g.row.V.Denot). s.0.0) c.in-Some.ensures.value) (c.in_ok-put-in-Some.ensures.changed ∙ ap (λ (s : Tree g.row.V.Denot). put value_cmp key_of c.args.key.now entry s.1) c.in-Some.ensures.value) in
    c.settle.ensures.same.items ∙ done.items ∙ ap (put value_cmp key_of c.args.key.now entry) (way.items ∙ ap (λ (s : Tree g.row.V.Denot). s.1) view)
