use Rattle.std.proofs.Common.{◌≡◌, ◌+◌, ◌∙◌, ap, sym, map, arith, length, take, drop, slice_index_or, List, Global}
use Rattle.std.proofs.lemmas.List.{length-map, length-append}
use Rattle.std.specs.Arc.{arc_value}
use Rattle.std.specs.declared.sync.Arc.{Arc}
use Rattle.pages.specs.Levels.{Tree, entries_of}
use Rattle.pages.proofs.Shifts.{parted_length}
use Rattle.pages.proofs.Changes.{cut_behind}
use Rattle.pages.proofs.nodes.cut_nodes.Goals as goal

pub nodes_half-at-requires : goal.nodes_half-at-requires
nodes_half-at-requires g c = omega (arith, c.requires.wide, parted_length (arc_value c.args.seps.now).items (map arc_value c.args.nodes.now.items) c.requires.whole.below.parted, ap length (c.deref-2.ensures.value ∙ ap (λ v. v.items) c.deref.ensures))

pub share_from-requires : goal.share_from-requires
share_from-requires g c =
    omega (
      arith,
      c.nodes_half-at.ensures,
      ap length (c.deref-2.ensures.value ∙ ap (λ v. v.items) c.deref.ensures),
      ap length c.deref-8.ensures.value,
      length-map c.args.nodes.now.items arc_value,
      parted_length (arc_value c.args.seps.now).items (map arc_value c.args.nodes.now.items) c.requires.whole.below.parted,
    )

pub overflow_sub-count : goal.overflow_sub-count
overflow_sub-count g c =
    let seps = (arc_value c.args.seps.now).items in
    let whole : c.deref-2.result.now ≡ seps = c.deref-2.ensures.value ∙ ap (λ v. v.items) c.deref.ensures in
    let front : (arc_value c.in_ok-seps_before.seps_before).items ≡ take c.nodes_half-at.result seps = ap (λ v. v.items) c.in_ok-seps_before.ensures.ok ∙ c.in_ok-front.ensures ∙ ap (take c.nodes_half-at.result) (c.deref-5.ensures.value ∙ ap (λ v. v.items) c.deref-4.ensures) in
    let rear : (arc_value c.in_ok-seps_behind.seps_behind).items ≡ drop (c.nodes_half-at.result + 1) c.deref-7.result.now = ap (λ v. v.items) c.in_ok-seps_behind.ensures.ok ∙ c.in_ok-rear.ensures in
    let cut = cut_behind c.nodes_half-at.result seps (arc_value c.in_ok-seps_before.seps_before).items (arc_value c.in_ok-seps_behind.seps_behind).items c.deref-7.result.now c.args.nodes.now.items c.truncate.new.self.items (map arc_value c.in_ok-nodes_behind.nodes_behind.items) c.deref-8.result.now c.in_ok-key.key c.index.result.now
    (omega (arith, c.nodes_half-at.ensures, ap length whole, parted_length seps (map arc_value c.args.nodes.now.items) c.requires.whole.below.parted))
    c.in_ok-key.ensures (c.index.ensures ∙ ap (λ v. slice_index_or v.items c.nodes_half-at.result c.index.result.now) c.deref-3.ensures) front (c.deref-7.ensures.value ∙ ap (λ v. v.items) c.deref-6.ensures) rear c.truncate.ensures.items c.deref-8.ensures.value c.in_ok-nodes_behind.ensures c.requires.whole.below c.requires.whole.filled in
    let all : length (entries_of (map arc_value c.truncate.new.self.items)) + length (entries_of (map arc_value c.in_ok-nodes_behind.nodes_behind.items)) ≡ length (entries_of (map arc_value c.args.nodes.now.items)) =
    sym (length-append (entries_of (map arc_value c.truncate.new.self.items)) (entries_of (map arc_value c.in_ok-nodes_behind.nodes_behind.items))) ∙ ap length cut.halves.items in
    let behind : c.in_ok-behind.behind ≡ length (entries_of (map arc_value c.in_ok-nodes_behind.nodes_behind.items)) =
    c.in_ok-behind.ensures ∙ ap (λ (xs : List (Arc (Tree g.row.V.Denot) Global)). length (entries_of (map arc_value xs))) c.deref-9.ensures.value in
    omega (arith, c.requires.whole.count, all, behind)

pub invariant_of-result : goal.invariant_of-result
invariant_of-result g c =
    let seps = (arc_value c.args.seps.now).items in
    let whole : c.deref-2.result.now ≡ seps = c.deref-2.ensures.value ∙ ap (λ v. v.items) c.deref.ensures in
    let front : (arc_value c.in_ok-seps_before.seps_before).items ≡ take c.nodes_half-at.result seps = ap (λ v. v.items) c.in_ok-seps_before.ensures.ok ∙ c.in_ok-front.ensures ∙ ap (take c.nodes_half-at.result) (c.deref-5.ensures.value ∙ ap (λ v. v.items) c.deref-4.ensures) in
    let rear : (arc_value c.in_ok-seps_behind.seps_behind).items ≡ drop (c.nodes_half-at.result + 1) c.deref-7.result.now = ap (λ v. v.items) c.in_ok-seps_behind.ensures.ok ∙ c.in_ok-rear.ensures in
    let cut = cut_behind c.nodes_half-at.result seps (arc_value c.in_ok-seps_before.seps_before).items (arc_value c.in_ok-seps_behind.seps_behind).items c.deref-7.result.now c.args.nodes.now.items c.truncate.new.self.items (map arc_value c.in_ok-nodes_behind.nodes_behind.items) c.deref-8.result.now c.in_ok-key.key c.index.result.now
    (omega (arith, c.nodes_half-at.ensures, ap length whole, parted_length seps (map arc_value c.args.nodes.now.items) c.requires.whole.below.parted))
    c.in_ok-key.ensures (c.index.ensures ∙ ap (λ v. slice_index_or v.items c.nodes_half-at.result c.index.result.now) c.deref-3.ensures) front (c.deref-7.ensures.value ∙ ap (λ v. v.items) c.deref-6.ensures) rear c.truncate.ensures.items c.deref-8.ensures.value c.in_ok-nodes_behind.ensures c.requires.whole.below c.requires.whole.filled in
    let all : length (entries_of (map arc_value c.truncate.new.self.items)) + length (entries_of (map arc_value c.in_ok-nodes_behind.nodes_behind.items)) ≡ length (entries_of (map arc_value c.args.nodes.now.items)) =
    sym (length-append (entries_of (map arc_value c.truncate.new.self.items)) (entries_of (map arc_value c.in_ok-nodes_behind.nodes_behind.items))) ∙ ap length cut.halves.items in
    let behind : c.in_ok-behind.behind ≡ length (entries_of (map arc_value c.in_ok-nodes_behind.nodes_behind.items)) =
    c.in_ok-behind.ensures ∙ ap (λ (xs : List (Arc (Tree g.row.V.Denot) Global)). length (entries_of (map arc_value xs))) c.deref-9.ensures.value in
    record { count = behind; below = cut.after; filled = cut.after_filled }

pub returns-clause-cut : goal.returns-clause-cut
returns-clause-cut g c =
    let seps = (arc_value c.args.seps.now).items in
    let whole : c.deref-2.result.now ≡ seps = c.deref-2.ensures.value ∙ ap (λ v. v.items) c.deref.ensures in
    let front : (arc_value c.in_ok-seps_before.seps_before).items ≡ take c.nodes_half-at.result seps = ap (λ v. v.items) c.in_ok-seps_before.ensures.ok ∙ c.in_ok-front.ensures ∙ ap (take c.nodes_half-at.result) (c.deref-5.ensures.value ∙ ap (λ v. v.items) c.deref-4.ensures) in
    let rear : (arc_value c.in_ok-seps_behind.seps_behind).items ≡ drop (c.nodes_half-at.result + 1) c.deref-7.result.now = ap (λ v. v.items) c.in_ok-seps_behind.ensures.ok ∙ c.in_ok-rear.ensures in
    let cut = cut_behind c.nodes_half-at.result seps (arc_value c.in_ok-seps_before.seps_before).items (arc_value c.in_ok-seps_behind.seps_behind).items c.deref-7.result.now c.args.nodes.now.items c.truncate.new.self.items (map arc_value c.in_ok-nodes_behind.nodes_behind.items) c.deref-8.result.now c.in_ok-key.key c.index.result.now
    (omega (arith, c.nodes_half-at.ensures, ap length whole, parted_length seps (map arc_value c.args.nodes.now.items) c.requires.whole.below.parted))
    c.in_ok-key.ensures (c.index.ensures ∙ ap (λ v. slice_index_or v.items c.nodes_half-at.result c.index.result.now) c.deref-3.ensures) front (c.deref-7.ensures.value ∙ ap (λ v. v.items) c.deref-6.ensures) rear c.truncate.ensures.items c.deref-8.ensures.value c.in_ok-nodes_behind.ensures c.requires.whole.below c.requires.whole.filled in
    cut.halves

pub returns-clause-whole : goal.returns-clause-whole
returns-clause-whole g c =
    let seps = (arc_value c.args.seps.now).items in
    let whole : c.deref-2.result.now ≡ seps = c.deref-2.ensures.value ∙ ap (λ v. v.items) c.deref.ensures in
    let front : (arc_value c.in_ok-seps_before.seps_before).items ≡ take c.nodes_half-at.result seps = ap (λ v. v.items) c.in_ok-seps_before.ensures.ok ∙ c.in_ok-front.ensures ∙ ap (take c.nodes_half-at.result) (c.deref-5.ensures.value ∙ ap (λ v. v.items) c.deref-4.ensures) in
    let rear : (arc_value c.in_ok-seps_behind.seps_behind).items ≡ drop (c.nodes_half-at.result + 1) c.deref-7.result.now = ap (λ v. v.items) c.in_ok-seps_behind.ensures.ok ∙ c.in_ok-rear.ensures in
    let cut = cut_behind c.nodes_half-at.result seps (arc_value c.in_ok-seps_before.seps_before).items (arc_value c.in_ok-seps_behind.seps_behind).items c.deref-7.result.now c.args.nodes.now.items c.truncate.new.self.items (map arc_value c.in_ok-nodes_behind.nodes_behind.items) c.deref-8.result.now c.in_ok-key.key c.index.result.now
    (omega (arith, c.nodes_half-at.ensures, ap length whole, parted_length seps (map arc_value c.args.nodes.now.items) c.requires.whole.below.parted))
    c.in_ok-key.ensures (c.index.ensures ∙ ap (λ v. slice_index_or v.items c.nodes_half-at.result c.index.result.now) c.deref-3.ensures) front (c.deref-7.ensures.value ∙ ap (λ v. v.items) c.deref-6.ensures) rear c.truncate.ensures.items c.deref-8.ensures.value c.in_ok-nodes_behind.ensures c.requires.whole.below c.requires.whole.filled in
    let all : length (entries_of (map arc_value c.truncate.new.self.items)) + length (entries_of (map arc_value c.in_ok-nodes_behind.nodes_behind.items)) ≡ length (entries_of (map arc_value c.args.nodes.now.items)) =
    sym (length-append (entries_of (map arc_value c.truncate.new.self.items)) (entries_of (map arc_value c.in_ok-nodes_behind.nodes_behind.items))) ∙ ap length cut.halves.items in
    let behind : c.in_ok-behind.behind ≡ length (entries_of (map arc_value c.in_ok-nodes_behind.nodes_behind.items)) =
    c.in_ok-behind.ensures ∙ ap (λ (xs : List (Arc (Tree g.row.V.Denot) Global)). length (entries_of (map arc_value xs))) c.deref-9.ensures.value in
    record { count = omega (arith, c.requires.whole.count, all, behind); below = cut.before; filled = cut.before_filled }
