use Rattle.std.proofs.Common.{◌≡◌, ◌<◌, ◌∙◌, [], ap, sym, arith, length, map, refl}
use Rattle.std.proofs.lemmas.Bool.{false≢true}
use Rattle.std.specs.Prelude.{is_some}
use Rattle.std.specs.Arc.{arc_value}
use Rattle.pages.specs.Levels.{entries_at}
use Rattle.pages.proofs.Walks.{none_in}
use Rattle.pages.proofs.Descents.{child_entries}
use Rattle.pages.proofs.Changes.{at_most_all, same_as}
use Rattle.pages.proofs.Shifts.{parted_length}
use Rattle.pages.proofs.Trees.{but_there}
use Rattle.pages.proofs.parts.settle.Goals as goal

pub overflow_sub-count : goal.overflow_sub-count
overflow_sub-count g c = let ts = map arc_value c.args.nodes.now.items in omega (arith, c.requires.count, at_most_all ts c.args.at)

pub overflow_add-count : goal.overflow_add-count
overflow_add-count g c =
    let ts = map arc_value c.args.nodes.now.items in
    let child : c.deref.result.now.1 ≡ entries_at ts c.args.at = child_entries c.args.nodes.now.items c.args.at c.index.result.now c.deref.result.now c.requires.within c.index.ensures c.deref.ensures in
    omega (arith, c.requires.count, c.requires.short, at_most_all ts c.args.at, c.count-after.ensures.count, ap length child)

pub take_out_empty-requires-clause-none : goal.take_out_empty-requires-clause-none
take_out_empty-requires-clause-none g c =
    let ts = map arc_value c.args.nodes.now.items in
    let child : c.deref.result.now.1 ≡ entries_at ts c.args.at = child_entries c.args.nodes.now.items c.args.at c.index.result.now c.deref.result.now c.requires.within c.index.ensures c.deref.ensures in
    none_in (entries_at ts c.args.at) (omega (arith, c.if-after-eq0.true, c.count-after.ensures.count, ap length child))

pub returns-in-Some-clause-count : goal.returns-in-Some-clause-count
returns-in-Some-clause-count g c =
    let ts = map arc_value c.args.nodes.now.items in
    let child : c.deref.result.now.1 ≡ entries_at ts c.args.at = child_entries c.args.nodes.now.items c.args.at c.index.result.now c.deref.result.now c.requires.within c.index.ensures c.deref.ensures in
    omega (arith, c.requires.count, at_most_all ts c.args.at, c.count-after.ensures.count, ap length child, ap length c.take_out_empty.ensures.items)

pub returns-in_default-clause-count : goal.returns-in_default-clause-count
returns-in_default-clause-count g c =
    let ts = map arc_value c.args.nodes.now.items in
    let child : c.deref.result.now.1 ≡ entries_at ts c.args.at = child_entries c.args.nodes.now.items c.args.at c.index.result.now c.deref.result.now c.requires.within c.index.ensures c.deref.ensures in
    omega (arith, c.requires.count, at_most_all ts c.args.at, c.count-after.ensures.count, ap length child)

pub returns-in_default-clause-same : goal.returns-in_default-clause-same
returns-in_default-clause-same g c =
    let ts = map arc_value c.args.nodes.now.items in
    let seps = (arc_value c.args.seps.now).items in
    let child : c.deref.result.now.1 ≡ entries_at ts c.args.at = child_entries c.args.nodes.now.items c.args.at c.index.result.now c.deref.result.now c.requires.within c.index.ensures c.deref.ensures in
    let none : entries_at ts c.args.at ≡ [] = none_in (entries_at ts c.args.at) (omega (arith, c.if-after-eq0.true, c.count-after.ensures.count, ap length child)) in
    same_as seps seps ts ts refl refl c.requires.below
    (λ many. absurd (false≢true (sym (ap is_some c.in_default.is) ∙ c.requires.some none (omega (arith, many, parted_length seps ts c.requires.below.parted)))))

pub returns-else-after-eq0-clause-count : goal.returns-else-after-eq0-clause-count
returns-else-after-eq0-clause-count g c =
    let ts = map arc_value c.args.nodes.now.items in
    let child : c.deref.result.now.1 ≡ entries_at ts c.args.at = child_entries c.args.nodes.now.items c.args.at c.index.result.now c.deref.result.now c.requires.within c.index.ensures c.deref.ensures in
    omega (arith, c.requires.count, at_most_all ts c.args.at, c.count-after.ensures.count, ap length child)

pub returns-else-after-eq0-clause-same : goal.returns-else-after-eq0-clause-same
returns-else-after-eq0-clause-same g c =
    let ts = map arc_value c.args.nodes.now.items in
    let child : c.deref.result.now.1 ≡ entries_at ts c.args.at = child_entries c.args.nodes.now.items c.args.at c.index.result.now c.deref.result.now c.requires.within c.index.ensures c.deref.ensures in
    let some : 0 < length (entries_at ts c.args.at) = omega (arith, c.if-after-eq0.false, c.count-after.ensures.count, ap length child) in
    same_as (arc_value c.args.seps.now).items (arc_value c.args.seps.now).items ts ts refl refl c.requires.below (λ many. but_there c.args.at ts some (c.requires.filled many))
