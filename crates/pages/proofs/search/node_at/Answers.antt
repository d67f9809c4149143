use Rattle.std.proofs.Common.{◌≡◌, ◌∙◌, ◌-◌, ◌+◌, ap, sym, ℕ, drop, arith, length, map, ◌++◌}
use Rattle.std.specs.Arc.{arc_value}
use Rattle.pages.specs.Levels.{Tree, entries_of, entries_at}
use Rattle.pages.proofs.Orders.{shared_there}
use Rattle.pages.proofs.Trees.{here, further, count_left, entries_at-is}
use Rattle.pages.proofs.search.node_at.Goals as goal

pub returns-then-rest-count-clause-there : goal.returns-then-rest-count-clause-there
returns-then-rest-count-clause-there g c =
    let ts = map arc_value c.args.nodes.now in
    let there = shared_there c.args.nodes.now c.loop-place.place c.index-nodes-place.result c.deref.result.now c.loop-place-test.true c.index-nodes-place.is c.deref.ensures in
    let same : entries_at ts c.loop-place.place ≡ c.deref.result.now.1 =
    entries_at-is ts c.loop-place.place c.deref.result.now there.within ∙ ap (λ (t : Tree g.row.V.Denot). t.1) (sym there.is) in
    omega (arith, c.if-rest-count.true, c.count-count.ensures.count, ap length same)

pub returns-then-rest-count-clause-entries : goal.returns-then-rest-count-clause-entries
returns-then-rest-count-clause-entries g c =
    let ts = map arc_value c.args.nodes.now in
    let i = c.loop-place.place in
    let there = shared_there c.args.nodes.now i c.index-nodes-place.result c.deref.result.now c.loop-place-test.true c.index-nodes-place.is c.deref.ensures in
    let same : entries_at ts i ≡ c.deref.result.now.1 =
    entries_at-is ts i c.deref.result.now there.within ∙ ap (λ (t : Tree g.row.V.Denot). t.1) (sym there.is) in
    c.loop-place.invariant.entries ∙ here ts i c.deref.result.now c.loop-place.rest there.within there.is (omega (arith, c.if-rest-count.true, c.count-count.ensures.count))
    ∙ ap (λ es. drop c.loop-place.rest es ++ entries_of (drop (i + 1) ts)) (sym same)

pub loop-place-preserved : goal.loop-place-preserved
loop-place-preserved g c =
    let ts = map arc_value c.args.nodes.now in
    let i = c.loop-place.place in
    let there = shared_there c.args.nodes.now i c.index-nodes-place.result c.deref.result.now c.loop-place-test.true c.index-nodes-place.is c.deref.ensures in
    let left = count_left ts i c.deref.result.now there.within there.is in
    record {
      within = omega (arith, c.loop-place.invariant.within, c.if-rest-count.false, left, c.count-count.ensures.count);
      entries = c.loop-place.invariant.entries ∙ further ts i c.deref.result.now c.loop-place.rest there.within there.is (omega (arith, c.if-rest-count.false, c.count-count.ensures.count))
          ∙ ap (λ (n : ℕ). drop (c.loop-place.rest - n) (entries_of (drop (i + 1) ts))) (sym c.count-count.ensures.count);
    }
