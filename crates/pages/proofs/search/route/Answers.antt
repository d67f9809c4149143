use Rattle.std.proofs.Common.{◌≡◌, ◌-◌, ◌+◌, ◌<◌, ◌/◌, ◌∙◌, ap, sym, subst, arith, length, ℕ, drop}
use Rattle.std.specs.Ordering.{is_lt}
use Rattle.value.specs.Ordered.{AreAbove}
use Rattle.value.specs.ValueOrder.{value_cmp}
use Rattle.pages.specs.Parts.{own}
use Rattle.pages.proofs.Separators.{none_to, above_from, leads_between}
use Rattle.pages.proofs.search.route.Goals as goal

pub loop-low-preserved-then-is_lt : goal.loop-low-preserved-then-is_lt
loop-low-preserved-then-is_lt c =
    let middle : ℕ = c.loop-low.low + (c.loop-low.high - c.loop-low.low) / 2 in
    let within : middle < length c.args.seps.now = omega (arith, c.loop-low-test.true, c.loop-low.invariant.within) in
    record {
      order = omega arith;
      within = omega (arith, within);
      before = c.loop-low.invariant.before;
      behind = above_from c.args.key.now c.args.seps.now middle c.index-seps-middle.result within c.index-seps-middle.is c.requires (ap is_lt (sym c.order.ensures.value) ∙ sym c.is_lt.ensures ∙ c.if-is_lt.true);
    }

pub loop-low-preserved : goal.loop-low-preserved
loop-low-preserved c =
    let middle : ℕ = c.loop-low.low + (c.loop-low.high - c.loop-low.low) / 2 in
    let within : middle < length c.args.seps.now = omega (arith, c.loop-low-test.true, c.loop-low.invariant.within) in
    record {
      order = omega (arith, c.loop-low-test.true);
      within = c.loop-low.invariant.within;
      before = none_to c.args.key.now c.args.seps.now middle c.index-seps-middle.result within c.index-seps-middle.is c.requires (ap is_lt (sym c.order.ensures.value) ∙ sym c.is_lt.ensures ∙ c.if-is_lt.false);
      behind = c.loop-low.invariant.behind;
    }

pub returns : goal.returns
returns c =
    let end : c.loop-low.high ≡ c.loop-low.low = omega (arith, c.loop-low-test.false, c.loop-low.invariant.order) in
    leads_between c.args.key.now c.args.seps.now c.loop-low.low (omega (arith, c.loop-low.invariant.order, c.loop-low.invariant.within)) c.loop-low.invariant.before
    (subst (λ (n : ℕ). AreAbove value_cmp own c.args.key.now (drop n c.args.seps.now)) end c.loop-low.invariant.behind)
