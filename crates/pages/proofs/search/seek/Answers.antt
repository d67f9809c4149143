use Rattle.std.proofs.Common.{◌≡◌, ◌-◌, ◌+◌, ◌<◌, ◌/◌, ◌∙◌, ap, sym, subst, arith, length, ℕ, drop, Some, option_map}
use Rattle.std.specs.declared.cmp.Ordering.TheVariants.{Equal}
use Rattle.value.specs.declared.values.Value.{Value}
use Rattle.value.specs.Ordered.{AreAbove}
use Rattle.value.specs.ValueOrder.{value_cmp}
use Rattle.pages.specs.Reach.{key_of}
use Rattle.pages.proofs.Orders.{get_is, at_entry, put_entry, at_none, put_none, passed_entry, above_entry}
use Rattle.pages.proofs.search.seek.Goals as goal

pub loop-low-preserved-in-Less : goal.loop-low-preserved-in-Less
loop-low-preserved-in-Less g c =
    let middle : ℕ = c.loop-low.low + (c.loop-low.high - c.loop-low.low) / 2 in
    let within : middle < length c.args.page.now = omega (arith, c.loop-low-test.true, c.loop-low.invariant.within) in
    record {
      order = omega arith;
      within = omega (arith, within);
      before = c.loop-low.invariant.before;
      behind = above_entry c.args.key.now c.args.page.now middle c.index-page-middle.result within c.index-page-middle.is c.requires (ap (value_cmp c.args.key.now) (ap (λ (x : Value × g.row.V.Denot). x.0) c.index-page-middle.is) ∙ sym c.order.ensures.value ∙ c.in-Less.is);
    }

pub returns-in-Equal : goal.returns-in-Equal
returns-in-Equal g c =
    let middle : ℕ = c.loop-low.low + (c.loop-low.high - c.loop-low.low) / 2 in
    let x = c.index-page-middle.result in
    let within : middle < length c.args.page.now = omega (arith, c.loop-low-test.true, c.loop-low.invariant.within) in
    let equal : value_cmp c.args.key.now x.0 ≡ Equal = ap (value_cmp c.args.key.now) (ap (λ (y : Value × g.row.V.Denot). y.0) c.index-page-middle.is) ∙ sym c.order.ensures.value ∙ c.in-Equal.is in
    let got = get_is c.args.page.now middle x within c.index-page-middle.is in
    record {
      within = within;
      found = at_entry c.args.key.now c.args.page.now middle x within c.index-page-middle.is c.requires equal ∙ sym got;
      put = record {
        order = omega arith;
        within = omega (arith, within);
        changed = put_entry c.args.key.now c.args.page.now middle x within c.index-page-middle.is c.requires equal;
      };
      same = ap (option_map key_of) got ∙ ap Some (ap (λ (y : Value × g.row.V.Denot). y.0) c.index-page-middle.is ∙ sym (c.order.ensures.exact.0 c.in-Equal.is));
      none = tt;
      beside = tt;
    }

pub loop-low-preserved : goal.loop-low-preserved
loop-low-preserved g c =
    let middle : ℕ = c.loop-low.low + (c.loop-low.high - c.loop-low.low) / 2 in
    let within : middle < length c.args.page.now = omega (arith, c.loop-low-test.true, c.loop-low.invariant.within) in
    record {
      order = omega (arith, c.loop-low-test.true);
      within = c.loop-low.invariant.within;
      before = passed_entry c.args.key.now c.args.page.now middle c.index-page-middle.result within c.index-page-middle.is c.requires (ap (value_cmp c.args.key.now) (ap (λ (x : Value × g.row.V.Denot). x.0) c.index-page-middle.is) ∙ sym c.order.ensures.value ∙ c.in-Greater.is);
      behind = c.loop-low.invariant.behind;
    }

pub returns : goal.returns
returns g c =
    let end : c.loop-low.high ≡ c.loop-low.low = omega (arith, c.loop-low-test.false, c.loop-low.invariant.order) in
    let above = subst (λ (n : ℕ). AreAbove value_cmp key_of c.args.key.now (drop n c.args.page.now)) end c.loop-low.invariant.behind in
    record {
      within = tt;
      found = tt;
      put = tt;
      same = tt;
      none = at_none c.args.key.now c.args.page.now c.loop-low.low c.loop-low.invariant.before above;
      beside = record {
        order = omega arith;
        within = omega (arith, end, c.loop-low.invariant.within);
        changed = put_none c.args.key.now c.args.page.now c.loop-low.low c.loop-low.invariant.before above;
      };
    }
