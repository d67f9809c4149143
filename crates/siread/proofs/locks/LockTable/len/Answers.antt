use Rattle.std.proofs.Common.{ap, ◌∙◌, sym, subst, arith}
use Rattle.std.specs.List.{IsDistinct}
use Rattle.std.specs.Map.{keys_of}
use Rattle.siread.specs.contracts.keys.FamilyOrd.TheImpl.{cmp-value as family_order}
use Rattle.siread.specs.Families.{same_family}
use Rattle.siread.proofs.Entries.{distinct_by}
use Rattle.siread.proofs.KeyOrder.{is_eq-family}
use Rattle.siread.proofs.Counts.{all_counted, all_listed, counted_in, keys_in, once_in, AreOnce}
use Rattle.siread.proofs.locks.LockTable.len.Goals as goal

pub loop-family-init : goal.loop-family-init
loop-family-init c =
    let start = c.into_iter-family-iterator.ensures.into_iter_gives ∙ c.iter-family-items.ensures.rest ∙ c.self.view_is in
    let all = ap counted_in start in
    (omega (arith, all), omega arith, λ once. subst AreOnce start once)

pub loop-family-preserved : goal.loop-family-preserved
loop-family-preserved c =
    let steps = c.in-Some.ensures.steps in
    let step = ap counted_in steps in
    let so_far = c.loop-family.invariant.0 in
    let n = c.count_of.ensures.counted in
    let k = c.saturating_add-count.ensures in
    (omega (arith, step, so_far, n, k), omega (arith, k), λ once. c.loop-family.invariant.2 (subst AreOnce (sym steps) (c.count_of.ensures.once, once)))

pub returns : goal.returns
returns c =
    let es = c.args.self.now in
    let families : IsDistinct same_family (keys_of es)
    = subst (λ es. IsDistinct same_family (keys_of es)) c.self.view_is (distinct_by family_order.it same_family is_eq-family _ c.iter-family-items.ensures.ordered) in
    let none = c.in-None.ensures.steps.0 in
    let left = ap counted_in none in
    let so_far = c.loop-family.invariant.0 in
    let most = c.loop-family.invariant.1 in
    let once : AreOnce es = c.loop-family.invariant.2 (subst AreOnce (sym none) tt) in
    let all = all_counted es families once in
    record {
      keys = keys_in es;
      are_all = record { once = once_in es families once; all = all_listed es };
      counted = omega (arith, left, so_far, most, all);
    }
