use Rattle.std.proofs.Common.{◌≡◌, List, ℕ, ap, ◌∙◌, subst, arith, length, map}
use Rattle.std.specs.List.{IsDistinct}
use Rattle.std.specs.Map.{keys_of, values_of}
use Rattle.value.specs.contracts.values.ValueOrd.TheImpl.{cmp-value as value_order}
use Rattle.siread.specs.Keys.{same_value}
use Rattle.siread.specs.Families.{total}
use Rattle.siread.proofs.Entries.{distinct_by}
use Rattle.siread.proofs.KeyOrder.{is_eq-value}
use Rattle.siread.proofs.by_value.ByValue.len.Goals as goal

pub loop-readers-init : goal.loop-readers-init
loop-readers-init c =
    let all : total (map length c.into_iter-readers-iterator.result) ≡ total (map length (values_of c.args.self.now))
    = ap (λ (xs : List (List ℕ)). total (map length xs)) (c.into_iter-readers-iterator.ensures.into_iter_gives ∙ c.values-readers-items.ensures.rest ∙ ap values_of c.self.view_is) in
    (omega (arith, all), omega arith)

pub loop-readers-preserved : goal.loop-readers-preserved
loop-readers-preserved c =
    let step = ap (λ (xs : List (List ℕ)). total (map length xs)) c.in-Some.ensures.steps in
    let so_far = c.loop-readers.invariant.0 in
    let n = c.len.ensures in
    let k = c.saturating_add-count.ensures in
    (omega (arith, step, so_far, n, k), omega (arith, k))

pub returns : goal.returns
returns c =
    let none = ap (λ (xs : List (List ℕ)). total (map length xs)) c.in-None.ensures.steps.0 in
    let so_far = c.loop-readers.invariant.0 in
    let most = c.loop-readers.invariant.1 in
    record {
      once = subst (λ es. IsDistinct same_value (keys_of es)) c.self.view_is (distinct_by value_order.it same_value is_eq-value _ c.values-readers-items.ensures.ordered);
      counted = omega (arith, none, so_far, most);
    }
