use Rattle.std.proofs.Common.{◌≡◌, ◌∙◌, ap, sym, subst, Some, None, List, Option, option_map}
use Rattle.std.specs.Option.{option_copied}
use Rattle.value.specs.declared.values.Value.{Value}
use Rattle.value.specs.ValueOrder.{value_cmp}
use Rattle.value.specs.Ordered.{at}
use Rattle.pages.specs.Reach.{key_of, value_of, AreInOrder}
use Rattle.pages.proofs.Merging.{order_with, difference_says, main_says}
use Rattle.pages.proofs.differential.DifferentialMap.get.Goals as goal

pub returns-in-Some-clause-value : goal.returns-in-Some-clause-value
returns-in-Some-clause-value g c =
    let k = c.args.key.now in
    let found : at value_cmp key_of k c.self.inside.differences.items ≡ Some c.in-Some.difference.now =
    ap (λ (es : List (Value × Option g.row.V.Denot)). at value_cmp key_of k es) (sym c.deref.ensures.value) ∙ sym c.find.ensures ∙ ap option_copied c.in-Some.is in
    c.as_ref.ensures.value
    ∙ sym (difference_says k c.in-Some.difference.now c.self.inside.differences.items c.self.inside.main c.self.invariant.page.order c.self.invariant.order found)
    ∙ ap (λ (es : List (Value × g.row.V.Denot)). option_map value_of (at value_cmp key_of k es)) c.self.view_is

pub returns-in-Some-clause-order : goal.returns-in-Some-clause-order
returns-in-Some-clause-order g c =
    subst AreInOrder c.self.view_is (order_with c.self.inside.differences.items c.self.inside.main c.self.invariant.order)

pub returns-in-None-clause-value : goal.returns-in-None-clause-value
returns-in-None-clause-value g c =
    let k = c.args.key.now in
    let none : at value_cmp key_of k c.self.inside.differences.items ≡ None =
    ap (λ (es : List (Value × Option g.row.V.Denot)). at value_cmp key_of k es) (sym c.deref.ensures.value) ∙ sym c.find.ensures ∙ ap option_copied c.in-None.is in
    c.get.ensures.value
    ∙ ap (option_map value_of) (sym (main_says k c.self.inside.differences.items c.self.inside.main c.self.invariant.page.order c.self.invariant.order none))
    ∙ ap (λ (es : List (Value × g.row.V.Denot)). option_map value_of (at value_cmp key_of k es)) c.self.view_is

pub returns-in-None-clause-order : goal.returns-in-None-clause-order
returns-in-None-clause-order g c =
    subst AreInOrder c.self.view_is (order_with c.self.inside.differences.items c.self.inside.main c.self.invariant.order)
