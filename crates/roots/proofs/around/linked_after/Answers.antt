use Rattle.std.proofs.Common.{◌≡◌, ◌∙◌, ◌++◌, ap, append_assoc, subst, sym, ⊎_elim}
use Rattle.std.specs.Prelude.{◌⊎◌, filter, flat_map}
use Rattle.std.specs.Ordering.{is_eq}
use Rattle.std.proofs.lemmas.Result.{IfOk-weaker}
use Rattle.std.specs.declared.cmp.Ordering.{Ordering}
use Rattle.std.specs.declared.cmp.Ordering.TheVariants.{Less, Equal, Greater}
use Rattle.value.specs.ValueOrder.{value_cmp}
use Rattle.value.proofs.ValueOrders.{value_exact}
use Rattle.value.specs.declared.values.Value.{Value}
use Rattle.table.specs.Rows.{put_row, value_in}
use Rattle.groups.specs.Totals.{Entries}
use Rattle.roots.specs.Around.{IsTurn, around_members, is_equal, value_in_one}
use Rattle.roots.specs.Shown.{lent_query}
use Rattle.roots.specs.Turned.{turned_root}
use Rattle.roots.proofs.AroundLemmas.{first_turn, halfway, one_value, second_turn}
use Rattle.roots.proofs.TurnedLemmas.{linked_once, linked_twice}
use Rattle.roots.proofs.around.linked_after.Goals as goal

pub returns-in-Equal-clause-totals : goal.returns-in-Equal-clause-totals
returns-in-Equal-clause-totals c = λ key rows stands within within_after old.
    let around = c.args.around in
    let q = lent_query c.args.summary in
    let outer = c.args.outer.now in
    let k = c.args.change.now.key in
    let was = c.args.change.now.old in
    let new = c.args.change.now.new in
    let same = sym c.value_of-old.ensures ∙ value_exact c.value_of-old.result.now c.value_of-new.result.now (sym c.order.ensures.value ∙ c.in-Equal.is) ∙ c.value_of-new.ensures in
    one_value around q outer key k was new rows stands within within_after c.in_ok-made.made same
    (c.in_ok-made.ensures.totals key rows (around_members around q outer rows) (halfway around q outer key k was new rows stands within within_after) stands
    (subst (λ v. IsTurn around q outer v rows (put_row key k new rows) (around_members around q outer rows) (halfway around q outer key k was new rows stands within within_after)) (sym c.value_of-old.ensures)
    (first_turn around q outer key k was new rows stands within within_after)) old)

unequal : (c : Ordering) → c ≡ Equal → (c ≡ Less) ⊎ (c ≡ Greater) → ⊥
unequal c e o = ⊎_elim (λ (l : c ≡ Less). let no : Equal ≡ Less = sym e ∙ l in cc) (λ (g : c ≡ Greater). let no : Equal ≡ Greater = sym e ∙ g in cc) o

pub returns-clause-totals : goal.returns-clause-totals
returns-clause-totals c =
    IfOk-weaker c.linked_to-in-Less.result _ _
    (λ (made : Entries) h. λ key rows stands within within_after old.
    let around = c.args.around in
    let q = lent_query c.args.summary in
    let outer = c.args.outer.now in
    let k = c.args.change.now.key in
    let was = c.args.change.now.old in
    let new = c.args.change.now.new in
    let cmp = sym (c.order.ensures.value ∙ ap (λ v. value_cmp v c.value_of-new.result.now) c.value_of-old.ensures ∙ ap (value_cmp _) c.value_of-new.ensures) in
    h key rows (halfway around q outer key k was new rows stands within within_after) (around_members around q outer (put_row key k new rows)) stands
    (subst (λ v. IsTurn around q outer v rows (put_row key k new rows) (halfway around q outer key k was new rows stands within within_after) (around_members around q outer (put_row key k new rows))) (sym c.value_of-new.ensures)
    (second_turn around q outer key k was new rows stands within within_after (λ e. unequal c.order.result (sym cmp ∙ e) c.in-Less.is)))
    (c.in_ok-made.ensures.totals key rows (around_members around q outer rows) (halfway around q outer key k was new rows stands within within_after) stands
    (subst (λ v. IsTurn around q outer v rows (put_row key k new rows) (around_members around q outer rows) (halfway around q outer key k was new rows stands within within_after)) (sym c.value_of-old.ensures)
    (first_turn around q outer key k was new rows stands within within_after)) old))
    c.linked_to-in-Less.ensures.totals

pub returns-in-Equal-clause-turned : goal.returns-in-Equal-clause-turned
returns-in-Equal-clause-turned c =
    let around = c.args.around in
    let q = lent_query c.args.summary in
    let outer = c.args.outer.now in
    let T = turned_root around q.filter c.args.change.now in
    let cmp = sym (c.order.ensures.value ∙ ap (λ v. value_cmp v c.value_of-new.result.now) c.value_of-old.ensures ∙ ap (value_cmp _) c.value_of-new.ensures) in
    c.in_ok-made.ensures.turned
    ∙ ap (λ v. c.args.turned.now.items ++ flat_map T (filter (λ row. is_equal v (value_in around.link.outer row)) outer)) c.value_of-old.ensures
    ∙ ap (λ roots. c.args.turned.now.items ++ roots) (linked_once around q.filter c.args.change.now outer (ap is_eq (cmp ∙ c.in-Equal.is)))

pub returns-clause-turned : goal.returns-clause-turned
returns-clause-turned c =
    let around = c.args.around in
    let q = lent_query c.args.summary in
    let outer = c.args.outer.now in
    let T = turned_root around q.filter c.args.change.now in
    let at = λ (v : Value). flat_map T (filter (λ row. is_equal v (value_in around.link.outer row)) outer) in
    let was = value_in_one around.link.inner c.args.change.now.old in
    let becomes = value_in_one around.link.inner c.args.change.now.new in
    let cmp = sym (c.order.ensures.value ∙ ap (λ v. value_cmp v c.value_of-new.result.now) c.value_of-old.ensures ∙ ap (value_cmp _) c.value_of-new.ensures) in
    let other = ⊎_elim (λ (l : c.order.result ≡ Less). ap is_eq (cmp ∙ l)) (λ (g : c.order.result ≡ Greater). ap is_eq (cmp ∙ g)) c.in-Less.is in
    let first = c.in_ok-made.ensures.turned ∙ ap (λ v. c.args.turned.now.items ++ at v) c.value_of-old.ensures in
    IfOk-weaker c.linked_to-in-Less.result _ _
    (λ (made : Entries) h. h ∙ ap (λ v. c.linked_to.new.turned.items ++ at v) c.value_of-new.ensures ∙ ap (λ roots. roots ++ at becomes) first
    ∙ append_assoc c.args.turned.now.items (at was) (at becomes) ∙ ap (λ roots. c.args.turned.now.items ++ roots) (linked_twice around q.filter c.args.change.now outer other))
    c.linked_to-in-Less.ensures.turned
