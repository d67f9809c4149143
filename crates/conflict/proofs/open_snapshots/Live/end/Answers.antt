use Rattle.std.proofs.Common.{rules, ◌≡◌, ◌∙◌, ap, filter, sym, subst, ◌<◌}
use Rattle.std.specs.Prelude.{All}
use Rattle.std.proofs.lemmas.Fn.{filter_same}
use Rattle.std.proofs.lemmas.List.Elements.{All-filter}
use Rattle.conflict.specs.declared.open_snapshots.LiveSnapshot.{LiveSnapshot}
use Rattle.conflict.specs.Live.{is_other, without}
use Rattle.conflict.proofs.open_snapshots.Live.end.Goals as goal

left : (c : goal.After-retain) → c.retain.new.self.items ≡ filter (is_other c.args.begin_number) c.self.inside.snapshots.items
left c = filter_same _ (is_other c.args.begin_number) _ (λ x b f' k. search rules) _ _ c.retain.ensures.filtered

pub invariant_of-self : goal.invariant_of-self
invariant_of-self c =
    subst (All (λ (one : LiveSnapshot). one.begin_number < c.self.inside.begun)) (sym (left c))
    (All-filter (is_other c.args.begin_number) (λ (one : LiveSnapshot). one.begin_number < c.self.inside.begun) c.self.inside.snapshots.items c.self.invariant)

pub returns : goal.returns
returns c = (λ i. record { begun = c.self.inside.begun; snapshots = left c i }) ∙ ap (without c.args.begin_number) c.self.view_is
