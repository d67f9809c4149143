use Rattle.std.proofs.Common.{◌+◌, ◌∷◌, List, drop, sym, ap, subst, ◌∙◌}
use Rattle.std.proofs.lemmas.List.{drop_more}
use Rattle.value.specs.declared.values.Value.{Value}
use Rattle.calls.specs.Calls.{IsNameAdded, names_of}
use Rattle.calls.proofs.Naming.{goes_on, with_front}
use Rattle.calls.proofs.databases.read_names.Goals as goal

pub loop-value-preserved : goal.loop-value-preserved
loop-value-preserved c =
    let v = c.value-item.result in let rest = drop (c.loop-value.value-index + 1) c.args.values.now in
    let left = drop_more c.args.values.now c.loop-value.value-index v c.loop-value-test.true ∙ ap (λ (x : Value). x ∷ rest) (sym c.value-item.is) in
    goes_on c.loop-value.names.items c.add_name.new.names.items v rest (names_of c.args.values.now)
    (subst (λ added. IsNameAdded added v c.loop-value.names.items c.add_name.new.names.items) c.if-not-branch.false c.in_ok-add_name.ensures)
    (ap (λ (vs : List Value). with_front c.loop-value.names.items (names_of vs)) (sym left) ∙ c.loop-value.invariant)
