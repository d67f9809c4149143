use Rattle.std.proofs.Common.{◌≡◌, ℕ, List, [], ◌∷◌, ◌++◌, Some, None, map, ◌∙◌, ap, subst}
use Rattle.std.specs.Prelude.{IfOk}
use Rattle.syntax.specs.declared.trees.Condition.{Condition}
use Rattle.syntax.specs.declared.trees.SelectList.TheVariants.{Star}
use Rattle.definitions.specs.Constraints as spec
use Rattle.definitions.proofs.constraints.each_is_there.Goals as goal

pub returns : goal.returns
returns c =
    let table = c.args.table.now in
    let key = c.args.key.now in
    let referenced = c.args.referenced.now in
    let made : List ℕ → List ℕ → Condition → Condition = λ t own keeps. spec.no_row (record { select_list = Star; table = t; correlation_name = Some own; keeps = Some keeps; group = None; having = None }) in
    let keeps : List ℕ → Condition = λ own. spec.all_of (map (spec.is_there own) key.columns ++ spec.no_row (spec.rows_referred_to own key referenced) ∷ []) in
    let same = ap (λ t. made t c.in_ok-own.own c.all_of.result) c.in_ok-copy.ensures
    ∙ ap (λ k. made table c.in_ok-own.own k) (c.all_of.ensures ∙ ap spec.all_of c.in_ok-refers_to_none.ensures)
    ∙ ap (λ own. made table own (keeps own)) c.in_ok-own.ensures in
    subst (λ (q : Condition). IfOk c.no_row.result (λ condition. condition ≡ q)) same c.no_row.ensures
