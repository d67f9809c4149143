use Rattle.std.proofs.Common.{[], ◌∷◌, ◌++◌, refl, sym, subst}
use Rattle.std.proofs.lemmas.List.{append-nil}
use Rattle.std.proofs.lemmas.Result.{IfOk-weaker}
use Rattle.groups.specs.Figures.{Figures}
use Rattle.groups.specs.Totals.{IsTotalOf}
use Rattle.groups.proofs.TotalLemmas.{IsTotalOf-more}
use Rattle.groups.proofs.totals.Total.with.Goals as goal

pub returns : goal.returns
returns c =
    let x = c.args.value.now in
    IfOk-weaker c.more.result _ _
    (λ (t : Figures) made. λ vs is within. subst (IsTotalOf c.args.asked (vs ++ x ∷ [])) (sym made)
    (IsTotalOf-more c.args.asked x vs (vs ++ x ∷ []) c.args.self.now (record { front = vs; back = []; without = sym (append-nil vs); with_it = refl }) is within))
    c.more.ensures
