use Rattle.std.proofs.Common.{ℕ, ◌∙◌, ap, Option}
use Rattle.std.specs.Prelude.{unwrap_or}
use Rattle.groups.proofs.CountLemmas.{count_at-entry}
use Rattle.groups.proofs.counts.Counts.number.Goals as goal

pub returns : goal.returns
returns c =
    rw (← c.self.view_is)
    (c.unwrap_or.ensures ∙ ap (λ (o : Option ℕ). unwrap_or o 0) (c.copied.ensures ∙ c.get.ensures.value) ∙ count_at-entry c.args.value.now c.self.inside.pages)
