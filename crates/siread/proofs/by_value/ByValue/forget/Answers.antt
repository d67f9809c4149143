use Rattle.std.proofs.Common.{List, ℕ, [], None, sym, ap, ◌∙◌}
use Rattle.siread.specs.Families.{readers_of}
use Rattle.siread.proofs.Lookups.{after, changed_same}
use Rattle.siread.proofs.by_value.ByValue.forget.Goals as goal

pub returns : goal.returns
returns c =
    let old = c.self.inside.readers in
    let gone : List ℕ → List ℕ = λ readers. [] in
    after old c.remove.new.self c.args.value.now None gone c.remove.ensures.updates.0 (λ i. [])
    ∙ changed_same c.args.value.now gone (readers_of old.entries) (sym (ap (λ es. readers_of es c.args.value.now) c.self.view_is ∙ c.requires))
    ∙ ap readers_of c.self.view_is
