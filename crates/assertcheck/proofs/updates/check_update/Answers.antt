use Rattle.std.proofs.Common.{◌∙◌, ℕ, List, ap, sym}
use Rattle.form_check.specs.ShownSources.{shown_source}
use Rattle.assertcheck.specs.Updates.{update_over}
use Rattle.assertcheck.proofs.KnownNames.{update_made}
use Rattle.assertcheck.proofs.updates.check_update.Goals as goal

pub returns-in-Ok-clause-made : goal.returns-in-Ok-clause-made
returns-in-Ok-clause-made c =
    let target = shown_source c.in_ok-target.target in
    update_made c.args.catalog.now c.args.table.now target c.in_ok-places.places.items c.args.sets.now c.args.condition.now c.in-Ok.update
    c.in_ok-target.ensures.found c.in_ok-places.ensures.made c.in_ok-places.ensures.as_many
    (ap (λ (places : List ℕ). update_over target places c.args.sets.now c.args.condition.now) (sym c.as_slice.ensures.value) ∙ c.in-Ok.ensures.made)
