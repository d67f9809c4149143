use Rattle.std.proofs.Common.{◌∙◌, sym}
use Rattle.form_check.specs.ShownScopes.{lent_scope}
use Rattle.assertcheck.specs.Conditions.{filter_of}
use Rattle.assertcheck.proofs.KnownNames.{filter_left, is_made, is_refused}
use Rattle.assertcheck.proofs.conditions.filter_condition.Goals as goal

pub returns-in-Ok-clause-made : goal.returns-in-Ok-clause-made
returns-in-Ok-clause-made c =
    let scope = lent_scope c.args.scope in
    is_made (filter_of c.args.catalog.now scope c.args.condition.now) c.require_sound.result
    (filter_left c.args.catalog.now scope c.args.condition.now c.in-Ok.made c.in-Ok.ensures.made ∙ sym c.require_sound.ensures.sound)

pub returns-in-Ok-clause-refused : goal.returns-in-Ok-clause-refused
returns-in-Ok-clause-refused c =
    let scope = lent_scope c.args.scope in
    is_refused (filter_of c.args.catalog.now scope c.args.condition.now) c.require_sound.result
    (filter_left c.args.catalog.now scope c.args.condition.now c.in-Ok.made c.in-Ok.ensures.made ∙ sym c.require_sound.ensures.sound)
