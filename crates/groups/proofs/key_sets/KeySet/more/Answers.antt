use Rattle.std.proofs.Common.{◌∙◌, ap, map, Some, refl}
use Rattle.value.specs.declared.values.Value.{Value}
use Rattle.pages.specs.Reach.{key_of}
use Rattle.groups.proofs.Carried.{put-made}
use Rattle.groups.proofs.key_sets.KeySet.more.Goals as goal

pub returns : goal.returns
returns c =
    rw (← c.self.view_is)
    (ap (map key_of) c.in_ok-with.ensures.changed ∙ put-made key_of (λ (j : Value). j) (λ e. refl) c.args.key.now (Some tt) c.self.inside.pages)
