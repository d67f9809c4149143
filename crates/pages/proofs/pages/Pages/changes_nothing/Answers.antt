use Rattle.std.proofs.Common.{rules, ◌≡◌, ◌∙◌, ap, sym, Option, None, option_map}
use Rattle.value.specs.Ordered.{at, put}
use Rattle.value.specs.ValueOrder.{value_cmp}
use Rattle.pages.specs.Reach.{key_of, value_of, entry_of}
use Rattle.pages.proofs.Parting.{put_absent}
use Rattle.pages.proofs.pages.Pages.changes_nothing.Goals as goal

pub returns-in-None : goal.returns-in-None
returns-in-None g c none =
    let nothing : option_map value_of (at value_cmp key_of c.args.key.now c.args.self.now) ≡ None = search rules in
    put_absent c.args.key.now c.args.self.now nothing
    ∙ ap (λ (new : Option g.row.V.Denot). put value_cmp key_of c.args.key.now (entry_of c.args.key.now new) c.args.self.now) (sym c.in-None.is)
