use Rattle.std.proofs.Common.{◌∙◌, ◌++◌, ap, sym, take, drop, ◌+◌, Option, option_to_list}
use Rattle.pages.specs.Reach.{entry_of}
use Rattle.pages.proofs.Parting.{set_entry}
use Rattle.pages.proofs.parts.set_at.Goals as goal

pub returns-in-Some : goal.returns-in-Some
returns-in-Some g c =
    set_entry c.args.page.now.items c.args.at c.index_mut.result.now c.args.key.now c.in-Some.value c.index_mut.ensures.value c.requires
    ∙ ap (λ (new : Option g.row.V.Denot). take c.args.at c.args.page.now.items ++ (option_to_list (entry_of c.args.key.now new) ++ drop (c.args.at + 1) c.args.page.now.items)) (sym c.in-Some.is)
