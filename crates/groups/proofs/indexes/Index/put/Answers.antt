use Rattle.std.proofs.Common.{◌∙◌, ap, List, Option}
use Rattle.value.specs.Ordered.{put}
use Rattle.value.specs.ValueOrder.{value_cmp}
use Rattle.value.specs.declared.values.Value.{Value}
use Rattle.pages.specs.Reach.{key_of, entry_of}
use Rattle.groups.proofs.indexes.Index.put.Goals as goal

pub returns : goal.returns
returns c =
    let v = c.args.value.now in
    let sets = c.self.inside.sets in
    rw (← c.self.view_is)
    (c.in_ok-put.ensures.changed ∙ ap (λ (o : Option (List Value)). put value_cmp key_of v (entry_of v o) sets) c.unless_empty.ensures)
