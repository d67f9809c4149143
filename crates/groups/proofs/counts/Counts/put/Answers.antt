use Rattle.std.proofs.Common.{ℕ, ◌∙◌, ap, map, Option}
use Rattle.value.specs.Ordered.{put}
use Rattle.value.specs.ValueOrder.{value_cmp}
use Rattle.pages.specs.Reach.{key_of, entry_of}
use Rattle.groups.specs.Counts.{count_from}
use Rattle.groups.proofs.CountLemmas.{put_count-entry}
use Rattle.groups.proofs.counts.Counts.put.Goals as goal

pub returns : goal.returns
returns c =
    let v = c.args.value.now in
    let pages = c.self.inside.pages in
    rw (← c.self.view_is)
    (ap (map count_from) (c.in_ok-with.ensures.changed ∙ ap (λ (o : Option ℕ). put value_cmp key_of v (entry_of v o) pages) c.unless_zero.ensures) ∙ put_count-entry v c.args.number pages)
