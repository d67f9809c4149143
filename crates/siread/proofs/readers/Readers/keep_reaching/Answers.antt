use Rattle.std.proofs.Common.{rules, ap, ◌∙◌, filter}
use Rattle.std.proofs.lemmas.Fn.{filter_same}
use Rattle.siread.specs.Readers.{reaches_above}
use Rattle.siread.proofs.readers.Readers.keep_reaching.Goals as goal

pub returns : goal.returns
returns c =
    filter_same _ (reaches_above c.args.low c.args.reaches.now) _ (λ x b f' k. search rules) _ _
    c.retain.ensures.filtered
    ∙ ap (filter (reaches_above c.args.low c.args.reaches.now)) c.self.view_is
