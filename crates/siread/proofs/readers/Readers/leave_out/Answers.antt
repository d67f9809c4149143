use Rattle.std.proofs.Common.{rules, ap, ◌∙◌, not, ◌==◌, filter, ℕ}
use Rattle.std.proofs.lemmas.Fn.{filter_same}
use Rattle.siread.proofs.readers.Readers.leave_out.Goals as goal

pub returns : goal.returns
returns c = filter_same _ (λ (reader : ℕ). not (reader == c.args.number)) _ (λ x b f' k. search rules) _ _ c.retain.ensures.filtered ∙ ap (filter (λ (reader : ℕ). not (reader == c.args.number))) c.self.view_is
