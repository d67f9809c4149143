use Rattle.std.proofs.Common.{rules}
use Rattle.std.proofs.lemmas.Fn.{filter_same}
use Rattle.alone.specs.States.{is_real}
use Rattle.changes.proofs.real.real_changes.Goals as goal

pub returns : goal.returns
returns c = record { real = filter_same _ is_real _ (λ x b f' k. search rules) _ _ c.retain.ensures.filtered }
