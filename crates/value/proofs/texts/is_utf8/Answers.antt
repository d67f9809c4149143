use Rattle.std.proofs.Common.{◌∙◌}
use Rattle.value.proofs.Characters.{decided}
use Rattle.value.proofs.texts.is_utf8.Goals as goal

-- src/texts.rt:102:1
pub returns : goal.returns
returns c = c.is_ok.ensures.value ∙ decided _ _ c.args.bytes.now c.from_utf8.result c.from_utf8.ensures.cases
