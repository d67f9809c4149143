use Rattle.durable.proofs.Imaged.{entry_restored}
use Rattle.durable.proofs.laws.an_image_is_restored.Goals as goal

pub returns : goal.returns
returns c = λ declared state fit rows_fit image is. entry_restored declared state fit rows_fit image is
