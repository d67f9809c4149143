use Rattle.alone.proofs.Induction.{leaves_sound}
use Rattle.alone.proofs.laws.commits_are_sound.Goals as goal

pub returns : goal.returns
returns c = leaves_sound
