use Rattle.alone.proofs.Keyless.{checked_keyless}
use Rattle.alone.proofs.laws.updates_leave_the_key.Goals as goal

pub returns : goal.returns
returns c = checked_keyless
