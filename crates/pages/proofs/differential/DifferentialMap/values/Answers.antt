use Rattle.std.proofs.Common.{ap, arith, length}
use Rattle.pages.proofs.Merging.{short_with}
use Rattle.pages.proofs.differential.DifferentialMap.values.Goals as goal

pub returns-clause-short : goal.returns-clause-short
returns-clause-short g c =
    omega (arith, ap length c.self.view_is, short_with c.self.inside.differences.items c.self.inside.main, c.self.invariant.short)
