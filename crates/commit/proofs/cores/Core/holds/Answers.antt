use Rattle.std.proofs.Common.{◌≡◌, true, subst}
use Rattle.std.specs.Prelude.{Contains}
use Rattle.commit.specs.Cores.{CoreState}
use Rattle.commit.proofs.cores.Core.holds.Goals as goal

pub returns-clause-held : goal.returns-clause-held
returns-clause-held c =
    subst (λ (s : CoreState). c.holds.result ≡ true → Contains s.live.snapshots (record { begin_number = c.args.begin_number; snapshot = c.args.snapshot; read_only = c.args.read_only }))
    c.self.view_is c.holds.ensures.held
