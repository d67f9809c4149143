use Rattle.definitions.proofs.Redeclaring.{as_written}
use Rattle.definitions.proofs.redeclaration.redeclare.Goals as goal

pub returns-clause-written : goal.returns-clause-written
returns-clause-written c =
    as_written c.args.dropped.now c.args.created.now c.args.view.now c.in_ok-left.left c.create_assertions.result c.in_ok-left.ensures.dropped c.create_assertions.ensures.created
