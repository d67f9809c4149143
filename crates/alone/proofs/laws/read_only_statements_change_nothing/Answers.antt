use Rattle.alone.proofs.ReadOnly.{changes_nothing, resolved_reads}
use Rattle.alone.proofs.laws.read_only_statements_change_nothing.Goals as goal

pub returns-clause-none : goal.returns-clause-none
returns-clause-none c = changes_nothing

pub returns-clause-each : goal.returns-clause-each
returns-clause-each c = resolved_reads
