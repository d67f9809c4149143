use Rattle.groups.proofs.RowLemmas.{members_change, members_within}
use Rattle.groups.proofs.laws.members_follow_rows.Goals as goal

pub returns-clause-change : goal.returns-clause-change
returns-clause-change c = λ place value column key new rows. members_change place value column key new rows

pub returns-clause-within : goal.returns-clause-within
returns-clause-within c = λ place aggregate rows short small. members_within place aggregate rows short small
