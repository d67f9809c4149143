use Rattle.changes.proofs.checks.push_if_meant.Goals as goal

pub returns-in_ok-push_check : goal.returns-in_ok-push_check
returns-in_ok-push_check c = λ a. rw c.if-is_meant.true (c.in_ok-push_check.ensures a)
