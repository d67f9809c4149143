use Rattle.alone.proofs.commit_laws.numbered_commits_are_accepted.Goals as goal

pub returns : goal.returns
returns c = λ log commit h. record {
  numbered = h.next.numbered;
  after_snapshot = h.after_snapshot;
  no_write_conflict = h.answer.1;
  no_danger = h.answer.2;
  changes_nothing = h.changes_nothing;
}
