use Rattle.std.proofs.Common.{map, reverse, subst}
use Rattle.siread.specs.Locks.{readers_at, IsGreatestReader}
use Rattle.alone.specs.Commits.{reach}
use Rattle.conflict.specs.Candidates.{record_of}
use Rattle.conflict.specs.Readers.{HasReaders}
use Rattle.conflict.proofs.Reading.{greatest_found, none_conflict}
use Rattle.conflict.proofs.numbers.greatest_in.Goals as goal

pub returns : goal.returns
returns c = λ commits next has reaches least.
    let reads = readers_at c.args.locks.now in
    let changes = c.args.candidate.now.changes.now in
    let known = subst (λ far. HasReaders reads far commits c.args.candidate.now.snapshot) reaches
    (has c.if-candidate.false) in
    greatest_found commits reads (record_of c.args.candidate.now) next known
    c.requires.after_snapshot c.greatest_reader.result
    (subst (λ n. IsGreatestReader reads changes n (map reach commits) c.greatest_reader.result) least
    (subst (λ far. IsGreatestReader reads changes c.args.least far c.greatest_reader.result) reaches
    c.greatest_reader.ensures))

pub returns-then-candidate : goal.returns-then-candidate
returns-then-candidate c = λ commits next has reaches least.
    none_conflict (reverse commits) (record_of c.args.candidate.now)
    (c.requires.changes_nothing c.if-candidate.true)
