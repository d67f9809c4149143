-- Transactions that ask to be committed.
use Rattle.std.specs.Prelude.{◌≡◌, []}
use Rattle.alone.specs.declared.records.Record.{Record}
use Rattle.conflict.specs.declared.candidates.Candidate.{Candidate}

-- the commit that the candidate would be, but for its session and its statements, by which no conflict is decided
abbrev pub record_of : Candidate → Record
record_of candidate = record {
  number = candidate.number;
  snapshot = candidate.snapshot;
  read_only = candidate.read_only;
  session = [];
  trace = [];
  reads = candidate.reads.now;
  changes = candidate.changes.now;
}

-- the commit is the candidate's
pub record IsOf (candidate : Candidate) (commit : Record) : Type 0 where
  pub number : candidate.number ≡ commit.number
  pub snapshot : candidate.snapshot ≡ commit.snapshot
  pub read_only : candidate.read_only ≡ commit.read_only
  pub reads : candidate.reads.now ≡ commit.reads
  pub changes : candidate.changes.now ≡ commit.changes
