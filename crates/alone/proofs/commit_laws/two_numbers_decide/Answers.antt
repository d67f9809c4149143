-- What the two numbers decide.
use Rattle.alone.proofs.Judging.{numbers_decide, pivot_named, no_pivot_named, reader_least, reader_named}
use Rattle.alone.proofs.commit_laws.two_numbers_decide.Goals as goal

pub returns : goal.returns
returns c = λ log commit next. record {
  decide = numbers_decide log next.accepted commit next.numbered;
  pivot = pivot_named log next.accepted commit next.numbered;
  no_pivot = no_pivot_named log next.accepted commit next.numbered;
  reader = reader_least log next.accepted commit next.numbered;
  named = reader_named log next.accepted commit next.numbered;
}
