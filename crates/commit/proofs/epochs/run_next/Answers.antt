use Rattle.std.proofs.Common.{sym, ◌∙◌}
use Rattle.std.proofs.lemmas.Bool.{eqb-true}
use Rattle.commit.proofs.epochs.run_next.Goals as goal

pub returns-clause-more : goal.returns-clause-more
returns-clause-more c = record {
  outcome = c.in_ok-outcome.outcome;
  is = record {
    start = c.in_ok-start.start;
    starts = rw (c.deref.ensures.value, c.deref-2.ensures.value, c.tables_left-before.ensures, c.as_slice.ensures.value) at c.in_ok-start.ensures.readmitted;
    within = rw c.as_slice-2.ensures at c.in_ok-outcome.ensures.within;
    answers = rw c.as_slice-2.ensures at c.in_ok-outcome.ensures.answers;
    left = rw c.as_slice-2.ensures at c.in_ok-outcome.ensures.left;
    verdicts = c.in_ok-outcome.ensures.verdicts;
    live = c.in_ok-outcome.ensures.live;
    serializable = c.in_ok-outcome.ensures.serializable;
    told = rw c.as_slice-2.ensures at c.in_ok-outcome.ensures.told;
    fit = c.in_ok-outcome.ensures.fit;
  };
  more_is = rw c.in_ok-reserve.ensures.items at c.push_reserved.ensures.items;
  whole_is = λ e. sym c.in_ok-outcome.outcome.answers.ok.0 ∙ sym c.len.ensures ∙ eqb-true c.len.result c.len-2.result e ∙ c.len-2.ensures;
}
