use Rattle.commit.proofs.Fitting.{all_fit}
use Rattle.commit.proofs.Running.{loaded_led}
use Rattle.commit.proofs.Telling.{ends}
use Rattle.commit.specs.Runs.{beginning}
use Rattle.commit.proofs.laws.answers_lead_to_a_serial_order.Goals as goal

pub returns-clause-serializable : goal.returns-clause-serializable
returns-clause-serializable c = λ limit loaded all lines answers sound answered.
    let end = ends c.replies_are_those_alone.ensures.next limit loaded all lines answers sound answered in
    let core = end.running.commits in record {
      once = c.commits_have_an_order.ensures.once _ core.epoch.accepted;
      sound = c.replay_answers_again.ensures.sound _ _ _ core.epoch;
      again = c.replay_answers_again.ensures.again _ _ _ core.epoch;
      newest = c.replay_answers_again.ensures.newest _ _ _ core.epoch;
      recorded = c.replay_answers_again.ensures.recorded _ _ _ core.epoch;
    }

pub returns-clause-told : goal.returns-clause-told
returns-clause-told c = λ limit loaded all lines answers sound answered.
    (ends c.replies_are_those_alone.ensures.next limit loaded all lines answers sound answered).telling.alone

pub returns-clause-fit : goal.returns-clause-fit
returns-clause-fit c = λ limit loaded all lines answers sound answered fit.
    all_fit loaded _ (ends c.replies_are_those_alone.ensures.next limit loaded all lines answers sound answered).running
    (loaded_led (beginning limit loaded all) lines answers) fit
