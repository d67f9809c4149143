use Rattle.std.proofs.Common.{Ok, subst, sym}
use Rattle.commit.specs.Cores.{CoreState}
use Rattle.commit.specs.Keepers.{IsAskedFor}
use Rattle.commit.proofs.Asking.{asks_nobody}
use Rattle.commit.proofs.seats.answer_event_kept.Goals as goal

pub returns-in_ok-answer_event-in_default : goal.returns-in_ok-answer_event-in_default
returns-in_ok-answer_event-in_default g c =
    let k = c.args.keeper.now in
    let answer = c.in_ok-answer_event-in_default.field-0 in
    let known = c.in_ok-answer_event-in_default.ensures in
    record {
      answered = known.answered;
      known = known.known;
      takes = tt;
      commits = known.commits;
      seat = known.seat;
      same = tt;
      live = known.live;
      asked = subst (λ (core : CoreState). IsAskedFor g.K.Keeper.did_keep k k c.args.core.now.records core.records (Ok answer))
          (sym known.commits)
          (asks_nobody g.K.Keeper.did_keep k c.args.core.now c.args.line.now.session c.args.line.now.event c.in_default.not-Commit
          c.args.seat.now.txn answer known.answered);
    }
