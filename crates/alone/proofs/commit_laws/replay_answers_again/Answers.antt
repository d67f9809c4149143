-- The replay theorem over tables.
use Rattle.std.proofs.Common.{◌<◌, List}
use Rattle.assertion.specs.Meaning.{State}
use Rattle.alone.specs.States.{row_in, IsState}
use Rattle.assertion.specs.Declarations.{Declared, layouts_in}
use Rattle.alone.specs.Alone.{IsSound}
use Rattle.alone.proofs.Lists.{each_from}
use Rattle.alone.specs.declared.records.Record.{Record}
use Rattle.alone.specs.Epoch.{put_in, run_of, keys_of, IsEpoch}
use Rattle.alone.specs.Order.{rank, serial_order}
use Rattle.alone.proofs.Ranks.{clean, sorted_arranges, order_is_lawful, log_falls}
use Rattle.alone.proofs.Replays.{in_turn, Replayed, replayed}
use Rattle.alone.proofs.Semantics.{AreNets, states_are_store, transactions_are_semantics, history_nets}
use Rattle.alone.proofs.commit_laws.replay_answers_again.Goals as goal

whole : (declared : Declared) (start : State) (log : List Record) (e : IsEpoch declared start log)
    → Replayed State (put_in declared) (row_in (layouts_in declared)) (IsState (layouts_in declared)) (AreNets declared) (states_are_store declared) start e.admitted.fit (run_of declared) (keys_of declared)
    (IsSound declared) (transactions_are_semantics declared) e.admitted (serial_order log) log
whole declared start log e =
    replayed State (put_in declared) (row_in (layouts_in declared)) (IsState (layouts_in declared)) (AreNets declared) (states_are_store declared) start e.admitted.fit (run_of declared) (keys_of declared)
    (IsSound declared) (transactions_are_semantics declared) e.admitted
    (serial_order log) log (sorted_arranges (rank log) log) (order_is_lawful log e.accepted) (log_falls log e.accepted)
    (history_nets declared start log e.history) (each_from (λ w. w.snapshot < w.number) log (clean log e.accepted).snapshots) e.history

pub returns-clause-again : goal.returns-clause-again
returns-clause-again c = λ declared start log e. (whole declared start log e).replies

pub returns-clause-recorded : goal.returns-clause-recorded
returns-clause-recorded c = λ declared start log e. (whole declared start log e).recorded

pub returns-clause-newest : goal.returns-clause-newest
returns-clause-newest c = λ declared start log e. (whole declared start log e).newest

pub returns-clause-sound : goal.returns-clause-sound
returns-clause-sound c = λ declared start log e. (whole declared start log e).never_false

pub returns-clause-in_turn : goal.returns-clause-in_turn
returns-clause-in_turn c = λ declared start log e. in_turn (put_in declared) start log
