-- Transactions alone are a semantics as the replay theorem asks for, states are a store, and the net changes of a history may be
-- put in.
use Rattle.std.proofs.Common.{List, [], ◌∷◌, subst}
use Rattle.table.specs.declared.rows.Change.{Change}
use Rattle.assertion.specs.Meaning.{State}
use Rattle.alone.specs.States.{row_in, IsState, IsPut}
use Rattle.assertion.specs.Declarations.{Declared, layouts_in}
use Rattle.alone.specs.Alone.{run_on, IsSound}
use Rattle.alone.proofs.Lists.{Each}
use Rattle.alone.proofs.Stores.{row_in-put, all_fit, same_states}
use Rattle.alone.proofs.Nets.{net_puts}
use Rattle.alone.proofs.Induction.{outcome_same, leaves_sound, change_exact}
use Rattle.alone.specs.declared.records.Record.{Record}
use Rattle.alone.specs.Replay.{commits_in_snapshot, state_after, IsSemantics, IsHistory}
use Rattle.alone.specs.Epoch.{put_in, run_of, keys_of}
use Rattle.alone.proofs.Replays.{IsStore, HaveNets}

abbrev pub AreNets : Declared → List Change → Type 0
AreNets declared changes = Each (IsPut (layouts_in declared)) changes

pub states_are_store : (declared : Declared) → IsStore State (put_in declared) (row_in (layouts_in declared)) (IsState (layouts_in declared)) (AreNets declared)
states_are_store declared = record {
  look_put = λ state changes place f n. row_in-put (layouts_in declared) changes state place f n;
  fit = λ state changes f n. all_fit (layouts_in declared) changes state f n;
  same = λ one other f g h. same_states (layouts_in declared) one other f g h;
}

pub transactions_are_semantics : (declared : Declared)
    → IsSemantics State (put_in declared) (row_in (layouts_in declared)) (run_of declared) (keys_of declared) (IsSound declared)
transactions_are_semantics declared = record {
  exact = λ r state change m. change_exact declared r.trace state change m;
  keeps = λ r state sound accepted. leaves_sound declared r.trace state sound accepted;
  agreement = λ r state other sound sound' accepted under. outcome_same declared state other sound sound' r.trace under;
}

-- the net changes of a history may be put in, whatever the states
pub history_nets : (declared : Declared) (start : State) (log : List Record)
    → IsHistory (put_in declared) start (run_of declared) (keys_of declared) log → HaveNets (AreNets declared) log
history_nets declared start [] h = tt
history_nets declared start (c ∷ log) h =
    let snapshot : State = state_after (put_in declared) start (commits_in_snapshot c.snapshot log) in (
      subst (AreNets declared) (h.0.changes) (net_puts (layouts_in declared) snapshot (run_on declared c.trace snapshot).final.view),
      history_nets declared start log h.1,
    )
