-- The rows of committed tables and live views fit their columns.
use Rattle.std.proofs.Common.{◌≡◌, ℕ, List, [], ◌∷◌, sym, subst}
use Rattle.std.specs.Prelude.{nat_le}
use Rattle.assertion.specs.Declarations.{Declared, layouts_in}
use Rattle.assertion.specs.Meaning.{State}
use Rattle.alone.specs.Alone.{run_on}
use Rattle.alone.proofs.Lists.{Each, each_filter}
use Rattle.delta.specs.Views.{IsFitting, ViewState}
use Rattle.alone.specs.declared.records.Record.{Record}
use Rattle.alone.specs.Epoch.{keys_of, newest, put_in, run_of, state_of}
use Rattle.alone.specs.Replay.{IsHistory, commits_in_snapshot}
use Rattle.txn.specs.Fitting.{RowsFit}
use Rattle.txn.proofs.Fitting.{fit_after_all, net_fit, run_fits}
use Rattle.commit.specs.Cores.{log_of}
use Rattle.commit.specs.Events.{EngineState}
use Rattle.commit.specs.Fitting.{AllFit, ShownFit}
use Rattle.commit.proofs.Running.{IsRunning, loaded_of}

module _ (declared : Declared) (start : State) (loaded : RowsFit (layouts_in declared) start) where
  -- the new rows of each commit's net change fit
  abbrev HaveFitting : List Record → Type 0
  HaveFitting log = Each (λ (r : Record). Each (IsFitting (layouts_in declared)) r.changes) log

  all_put : (log : List Record) → HaveFitting log → RowsFit (layouts_in declared) (newest declared start log)
  all_put [] e = loaded
  all_put (c ∷ earlier) e = fit_after_all (layouts_in declared) c.changes (newest declared start earlier) e.0 (all_put earlier e.1)

  held_fit : (number : ℕ) (log : List Record) → HaveFitting log → HaveFitting (commits_in_snapshot number log)
  held_fit number log e = each_filter (λ (r : Record). Each (IsFitting (layouts_in declared)) r.changes) (λ other. nat_le other.number number) log e

  changes_fit : (log : List Record) → IsHistory (put_in declared) start (run_of declared) (keys_of declared) log
      → HaveFitting log
  changes_fit [] h = tt
  changes_fit (c ∷ earlier) h =
      let rest = changes_fit earlier h.1 in
      let snapshot : State = newest declared start (commits_in_snapshot c.snapshot earlier) in (
        subst (Each (IsFitting (layouts_in declared))) h.0.changes
            (net_fit (layouts_in declared) snapshot (run_on declared c.trace snapshot).final.view (run_fits declared c.trace snapshot (all_put (commits_in_snapshot c.snapshot earlier) (held_fit c.snapshot earlier rest)))),
        rest,
      )

  pub state_fits : (log : List Record) → IsHistory (put_in declared) start (run_of declared) (keys_of declared) log → (number : ℕ) → RowsFit (layouts_in declared) (state_of declared start log number)
  state_fits log h number = all_put (commits_in_snapshot number log) (held_fit number log (changes_fit log h))

-- and so they do wherever a run comes to
pub all_fit : (loaded : ViewState) (now : EngineState) → IsRunning now → loaded_of now.core ≡ loaded → ShownFit loaded → AllFit now
all_fit loaded now running same fit =
    let committed = state_fits now.core.declared now.core.start (subst ShownFit (sym same) fit) (log_of now.core) running.commits.epoch.history in record {
      committed = committed;
      own = λ place t there.
          let live = running.live.each place t there in
          run_fits t.declared t.trace t.start
          (subst (λ (d : Declared). RowsFit (layouts_in d) t.start) (sym live.declared_is)
          (subst (RowsFit (layouts_in now.core.declared)) (sym live.start_is) (committed t.snapshot)));
    }
