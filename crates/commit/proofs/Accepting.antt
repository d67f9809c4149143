-- One commit more: what is kept at hand is again what the commits determine.
use Rattle.std.proofs.Common.{◌≡◌, ℕ, ◌+◌, ◌<◌, Bool, true, false, List, [], ◌∷◌, ◌++◌, None, length, refl, sym, ap, ◌∙◌, subst, arith}
use Rattle.std.specs.Prelude.{◌==◌, All, Contains}
use Rattle.std.proofs.lemmas.List.{length-append, length-map, map_push}
use Rattle.std.proofs.lemmas.List.Elements.{All-from_recursion}
use Rattle.std.proofs.lemmas.Bool.{eqb-false}
use Rattle.table.specs.declared.rows.Change.{Change}
use Rattle.table.specs.Rows.{names_of}
use Rattle.assertion.specs.Declarations.{Declared, layouts_in}
use Rattle.assertion.specs.Meaning.{State}
use Rattle.assertion.specs.Changes.{AreChangesOf, state_after_all}
use Rattle.siread.specs.Keys.{place_of}
use Rattle.alone.specs.Alone.{run_on}
use Rattle.alone.specs.States.{AreDue, AreInOrder, IsPut, IsState, net_change, row_in}
use Rattle.alone.proofs.Induction.{change_exact}
use Rattle.alone.proofs.Lists.{Each, each_at, each_from}
use Rattle.alone.proofs.Nets.{net_exact, net_puts, put_net}
use Rattle.alone.proofs.Orders.{due_changes, net_in_order}
use Rattle.delta.specs.Views.{ViewState}
use Rattle.alone.specs.declared.records.Record.{Record}
use Rattle.alone.specs.Answer.{IsAnswer, Number}
use Rattle.alone.specs.Commits.{HasNoWriteConflict, reach}
use Rattle.alone.specs.Epoch.{IsEpoch, newest, state_of}
use Rattle.alone.specs.Order.{least_out, put_by, rank, serial_order}
use Rattle.alone.proofs.Changes.{share_row-at}
use Rattle.alone.proofs.Kept.{places_more}
use Rattle.alone.proofs.Newest.{newest_fits, unwritten}
use Rattle.alone.proofs.Ranks.{log_falls, order_step}
use Rattle.alone.proofs.Semantics.{history_nets}
use Rattle.conflict.specs.Ordered.{numbers_of}
use Rattle.txn.specs.Transactions.{OpenTransaction, transaction_at_begin, outcome_of, own_view}
use Rattle.commit.specs.Cores.{CoreState, IsLive, core_after_commit, log_of, newest_tables, record_of, with_begun, with_commit}
use Rattle.commit.proofs.BeginNumbers.{fewer}
use Rattle.commit.proofs.Recording.{begin_live, changes_are, epoch_next, log_with, newest_at}
use Rattle.commit.specs.Kept.{IsCore}

module _ (now : CoreState) (tables : ViewState) (places reaches order : List ℕ) (core : IsCore now tables places reaches order) where
  abbrev records : List Record
  records = now.records

  abbrev log : List Record
  log = log_of now

  -- a transaction that begins
  pub begun_live : (read_only : Bool) → IsLive (with_begun read_only now) (transaction_at_begin now.live.begun (length records) read_only tables)
  begun_live read_only =
      subst (λ (s : ViewState). IsLive (with_begun read_only now) (transaction_at_begin now.live.begun (length records) read_only s)) (sym core.newest_is) (begin_live now core.epoch.accepted read_only)

  module _ (session : List ℕ) (t : OpenTransaction) (live : IsLive now t) where
    abbrev commit : Record
    commit = record_of now session t

    abbrev at_start : State
    at_start = state_of now.declared now.start log t.snapshot

    changes_is : commit.changes ≡ net_change (layouts_in now.declared) at_start (run_on now.declared t.trace at_start).final.view
    changes_is = changes_are now session t live

    -- its changes are of tables that there are
    pub tables_in : All (λ (change : Change). change.table < length (names_of now.declared.tables)) commit.changes
    tables_in =
        let P : Change → Type 0 = λ change. change.table < length (names_of now.declared.tables) in
        All-from_recursion P commit.changes (each_from P commit.changes (λ change m.
        let within = (net_exact (layouts_in now.declared) at_start (run_on now.declared t.trace at_start).final.view change (subst (λ cs. Contains cs change) changes_is m)).1 in
        let names = length-map now.declared.tables (λ p. p.0) in
        let layouts = length-map now.declared.tables (λ p. p.1) in
        omega arith))

    -- its net change may be put into the newest tables
    module _ (free : HasNoWriteConflict log commit) where
      due : AreDue (layouts_in now.declared) commit.changes tables.state
      due =
          let final : State = (run_on now.declared t.trace at_start).final.view in
          record {
            in_order = subst AreInOrder (sym changes_is) (net_in_order (layouts_in now.declared) at_start final);
            exact = λ change m.
                ap (λ (s : ViewState). row_in (layouts_in now.declared) s.state (place_of change)) core.newest_is
                ∙ unwritten now.declared now.start core.epoch.admitted.fit log (history_nets now.declared now.start log core.epoch.history) (log_falls log core.epoch.accepted) t.snapshot (place_of change)
                (λ other d listed later md same. free other listed (record { after_snapshot = later; common = share_row-at commit.changes other.changes (place_of change) change d m refl md same }))
                ∙ change_exact now.declared t.trace at_start change (subst (λ cs. Contains cs change) changes_is m);
            puts = each_at (IsPut (layouts_in now.declared)) commit.changes
                (subst (Each (IsPut (layouts_in now.declared))) (sym changes_is) (net_puts (layouts_in now.declared) at_start final));
          }

      pub puts : AreChangesOf (layouts_in tables.declared) commit.changes tables.state
      puts = subst (λ (d : Declared). AreChangesOf (layouts_in d) commit.changes tables.state) (sym (ap (λ (s : ViewState). s.declared) core.newest_is))
          (due_changes (layouts_in now.declared) tables.state
          (subst (λ (s : ViewState). IsState (layouts_in now.declared) s.state) (sym core.newest_is) (newest_fits now.declared now.start core.epoch.admitted.fit log (history_nets now.declared now.start log core.epoch.history)))
          commit.changes due)

    -- put in, it gives the newest tables
    pub put_is : record { declared = tables.declared; state = state_after_all (layouts_in tables.declared) commit.changes tables.state } ≡ newest_tables (with_commit now commit)
    put_is =
        (λ i. record { declared = (core.newest_is i).declared; state = state_after_all (layouts_in (core.newest_is i).declared) commit.changes (core.newest_is i).state })
        ∙ ap (λ log. record { declared = now.declared; state = newest now.declared now.start log }) (sym (log_with records commit))

    -- where its snapshot is of the newest tables, they are its own view
    pub own_is : t.snapshot ≡ length records → IsState (layouts_in t.declared) (own_view t).state → own_view t ≡ newest_tables (with_commit now commit)
    own_is last fit =
        let at_newest : at_start ≡ newest now.declared now.start log = ap (state_of now.declared now.start log) last ∙ newest_at now core.epoch.accepted in
        let start_fits : IsState (layouts_in now.declared) at_start = subst (IsState (layouts_in now.declared)) (sym at_newest)
        (newest_fits now.declared now.start core.epoch.admitted.fit log (history_nets now.declared now.start log core.epoch.history)) in
        let same : own_view t ≡ record { declared = now.declared; state = (run_on now.declared t.trace at_start).final.view }
        = λ i. record { declared = live.declared_is i; state = (run_on (live.declared_is i) t.trace (live.start_is i)).final.view } in
        let fits : IsState (layouts_in now.declared) (run_on now.declared t.trace at_start).final.view
        = subst (λ (s : ViewState). IsState (layouts_in s.declared) s.state) same fit in
        same
        ∙ ap (λ state. record { declared = now.declared; state = state })
        (sym (put_net (layouts_in now.declared) at_start _ start_fits fits)
        ∙ ap (λ cs. state_after_all (layouts_in now.declared) cs at_start) (sym changes_is)
        ∙ ap (state_after_all (layouts_in now.declared) commit.changes) at_newest)
        ∙ ap (λ log. record { declared = now.declared; state = newest now.declared now.start log }) (sym (log_with records commit))

    -- after it
    pub core_next : (view : ViewState) (place : ℕ) (after : List ℕ) → (outcome_of t).refused ≡ None → (length records == now.limit) ≡ false
        → IsAnswer log commit (Number (length records + 1)) → view ≡ newest_tables (with_commit now commit)
        → (t.read_only ≡ true → (outcome_of t).changes ≡ []) → place ≡ least_out log commit → after ≡ numbers_of (put_by (rank log) commit (serial_order log))
        → IsCore (core_after_commit now session t) view (places ++ place ∷ []) (reaches ++ reach commit ∷ []) after
    core_next view place after none room answer is changes_nothing there put =
        let next = epoch_next now session t live core.epoch answer none changes_nothing in record {
          epoch = subst (IsEpoch now.declared now.start) (sym (log_with records commit)) next;
          newest_is = is;
          places_are =
              ap (λ p. places ++ p ∷ []) there
              ∙ ap (λ ps. ps ++ least_out log commit ∷ []) core.places_are
              ∙ places_more records commit next.accepted;
          reaches_are = ap (λ (rs : List ℕ). rs ++ reach commit ∷ []) core.reaches_are ∙ sym (map_push reach records commit);
          order_is =
              put
              ∙ ap numbers_of (sym (order_step commit log next.accepted))
              ∙ ap (λ log. numbers_of (serial_order log)) (sym (log_with records commit));
          within = (let within = core.within in let long = length-append records (commit ∷ []) in let other = eqb-false _ _ room in omega arith);
          small = core.small;
          begin_numbers = fewer now.live t.begin_number core.begin_numbers;
        }
