-- A transaction as the record that it would be, over the tables of its snapshot.
use Rattle.std.proofs.Common.{◌≡◌, Bool, true, ℕ, suc, ◌+◌, ◌<◌, ◌≤◌, List, [], ◌∷◌, ◌++◌, None, length, reverse, sym, ap, ◌∙◌, subst, arith}
use Rattle.std.specs.Prelude.{Contains}
use Rattle.std.proofs.lemmas.List.{length-reverse, reverse-append}
use Rattle.assertion.specs.Declarations.{layouts_in}
use Rattle.assertion.specs.Meaning.{State}
use Rattle.alone.specs.Alone.{Outcome, run_on, transaction, transaction_keys}
use Rattle.alone.specs.States.{net_change}
use Rattle.alone.proofs.KeyLists.{among_from}
use Rattle.alone.proofs.Lists.{Each, each_weaker}
use Rattle.alone.specs.declared.records.Record.{Record}
use Rattle.alone.specs.Answer.{IsAnswer, Number}
use Rattle.alone.specs.Commits.{IsLog}
use Rattle.alone.specs.Epoch.{IsEpoch, keys_of, newest, run_of, state_of}
use Rattle.alone.specs.Replay.{IsRecorded}
use Rattle.alone.proofs.Ranks.{numbers_below}
use Rattle.alone.proofs.Replays.{held_all}
use Rattle.txn.specs.Transactions.{OpenTransaction, transaction_at_begin, keys_of as all_read, outcome_of}
use Rattle.commit.specs.Cores.{CoreState, IsLive, log_of, newest_tables, record_of, with_begun}
use Rattle.commit.proofs.BeginNumbers.{held_last}

pub log_with : (records : List Record) (commit : Record) → reverse (records ++ commit ∷ []) ≡ commit ∷ reverse records
log_with records commit = reverse-append records (commit ∷ [])

module _ (now : CoreState) (accepted : IsLog (log_of now)) where
  pub below : Each (λ w. w.number < length now.records + 1) (log_of now)
  below =
      let long = length-reverse now.records in
      each_weaker (λ w. w.number < suc (length (log_of now))) (λ w. w.number < length now.records + 1) (λ w l. omega arith) (log_of now) (numbers_below (log_of now) accepted)

  -- the tables after all commits are those after their number
  pub newest_at : state_of now.declared now.start (log_of now) (length now.records) ≡ newest now.declared now.start (log_of now)
  newest_at = ap (newest now.declared now.start) (held_all (length now.records) (log_of now) (each_weaker (λ w. w.number < length now.records + 1) (λ w. w.number ≤ length now.records) (λ w l. omega arith) (log_of now) below))

  -- a transaction that begins
  pub begin_live : (read_only : Bool) → IsLive (with_begun read_only now) (transaction_at_begin now.live.begun (length now.records) read_only (newest_tables now))
  begin_live read_only = record {
    held = held_last now.live (length now.records) read_only;
    declared_is = λ i. now.declared;
    within = omega arith;
    start_is = sym newest_at;
  }

module _ (now : CoreState) (session : List ℕ) (t : OpenTransaction) (live : IsLive now t) where
  abbrev pub snapshot_tables : State
  snapshot_tables = state_of now.declared now.start (log_of now) t.snapshot

  pub outcome_is : outcome_of t ≡ transaction now.declared t.trace snapshot_tables
  outcome_is = λ i. transaction (live.declared_is i) t.trace (live.start_is i)

  reads_are : all_read t ≡ transaction_keys now.declared t.trace snapshot_tables
  reads_are = λ i. transaction_keys (live.declared_is i) t.trace (live.start_is i)

  pub changes_are : (record_of now session t).changes ≡ net_change (layouts_in now.declared) snapshot_tables (run_on now.declared t.trace snapshot_tables).final.view
  changes_are = ap (λ (o : Outcome). o.changes) outcome_is

  recorded : (outcome_of t).refused ≡ None → IsRecorded snapshot_tables (run_of now.declared) (keys_of now.declared) (record_of now session t)
  recorded none = record {
    accepted = sym (ap (λ (o : Outcome). o.refused) outcome_is) ∙ none;
    changes = sym changes_are;
    reads = among_from (transaction_keys now.declared t.trace snapshot_tables) (all_read t) (λ key m. subst (λ ks. Contains ks key) (sym reads_are) m);
    reads_no_more = among_from (all_read t) (transaction_keys now.declared t.trace snapshot_tables) (λ key m. subst (λ ks. Contains ks key) reads_are m);
  }

  pub epoch_next : IsEpoch now.declared now.start (log_of now) → IsAnswer (log_of now) (record_of now session t) (Number (length now.records + 1)) → (outcome_of t).refused ≡ None
      → (t.read_only ≡ true → (outcome_of t).changes ≡ []) → IsEpoch now.declared now.start (record_of now session t ∷ log_of now)
  epoch_next epoch answer none changes_nothing = record {
    admitted = epoch.admitted;
    accepted = (
      record {
        numbered = (let long = length-reverse now.records in omega arith);
        after_snapshot = (let within = live.within in omega arith);
        no_write_conflict = answer.1;
        no_danger = answer.2;
        changes_nothing = changes_nothing;
      },
      epoch.accepted,
    );
    history = (recorded none, epoch.history);
  }
