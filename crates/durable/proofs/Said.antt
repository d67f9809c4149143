-- What a journal says goes on as its ledger answers.
use Rattle.std.proofs.Common.{◌≡◌, ◌+◌, ◌++◌, ◌∷◌, ℕ, true, false, List, [], Result, Ok, Err, length, ap, refl, subst, sym, arith, ◌∙◌}
use Rattle.std.specs.Prelude.{OnErr, OnOk}
use Rattle.std.proofs.lemmas.Bool.{false≢true}
use Rattle.std.proofs.lemmas.List.{append_assoc, append-nil, length-append}
use Rattle.alone.specs.declared.answers.Answer.{Answer}
use Rattle.alone.specs.declared.answers.Answer.TheVariants.{Begun, Committed, Refused, Replied, RolledBack}
use Rattle.alone.specs.declared.records.Record.{Record}
use Rattle.meaning.specs.Laws.{Pairs}
use Rattle.commit.specs.declared.keepers.Unanswered.{Unanswered}
use Rattle.commit.specs.declared.keepers.Unanswered.TheVariants as unanswered
use Rattle.commit.specs.Keepers.{IsAskedFor}
use Rattle.journal.specs.declared.entries.Entry.{Entry}
use Rattle.durable.specs.declared.writers.Writer.{Writer}
use Rattle.durable.specs.declared.batches.Batch.{Batch}
use Rattle.durable.specs.Batches.{IsSameBatch, entries_behind, entries_waiting, entry_behind}
use Rattle.durable.specs.Promise.{DidKeep, HasFlushed, IsInOrder, IsOpenAt, IsReadyFor, IsSame, SaysBehind, entries_in, entries_kept, entries_of}
use Rattle.durable.specs.Restoring.{IsOf}
use Rattle.durable.specs.Writing.{ready_again}

one_more : (records : List Record) (entries : List Entry) (record_more : Record) (entry : Entry) → Pairs IsOf records entries → IsOf record_more entry
    → Pairs IsOf (records ++ record_more ∷ []) (entries ++ entry ∷ [])
one_more [] [] r e pairs is = (is, tt)
one_more [] (x ∷ entries) r e pairs is = absurd pairs
one_more (x ∷ records) [] r e pairs is = absurd pairs
one_more (x ∷ records) (y ∷ entries) r e pairs is = (pairs.0, one_more records entries r e pairs.1 is)

module _ {D : Type 0} (seen : D → List ℕ) (may_leave : D → List ℕ → Type 0) (moment : D → ℕ)
    (left_since : D → ℕ → List ℕ → Type 0) (before : List Entry) where
  abbrev Says : List Record → Writer D → Type 0
  Says records w = SaysBehind seen before records w

  same : (old new : Writer D) (records after : List Record) → new ≡ old → after ≡ records → Says records old → Says after new
  same old new records after w r says = subst (λ rs. Says rs new) (sym r) (subst (Says records) (sym w) says)

  same_waiting : (a b : Batch) → IsSameBatch a b → entries_waiting b ≡ entries_waiting a
  same_waiting a b is = λ i. entries_behind (is.durable i) (is.lines_are i)

  same_kept : (old new : Writer D) → new.first ≡ old.first → IsSame old new → entries_kept seen new ≡ entries_kept seen old
  same_kept old new first is =
      let on_disk : entries_of seen new ≡ entries_of seen old = λ i. entries_in (first i) (seen (is.journal i).device) in
      let waiting = same_waiting old.batch new.batch is.batch in
      λ i. on_disk i ++ waiting i

  pub says_behind : (old new : Writer D) (records after : List Record) (result : Result Answer Unanswered)
      → IsAskedFor (DidKeep seen may_leave moment left_since) old new records after result
      → Says records old → new.is_shut ≡ false → Says after new
  says_behind old new records after (Ok (Begun n)) asked says is_open = same old new records after asked.0 asked.1 says
  says_behind old new records after (Ok (Replied reply)) asked says is_open = same old new records after asked.0 asked.1 says
  says_behind old new records after (Ok RolledBack) asked says is_open = same old new records after asked.0 asked.1 says
  says_behind old new records after (Ok (Refused refusal)) asked says is_open = same old new records after asked.0 asked.1 says
  says_behind old new records after (Ok (Committed n)) asked says is_open =
      let entry = entry_behind old.batch asked.commit.changes in
      record {
        commits = says.commits ++ entry ∷ [];
        are = asked.kept.entries ∙ ap (λ es. es ++ entry ∷ []) says.are ∙ append_assoc before says.commits (entry ∷ []);
        kept = subst (λ rs. Pairs IsOf rs (says.commits ++ entry ∷ [])) (sym asked.after_is) (one_more records says.commits asked.commit entry says.kept refl);
      }
  says_behind old new records after (Err unanswered.NoMemory) asked says is_open = same old new records after asked.0 asked.1 says
  says_behind old new records after (Err unanswered.NotKept) asked says is_open =
      let kept = asked.0.asked in
      let untouched = kept.same is_open in
      subst (λ rs. Says rs new) (sym asked.1) (record {
        commits = says.commits;
        are = same_kept old new kept.first untouched.1 ∙ says.are;
        kept = says.kept;
      })

module _ {D : Type 0} (seen : D → List ℕ) (may_leave : D → List ℕ → Type 0) (moment : D → ℕ)
    (left_since : D → ℕ → List ℕ → Type 0) where
  abbrev Ready : List Record → Writer D → Type 0
  Ready records w = IsReadyFor seen may_leave (length records + 1) w

  -- what waited was synced
  pub ready_synced : (old new : Writer D) (number : ℕ) → HasFlushed seen may_leave old new → new.last ≡ old.last → IsOpenAt seen may_leave number old → IsOpenAt seen may_leave number new
  ready_synced old new number flush last at = record { in_order = flush.in_order; next = omega (arith, at.next, flush.newest, last) }

  pub ready_after_sync : {A E : Type 0} (r : Result A E) (old new : Writer D) (number : ℕ) → IsReadyFor seen may_leave number old
      → OnOk r (HasFlushed seen may_leave old new) → OnOk r (old.is_shut ≡ false) → OnErr r (new.is_shut ≡ true) → new.last ≡ old.last → IsReadyFor seen may_leave number new
  ready_after_sync (Ok x) old new number ready flush was_open shut last = λ now. ready_synced old new number flush last (ready was_open)
  ready_after_sync (Err e) old new number ready flush was_open shut last = λ now. absurd (false≢true (sym now ∙ shut))

  pub says_synced : (old new : Writer D) (before : List Entry) (records : List Record) → HasFlushed seen may_leave old new → SaysBehind seen before records old → SaysBehind seen before records new
  says_synced old new before records flush says = record {
    commits = says.commits;
    are = (λ i. flush.entries i ++ flush.none i) ∙ append-nil (entries_kept seen old) ∙ says.are;
    kept = says.kept;
  }

  as_before : (old new : Writer D) (records after : List Record) → new ≡ old → after ≡ records → Ready records old → Ready after new
  as_before old new records after w r ready = subst (λ rs. Ready rs new) (sym r) (subst (Ready records) (sym w) ready)

  -- a ledger can be asked for the next commit
  pub ready_after : (old new : Writer D) (records after : List Record) (result : Result Answer Unanswered)
      → IsAskedFor (DidKeep seen may_leave moment left_since) old new records after result → Ready records old → Ready after new
  ready_after old new records after (Ok (Begun n)) asked ready = as_before old new records after asked.0 asked.1 ready
  ready_after old new records after (Ok (Replied reply)) asked ready = as_before old new records after asked.0 asked.1 ready
  ready_after old new records after (Ok RolledBack) asked ready = as_before old new records after asked.0 asked.1 ready
  ready_after old new records after (Ok (Refused refusal)) asked ready = as_before old new records after asked.0 asked.1 ready
  ready_after old new records after (Ok (Committed n)) asked ready = λ is_open.
      subst (λ count. IsOpenAt seen may_leave (count + 1) new)
      (sym (ap length asked.after_is ∙ length-append records (asked.commit ∷ []))) asked.kept.is_open
  ready_after old new records after (Err unanswered.NoMemory) asked ready = as_before old new records after asked.0 asked.1 ready
  ready_after old new records after (Err unanswered.NotKept) asked ready =
      subst (λ rs. Ready rs new) (sym asked.1)
      (ready_again seen may_leave moment left_since old new (length records + 1) asked.0.changes false ready asked.0.asked)
