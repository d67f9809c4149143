-- A writer before and after what it does.
use Rattle.std.proofs.Common.{◌≡◌, ◌+◌, ℕ, Bool, true, false, List, [], ◌∷◌, ◌++◌, length, refl, sym, ap, ◌∙◌, subst, arith, append_assoc, length-append}
use Rattle.std.proofs.lemmas.Bool.{false≢true}
use Rattle.std.proofs.lemmas.List.{append-nil}
use Rattle.table.specs.declared.rows.Change.{Change}
use Rattle.journal.specs.declared.entries.Entry.{Entry}
use Rattle.journal.specs.declared.journals.Journal.{Journal}
use Rattle.journal.specs.Device.{LeavesOnly}
use Rattle.journal.specs.Journals.{Holds, IsBetween}
use Rattle.journal.proofs.Moments.{started}
use Rattle.journal.proofs.Settled.{unchanged}
use Rattle.durable.specs.declared.batches.Batch.{Batch}
use Rattle.durable.specs.declared.writers.Writer.{Writer}
use Rattle.durable.specs.Batches.{AreWaiting, HasAdded, IsWaiting, entries_behind, entries_or_none, entries_waiting, entry_behind}
use Rattle.durable.specs.Promise.{HasFlushed, HasKept, IsInOrder, IsOpenAt, IsReadyFor, LeavesAtMost, entries_in, entries_kept, entries_of}
use Rattle.durable.proofs.Waiting.{none_waiting}

module _ {D : Type 0} (seen : D → List ℕ) (may_leave : D → List ℕ → Type 0) where
  abbrev HoldsIn : (first : ℕ) → List Entry → Journal D → Type 0
  HoldsIn first es journal = Holds seen may_leave first es journal

  -- what waited was appended, and none waits
  pub flushed : (old new : Writer D) → IsInOrder seen may_leave old → new.first ≡ old.first
      → Holds seen may_leave old.first (entries_in old.first (seen old.journal.device) ++ entries_behind old.batch.durable old.batch.lines) new.journal
      → new.batch.durable ≡ old.batch.newest → new.batch.newest ≡ old.batch.newest → new.batch.lines ≡ [] → HasFlushed seen may_leave old new
  flushed old new in_order first holds durable newest none =
      let entries : entries_of seen new ≡ entries_kept seen old = ap (λ (f : ℕ). entries_in f (seen new.journal.device)) first ∙ ap entries_or_none holds.says.entries in
      let long = length-append (entries_of seen old) (entries_waiting old.batch) in
      record {
        entries = entries;
        none = ap (entries_behind new.batch.durable) none;
        newest = newest;
        in_order = record {
          holds =
              subst (λ (es : List Entry). HoldsIn new.first es new.journal) (sym entries)
              (subst (λ (f : ℕ). HoldsIn f (entries_kept seen old) new.journal) (sym first) holds);
          next = omega (arith, first, durable, in_order.next, in_order.waiting.newest_is, ap length entries, long);
          waiting =
              subst (λ (l : List ℕ). AreWaiting new.batch.durable new.batch.newest l) (sym none)
              (subst (λ (n : ℕ). AreWaiting new.batch.durable n []) (durable ∙ sym newest) (none_waiting new.batch.durable));
        };
      }

  -- nothing waits
  pub none_to_flush : (w : Writer D) → IsInOrder seen may_leave w → w.batch.lines ≡ [] → HasFlushed seen may_leave w w
  none_to_flush w in_order none =
      let waiting : entries_waiting w.batch ≡ [] = ap (entries_behind w.batch.durable) none in
      record {
        entries = sym (append-nil (entries_of seen w)) ∙ ap (λ (es : List Entry). entries_of seen w ++ es) (sym waiting);
        none = waiting;
        newest = refl;
        in_order = in_order;
      }

  -- commits may wait from now on
  pub shared : (w : Writer D) (number : ℕ) → IsReadyFor seen may_leave number w → IsReadyFor seen may_leave number (record w { is_sharing = true })
  shared w number ready = λ now.
      let at = ready now in
      record { in_order = record { holds = at.in_order.holds; next = at.in_order.next; waiting = at.in_order.waiting }; next = at.next }

  -- the commits of a new epoch are counted from 1 again
  pub counted_anew : (w : Writer D) (number : ℕ) → IsReadyFor seen may_leave number w → IsReadyFor seen may_leave 1 (record w { last = w.batch.newest })
  counted_anew w number ready = λ now.
      let at = ready now in
      record { in_order = record { holds = at.in_order.holds; next = at.in_order.next; waiting = at.in_order.waiting }; next = refl }

  -- the journal goes on in another file, with one entry, that of the newest commit
  pub moved : (w : Writer D) (journal : Journal D) (number : ℕ) (es : List Entry) → entries_waiting w.batch ≡ [] → IsReadyFor seen may_leave number w
      → Holds seen may_leave w.batch.newest es journal → length es ≡ 1
      → IsReadyFor seen may_leave number (record w { journal = journal; first = w.batch.newest })
  moved w journal number es none ready holds one = λ now.
      let at = ready now in
      let said : entries_in w.batch.newest (seen journal.device) ≡ es = ap entries_or_none holds.says.entries in
      record {
        in_order = record {
          holds = subst (λ (fs : List Entry). HoldsIn w.batch.newest fs journal) (sym said) holds;
          next = omega (arith, ap length said, one, at.in_order.waiting.newest_is, ap length none);
          waiting = at.in_order.waiting;
        };
        next = at.next;
      }

  -- one more waits
  pub in_order_added : (old : Writer D) (more : Batch) (changes : List Change) → IsInOrder seen may_leave old → HasAdded old.batch more changes → IsInOrder seen may_leave (record old { batch = more })
  in_order_added old more changes in_order added = record {
    holds = in_order.holds;
    next = omega (arith, in_order.next, added.durable);
    waiting = added.waiting;
  }

module _ {D : Type 0} (seen : D → List ℕ) (may_leave : D → List ℕ → Type 0) (moment : D → ℕ)
    (left_since : D → ℕ → List ℕ → Type 0) where
  -- nothing was done to the file
  pub untouched : (w : Writer D) (entry : Entry) → IsInOrder seen may_leave w → ((c : List ℕ) → left_since w.journal.device (moment w.journal.device) c → may_leave w.journal.device c)
      → LeavesAtMost seen may_leave moment left_since w w entry
  untouched w entry in_order only_now =
      let says = in_order.holds.says in
      started moment left_since w.journal.device _ (λ c left.
      subst (IsBetween w.first (entries_of seen w) (entries_waiting w.batch ++ entry ∷ [])) (sym (says.durable c (only_now c left)))
      (unchanged w.first (entries_of seen w) (entries_waiting w.batch ++ entry ∷ []) (seen w.journal.device) says.entries))

  -- what was flushed has one entry more than what waited before
  pub flushed_more : (old : Writer D) (more : Batch) (changes : List Change) (device : D) → HasAdded old.batch more changes
      → LeavesOnly moment left_since old.journal.device device (IsBetween old.first (entries_of seen old) (entries_waiting more))
      → LeavesOnly moment left_since old.journal.device device (IsBetween old.first (entries_of seen old) (entries_waiting old.batch ++ entry_behind old.batch changes ∷ []))
  flushed_more old more changes device added moments =
      subst (λ (es : List Entry). LeavesOnly moment left_since old.journal.device device (IsBetween old.first (entries_of seen old) es)) added.entries moments

  -- a commit waits
  pub kept_waiting : (old : Writer D) (more : Batch) (number : ℕ) (changes : List Change) → old.is_shut ≡ false → IsOpenAt seen may_leave number old → old.is_sharing ≡ true
      → HasAdded old.batch more changes → LeavesAtMost seen may_leave moment left_since old old (entry_behind old.batch changes)
      → HasKept seen may_leave moment left_since old (record old { batch = more }) number changes
  kept_waiting old more number changes was_open at sharing added moments = record {
    was_open = was_open;
    entries = ap (λ (es : List Entry). entries_of seen old ++ es) added.entries ∙ sym (append_assoc (entries_of seen old) (entries_waiting old.batch) (entry_behind old.batch changes ∷ []));
    at_once = λ alone. absurd (false≢true (sym alone ∙ sharing));
    first = refl;
    last = refl;
    is_open = record { in_order = in_order_added seen may_leave old more changes at.in_order added; next = omega (arith, at.next, added.newest) };
    moments = record { later = moments.later; each = moments.each; before = moments.before };
  }

  -- a commit is on the disk, with all that waited
  pub kept_at_once : (old new : Writer D) (more : Batch) (number : ℕ) (changes : List Change) → old.is_shut ≡ false → IsOpenAt seen may_leave number old
      → HasAdded old.batch more changes → HasFlushed seen may_leave (record old { batch = more }) new → new.first ≡ old.first → new.last ≡ old.last
      → LeavesOnly moment left_since old.journal.device new.journal.device (IsBetween old.first (entries_of seen old) (entries_waiting more))
      → HasKept seen may_leave moment left_since old new number changes
  kept_at_once old new more number changes was_open at added flush first last moments = record {
    was_open = was_open;
    entries =
        (λ i. flush.entries i ++ flush.none i) ∙ append-nil (entries_of seen old ++ entries_waiting more)
        ∙ ap (λ (es : List Entry). entries_of seen old ++ es) added.entries ∙ sym (append_assoc (entries_of seen old) (entries_waiting old.batch) (entry_behind old.batch changes ∷ []));
    at_once = λ alone. flush.none;
    first = first;
    last = last;
    is_open = record { in_order = flush.in_order; next = omega (arith, at.next, added.newest, flush.newest, last) };
    moments = flushed_more old more changes new.journal.device added moments;
  }
