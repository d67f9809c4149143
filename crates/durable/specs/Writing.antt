-- A writer can be asked again.
use Rattle.std.proofs.Common.{ℕ, ◌+◌, Bool, true, false, List, length, subst, sym, ap, arith}
use Rattle.std.specs.Prelude.{◌≡◌, if◌then◌else◌}
use Rattle.table.specs.declared.rows.Change.{Change}
use Rattle.journal.specs.declared.entries.Entry.{Entry}
use Rattle.journal.specs.declared.journals.Journal.{Journal}
use Rattle.journal.specs.Journals.{Holds}
use Rattle.durable.specs.declared.batches.Batch.{Batch}
use Rattle.durable.specs.declared.writers.Writer.{Writer}
use Rattle.durable.specs.Batches.{AreWaiting, IsSameBatch, IsWaiting, entries_waiting}
use Rattle.durable.specs.Promise.{DidKeep, IsInOrder, IsOpenAt, IsReadyFor, IsSame, entries_in, entries_of}

-- the same wait
pub waiting_again : (old new : Batch) → IsSameBatch old new → IsWaiting old → IsWaiting new
waiting_again old new same waiting =
    subst (λ (l : List ℕ). AreWaiting new.durable new.newest l) (sym same.lines_are)
    (subst (λ (n : ℕ). AreWaiting new.durable n old.lines) (sym same.newest)
    (subst (λ (d : ℕ). AreWaiting d old.newest old.lines) (sym same.durable) waiting))

module _ {D : Type 0} (seen : D → List ℕ) (may_leave : D → List ℕ → Type 0) where
  -- a writer whose journal and whose batch are the same is in order
  pub in_order_again : (old new : Writer D) → IsSame old new → new.first ≡ old.first → IsInOrder seen may_leave old → IsInOrder seen may_leave new
  in_order_again old new same first in_order =
      let entries : entries_of seen new ≡ entries_of seen old = λ i. entries_in (first i) (seen (same.journal i).device) in
      let HoldsIn : ℕ → List Entry → Journal D → Type 0 = λ f es journal. Holds seen may_leave f es journal in
      record {
        holds =
            subst (λ es. HoldsIn new.first es new.journal) (sym entries)
            (subst (λ f. HoldsIn f (entries_of seen old) new.journal) (sym first)
            (subst (HoldsIn old.first (entries_of seen old)) (sym same.journal) in_order.holds));
        next = omega (arith, first, ap length entries, same.batch.durable, in_order.next);
        waiting = waiting_again old.batch new.batch same.batch in_order.waiting;
      }

module _ {D : Type 0} (seen : D → List ℕ) (may_leave : D → List ℕ → Type 0) (moment : D → ℕ)
    (left_since : D → ℕ → List ℕ → Type 0) where
  pub ready_again : (old new : Writer D) (number : ℕ) (changes : List Change) (kept : Bool)
      → IsReadyFor seen may_leave number old → DidKeep seen may_leave moment left_since old new number changes kept
      → IsReadyFor seen may_leave (if kept then number + 1 else number) new
  ready_again old new number changes true ready did = λ is_open. did.is_open
  ready_again old new number changes false ready did = λ is_open.
      let same = did.same is_open in
      let was = ready same.0 in
      record {
        in_order = in_order_again seen may_leave old new same.1 did.first was.in_order;
        next = omega (arith, was.next, same.1.batch.newest, did.last);
      }
