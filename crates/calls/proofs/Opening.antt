-- A database on a journal.
use Rattle.std.proofs.Common.{◌≡◌, List, ℕ, subst, sym}
use Rattle.std.specs.Prelude.{true}
use Rattle.delta.specs.Views.{ViewState}
use Rattle.journal_file.specs.declared.files.JournalFile.{JournalFile}
use Rattle.journal_file.specs.Files.{file_bytes, file_may_leave}
use Rattle.durable.specs.declared.ledgers.Ledger.{Ledger}
use Rattle.durable.proofs.Flushing.{shared}
use Rattle.calls.specs.Journals.{IsOpenedBehind}

-- a ledger that was opened lets its commits share syncs
pub opened_shared : (file : List ℕ) (base first : ℕ) (declared : ViewState) (limit : ℕ) (ledger new : Ledger (JournalFile (List ℕ)))
    → new ≡ record ledger { writer = record ledger.writer { is_sharing = true } } → IsOpenedBehind file base first declared limit ledger.engine ledger.writer
    → IsOpenedBehind file base first declared limit new.engine new.writer
opened_shared file base first declared limit ledger new is opened =
    subst (λ (l : Ledger (JournalFile (List ℕ))). IsOpenedBehind file base first declared limit l.engine l.writer) (sym is)
    (record { begun = opened.begun; says = opened.says; still_open = opened.still_open; ready = shared file_bytes file_may_leave ledger.writer 1 opened.ready })
