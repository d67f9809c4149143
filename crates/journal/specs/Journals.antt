-- A journal on a device, and what it promises.
use Rattle.std.specs.Prelude.{◌≡◌, ℕ, ◌≤◌, List, ◌++◌, length, take, Some}
use Rattle.journal.specs.declared.entries.Entry.{Entry}
use Rattle.journal.specs.declared.journals.Journal.{Journal}
use Rattle.journal.specs.Tails.{fed, lines_of, tail_of, zeros}
use Rattle.journal.specs.Recovery.{said}
use Rattle.journal.specs.Device.{Only}

-- the file says these entries, as it is read after a crash, and all of it is on the disk
pub record Says {D : Type 0} (seen : D → List ℕ) (may_leave : D → List ℕ → Type 0) (first : ℕ) (es : List Entry)
    (journal : Journal D) : Type 0 where
  pub entries : said first (seen journal.device) ≡ Some es
  pub end : journal.end ≡ length (fed (lines_of (seen journal.device)))
  pub room : journal.room ≡ length (tail_of (seen journal.device))
  pub durable : Only (seen journal.device) (may_leave journal.device)

-- and behind the lines stand zeros, over which lines may be written
pub record Holds {D : Type 0} (seen : D → List ℕ) (may_leave : D → List ℕ → Type 0) (first : ℕ) (es : List Entry)
    (journal : Journal D) : Type 0 where
  pub says : Says seen may_leave first es journal
  pub blank : tail_of (seen journal.device) ≡ zeros journal.room

-- a journal's first number, the commits that it has, and those that are appended in one batch
pub record Told : Type 0 where
  pub first : ℕ
  pub entries : List Entry
  pub batch : List Entry

-- the file says these entries and the first few of the others, each whole, in their order
abbrev pub IsBetween : (first : ℕ) → (es batch : List Entry) → (file : List ℕ) → Type 0
IsBetween first es batch file =
    (count : ℕ) × (count ≤ length batch) × (said first file ≡ Some (es ++ take count batch))
