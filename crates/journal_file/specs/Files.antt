-- A journal's file, as contracts see it.
use Rattle.std.specs.Prelude.{ℕ, List, [], length}
use Rattle.journal.specs.Device.{Only}
use Rattle.journal_file.specs.declared.files.JournalFile.{JournalFile}
use Rattle.journal_file.specs.Calls as calls

-- what a read returns, from the base on
abbrev pub file_bytes : {F : Type 0} → JournalFile F → List ℕ
file_bytes file = calls.seen file.calls.events

-- what a crash may leave of it
abbrev pub file_may_leave : {F : Type 0} → JournalFile F → List ℕ → Type 0
file_may_leave file = calls.may_leave file.calls.events

-- the moment, by the number of calls
abbrev pub file_moment : {F : Type 0} → JournalFile F → ℕ
file_moment file = length file.calls.events

-- what a crash might have left since a moment
abbrev pub file_left_since : {F : Type 0} → JournalFile F → ℕ → List ℕ → Type 0
file_left_since file = calls.left_since file.calls.events

-- all of it is on the disk: a crash leaves what a read returns
abbrev pub IsOnDisk : {F : Type 0} → JournalFile F → Type 0
IsOnDisk file = Only (file_bytes file) (file_may_leave file)

-- the bytes of the calls that wait
abbrev pub waiting_calls : JournalFile (List ℕ) → List ℕ
waiting_calls file = file.handle.file

-- where none waits any more
abbrev pub with_none_waiting : JournalFile (List ℕ) → JournalFile (List ℕ)
with_none_waiting file = record file { handle = record file.handle { file = [] } }
