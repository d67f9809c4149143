-- Snapshots that are safe: whoever reads one, read only, can be in no dangerous triple (Ports and Grittner 2012, on safe
-- snapshots).
use Rattle.std.specs.Prelude.{◌≡◌, ◌<◌, ℕ, false, List, Contains}
use Rattle.alone.specs.declared.records.Record.{Record}
use Rattle.alone.specs.Order.{least_out}

-- no commit past the snapshot conflicts to one that it holds, but for those that are read only: nobody reads what they
-- have written
abbrev pub IsSafe : List Record → (snapshot : ℕ) → Type 0
IsSafe log snapshot = (commit : Record) → Contains log commit
    → commit.read_only ≡ false → snapshot < commit.number → snapshot < least_out log commit
