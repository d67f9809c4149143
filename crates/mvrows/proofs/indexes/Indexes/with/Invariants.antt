use Rattle.std.proofs.Common.{ℕ, List}
use Rattle.std.specs.Option.{option_copied}
use Rattle.table.specs.Rows.{RowValues, put_row}
use Rattle.mvrows.specs.Indexed.{AreIndexesOf, IsReplacement}
use Rattle.mvrows.proofs.indexes.Indexes.with.Given as goal

-- the indexes so far are those of the rows with the new one
abbrev pub invariant-loop-it : goal.invariant-loop-it
invariant-loop-it l = (key_column : ℕ) (rows : List RowValues) → IsReplacement key_column l.key (option_copied l.old) (option_copied l.new) rows
    → AreIndexesOf key_column rows l.self → AreIndexesOf key_column (put_row key_column l.key (option_copied l.new) rows) l.list.items
