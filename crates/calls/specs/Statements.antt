-- The prepared statements.
use Rattle.std.specs.Prelude.{◌+◌, ℕ, List, [], Option, nat_eq}
use Rattle.std.specs.Map.{lookup}
use Rattle.indexmap.specs.IndexMap.{insert_entry, shift_remove_entry}
use Rattle.prepared.specs.declared.prepared.Prepared.{Prepared}

-- each under its number, and the number that comes next
pub record StatementsState : Type 0 where
  pub prepared : List (ℕ × Prepared)
  pub next : ℕ

-- before the first, whose number is 1
abbrev pub no_statements : StatementsState
no_statements = record { prepared = []; next = 1 }

-- with one more
abbrev pub with_statement : Prepared → StatementsState → StatementsState
with_statement prepared s = record { prepared = insert_entry nat_eq s.prepared s.next prepared; next = s.next + 1 }

-- the statement of a number
abbrev pub statement_at : ℕ → StatementsState → Option Prepared
statement_at number s = lookup (nat_eq number) s.prepared

-- without the statement of a number
abbrev pub without_statement : ℕ → StatementsState → StatementsState
without_statement number s = record s { prepared = shift_remove_entry (nat_eq number) s.prepared }
