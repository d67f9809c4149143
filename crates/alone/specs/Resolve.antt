-- A statement with its names found, or its refusal.
use Rattle.std.specs.Prelude.{Bool, true, false, Result, Ok, Err}
use Rattle.value.specs.declared.refusals.Refusal.{Refusal}
use Rattle.value.specs.declared.refusals.Refusal.TheVariants.{ReadOnlyTransaction}
use Rattle.syntax.specs.declared.statements.Statement.{Statement as Written}
use Rattle.syntax.specs.declared.statements.Statement.TheVariants as written
use Rattle.assertcheck.specs.Selects.{select_of}
use Rattle.assertcheck.specs.Statements.{insert_of, delete_of}
use Rattle.assertcheck.specs.Updates.{update_of}
use Rattle.assertion.specs.Declarations.{Declared}
use Rattle.alone.specs.declared.statements.ResolvedStatement.{ResolvedStatement}
use Rattle.alone.specs.declared.statements.ResolvedStatement.TheVariants.{Refused as Refuse, Insert, Update, Delete, Select, SetModes, Verdict}
use Rattle.alone.specs.Modes.{set_names}

-- a statement with its names found, or the refusal that comes in its place
abbrev pub statement_or_refusal : {A : Type 0} → (A → ResolvedStatement) → Result A Refusal → ResolvedStatement
statement_or_refusal form (Ok found) = form found
statement_or_refusal form (Err refusal) = Refuse refusal

-- a read-only transaction may run no statement that changes rows
abbrev pub unless_read_only : Bool → ResolvedStatement → ResolvedStatement
unless_read_only true statement = Refuse ReadOnlyTransaction
unless_read_only false statement = statement

-- A statement as it was written, of a transaction that is read only or not, with its names found. That it may not be
-- run comes before each other fault.
abbrev pub resolution_of : Declared → Bool → Written → ResolvedStatement
resolution_of declared read_only (written.Insert insert) =
    unless_read_only read_only (statement_or_refusal Insert (insert_of declared.tables insert))
resolution_of declared read_only (written.Update table sets condition) =
    unless_read_only read_only (statement_or_refusal Update (update_of declared.tables table sets condition))
resolution_of declared read_only (written.Delete table condition) =
    unless_read_only read_only (statement_or_refusal Delete (delete_of declared.tables table condition))
resolution_of declared read_only (written.Select select) =
    statement_or_refusal Select (select_of declared.tables select)
resolution_of declared read_only (written.SetConstraints assertions mode) =
    statement_or_refusal (λ names. SetModes names mode) (set_names declared.assertions assertions)
resolution_of declared read_only (written.Verdict name) = Verdict name

-- whether a statement changes no rows, whatever stands in the tables: all but INSERT, UPDATE and DELETE
abbrev pub is_read_only : ResolvedStatement → Bool
is_read_only (Refuse refusal) = true
is_read_only (Insert new) = false
is_read_only (Update update) = false
is_read_only (Delete delete) = false
is_read_only (Select select) = true
is_read_only (SetModes names mode) = true
is_read_only (Verdict name) = true
