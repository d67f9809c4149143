-- Small transactions, computed by the definitions. A condition doesn't compute here, since its fold opens in its own crate alone.
use Rattle.std.proofs.Common.{◌≡◌, ℕ, pos, true, [], ◌∷◌, Some, None, Ok, Err, refl}
use Rattle.value.specs.declared.values.Value.TheVariants.{Int}
use Rattle.value.specs.declared.values.ColType.TheVariants.{Integer}
use Rattle.value.specs.declared.refusals.Refusal.TheVariants.{DuplicateKey, OutsideClass}
use Rattle.table.specs.declared.schemas.Column.{Column}
use Rattle.table.specs.Rows.{RowValues, Tables}
use Rattle.assertion.specs.Meaning.{State}
use Rattle.siread.specs.declared.keys.LockKey.TheVariants.{Row as OneRow}
use Rattle.alone.specs.States.{net_change}
use Rattle.assertion.specs.Declarations.{Declared}
use Rattle.syntax.specs.declared.statements.Mode.TheVariants.{Deferred}
use Rattle.alone.specs.declared.statements.ResolvedStatement.{ResolvedStatement}
use Rattle.alone.specs.declared.statements.ResolvedStatement.TheVariants.{Refused as Refuse, Insert, SetModes}
use Rattle.alone.specs.declared.answers.Reply.TheVariants.{Inserted}
use Rattle.alone.specs.Alone.{transaction, transaction_keys}

-- accounts: an id, an owner and a balance
abbrev column_named : ℕ → Column
column_named letter = record { name = letter ∷ []; kind = Integer; nullable = true }

abbrev accounts : Tables
accounts = (65 ∷ [], record { columns = column_named 73 ∷ column_named 79 ∷ column_named 66 ∷ []; key = 0 }) ∷ []

abbrev plain : Declared
plain = record { tables = accounts; assertions = [] }

abbrev row : ℕ → ℕ → ℕ → RowValues
row id owner balance = Int (pos id) ∷ Int (pos owner) ∷ Int (pos balance) ∷ []

abbrev start : State
start = (row 1 7 100 ∷ row 2 7 50 ∷ []) ∷ []

-- a new row, and one at a key that is taken
put_twice : (transaction plain (Insert (record { table = 0; rows = row 3 8 5 ∷ [] }) ∷ Insert (record { table = 0; rows = row 1 8 5 ∷ [] }) ∷ []) start).replies ≡ Ok (Inserted 1) ∷ Err (DuplicateKey (65 ∷ []) (Int (pos 1))) ∷ []
unfolding net_change
put_twice = refl

put_change : (transaction plain (Insert (record { table = 0; rows = row 3 8 5 ∷ [] }) ∷ []) start).changes ≡ record { table = 0; key = Int (pos 3); old = None; new = Some (row 3 8 5) } ∷ []
unfolding net_change
put_change = refl

put_reads : transaction_keys plain (Insert (record { table = 0; rows = row 3 8 5 ∷ [] }) ∷ []) start ≡ OneRow (record { table = 0; key = Int (pos 3) }) ∷ []
unfolding net_change
put_reads = refl

-- two rows in one statement, each read at its key
abbrev two_rows : ResolvedStatement
two_rows = Insert (record { table = 0; rows = row 4 8 5 ∷ row 3 9 6 ∷ [] })

put_both : (transaction plain (two_rows ∷ []) start).replies ≡ Ok (Inserted 2) ∷ []
unfolding net_change
put_both = refl

both_changes : (transaction plain (two_rows ∷ []) start).changes
    ≡ record { table = 0; key = Int (pos 3); old = None; new = Some (row 3 9 6) } ∷ record { table = 0; key = Int (pos 4); old = None; new = Some (row 4 8 5) } ∷ []
unfolding net_change
both_changes = refl

both_reads : transaction_keys plain (two_rows ∷ []) start ≡ OneRow (record { table = 0; key = Int (pos 4) }) ∷ OneRow (record { table = 0; key = Int (pos 3) }) ∷ []
unfolding net_change
both_reads = refl

-- where the second has the key of the first, neither is put in, and both keys are read all the same
abbrev same_key : ResolvedStatement
same_key = Insert (record { table = 0; rows = row 3 8 5 ∷ row 3 9 6 ∷ [] })

same_refused : (transaction plain (same_key ∷ []) start).replies ≡ Err (DuplicateKey (65 ∷ []) (Int (pos 3))) ∷ []
unfolding net_change
same_refused = refl

same_left : (transaction plain (same_key ∷ []) start).changes ≡ []
unfolding net_change
same_left = refl

same_reads : transaction_keys plain (same_key ∷ []) start ≡ OneRow (record { table = 0; key = Int (pos 3) }) ∷ OneRow (record { table = 0; key = Int (pos 3) }) ∷ []
unfolding net_change
same_reads = refl

-- where SET CONSTRAINTS and a refused statement stand between, the view stays
nothing_done : (transaction plain (Refuse OutsideClass ∷ SetModes [] Deferred ∷ Insert (record { table = 0; rows = row 1 8 5 ∷ [] }) ∷ []) start).changes ≡ []
unfolding net_change
nothing_done = refl
