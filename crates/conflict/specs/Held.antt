-- Whether a transaction is open.
use Rattle.std.specs.Prelude.{◌==◌, ◌&&◌, ℕ, Bool, List}
use Rattle.std.specs.Bool.{beq}
use Rattle.std.specs.List.{list_any}
use Rattle.conflict.specs.declared.open_snapshots.LiveSnapshot.{LiveSnapshot}

-- whether an open transaction is the one with this begin number, this snapshot, and read only or not
abbrev pub is_one : (begin_number snapshot : ℕ) → (read_only : Bool) → LiveSnapshot → Bool
is_one begin_number snapshot read_only one =
    (one.begin_number == begin_number) && ((one.snapshot == snapshot) && beq one.read_only read_only)

-- whether the transaction with this begin number is open, holds this snapshot, and is read only or not as is said
abbrev pub is_held : (begin_number snapshot : ℕ) → (read_only : Bool) → List LiveSnapshot → Bool
is_held begin_number snapshot read_only snapshots = list_any (is_one begin_number snapshot read_only) snapshots
