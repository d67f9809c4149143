-- What stands in a slot is within the bound of its kind.
use Rattle.std.proofs.Common.{ℕ, zero, suc, ◌≤◌, ◌^◌, List, [], ◌∷◌, arith}
use Rattle.std.specs.Prelude.{All, slice_index_or}
use Rattle.value.specs.declared.values.Value.TheVariants.{Null}
use Rattle.table.specs.declared.slots.SlotKind.{SlotKind}
use Rattle.table.specs.declared.slots.SlotKind.TheVariants.{Count, Sum, Extreme}
use Rattle.table.specs.Slots.{SlotValues, IsWithinKind, kinds_of, values_of, magnitude, limit}
use Rattle.table.specs.Bounds.{limit_at}

pub within_limit : (slots : SlotValues) (slot : ℕ) → All IsWithinKind slots → magnitude (slice_index_or (values_of slots) slot Null) ≤ limit_at (kinds_of slots) slot
within_limit [] slot h = omega arith
within_limit (s ∷ slots) zero h = h 0 s (omega arith)
within_limit (s ∷ slots) (suc slot) h = within_limit slots slot (λ k d less. h (suc k) d (omega arith))

limit_small : (kind : SlotKind) → limit kind ≤ 2 ^ 126
limit_small Count = omega arith
limit_small Sum = omega arith
limit_small Extreme = omega arith

-- no slot's bound passes the limit of expressions
pub limit_at_small : (kinds : List SlotKind) (slot : ℕ) → limit_at kinds slot ≤ 2 ^ 126
limit_at_small [] slot = omega arith
limit_at_small (kind ∷ kinds) zero = limit_small kind
limit_at_small (kind ∷ kinds) (suc slot) = limit_at_small kinds slot
