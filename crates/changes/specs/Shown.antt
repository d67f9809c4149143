-- A lent equality, as the one that it shows.
use Rattle.std.specs.Prelude.{Option, Some, None}
use Rattle.alone.specs.Reads.{Equality as AnyEquality}
use Rattle.changes.specs.declared.wheres.Equality.{Equality}

-- the equality of a column and a value, of which the value is lent, if there is one
abbrev pub lent_equality : Option Equality → Option AnyEquality
lent_equality None = None
lent_equality (Some equality) = Some (record { column = equality.column; value = equality.value.now })
