-- The values of a row, however its block holds them.
use Rattle.std.specs.Prelude.{List}
use Rattle.value.specs.declared.values.Value.{Value}
use Rattle.table.specs.declared.rows.Block.{Block}
use Rattle.table.specs.declared.rows.Block.TheVariants.{Few, Many}

-- the values of a block, in the order of the columns
abbrev pub values_of : Block → List Value
values_of (Few values) = values.items
values_of (Many values) = values.items
