-- What an expression gives, as the value that it shows.
use Rattle.value.specs.declared.values.Value.{Value}
use Rattle.value.specs.declared.values.Value.TheVariants as value
use Rattle.table.specs.declared.evals.LentValue.{LentValue}
use Rattle.table.specs.declared.evals.LentValue.TheVariants.{Null, Number, Text}

-- the value that an expression gives, of which a text is lent
abbrev pub lent_value : LentValue → Value
lent_value Null = value.Null
lent_value (Number n) = value.Int n
lent_value (Text t) = value.Text t.now
