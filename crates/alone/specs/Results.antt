-- What a SELECT lists, as values.
use Rattle.value.specs.declared.values.Value.{Value}
use Rattle.value.specs.declared.values.Value.TheVariants as value
use Rattle.alone.specs.declared.results.ResultValue.{ResultValue}
use Rattle.alone.specs.declared.results.ResultValue.TheVariants.{Null, Number, Text}

-- the value that is listed
abbrev pub value_of : ResultValue → Value
value_of Null = value.Null
value_of (Number n) = value.Int n
value_of (Text t) = value.Text t
