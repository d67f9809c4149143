-- What a look at one assertion finds.
use Rattle.std.specs.Prelude.{Bool, true, false, List, Option, None}
use Rattle.value.specs.declared.values.Root.{Root}
use Rattle.table.specs.Rows.{Layout}
use Rattle.assertion.specs.declared.assertions.Assertion.{Assertion}
use Rattle.assertion.specs.Meaning.{State, least_bad_of}

-- the least root at which an assertion is false, if it is meant and false
abbrev pub least_bad_if_meant : List Layout → Assertion → Bool → State → Option Root
least_bad_if_meant layouts a true state = least_bad_of layouts a.form state
least_bad_if_meant layouts a false state = None
