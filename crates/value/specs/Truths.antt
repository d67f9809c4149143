-- Three-valued logic, by the truth tables of SQL-92's search conditions.
use Rattle.std.specs.Prelude.{ℕ, List, Bool, true, false, codes}
use Rattle.value.specs.declared.truths.Truth.{Truth}
use Rattle.value.specs.declared.truths.Truth.TheVariants.{True, False, Unknown}

-- false if a side is false, else unknown if a side is unknown, else true
abbrev pub and_of : Truth → Truth → Truth
and_of True t = t
and_of False t = False
and_of Unknown True = Unknown
and_of Unknown False = False
and_of Unknown Unknown = Unknown

-- true if a side is true, else unknown if a side is unknown, else false
abbrev pub or_of : Truth → Truth → Truth
or_of True t = True
or_of False t = t
or_of Unknown True = True
or_of Unknown False = Unknown
or_of Unknown Unknown = Unknown

-- unknown stays unknown
abbrev pub not_of : Truth → Truth
not_of True = False
not_of False = True
not_of Unknown = Unknown

-- whether the two are the same truth
abbrev pub is_of : Truth → Truth → Bool
is_of True True = true
is_of True False = false
is_of True Unknown = false
is_of False True = false
is_of False False = true
is_of False Unknown = false
is_of Unknown True = false
is_of Unknown False = false
is_of Unknown Unknown = true

-- the truth of what is known to hold or not
abbrev pub truth_of_bool : Bool → Truth
truth_of_bool true = True
truth_of_bool false = False

-- the word that SQL has for a truth
abbrev pub name_of : Truth → List ℕ
name_of True = codes "TRUE"
name_of False = codes "FALSE"
name_of Unknown = codes "UNKNOWN"
