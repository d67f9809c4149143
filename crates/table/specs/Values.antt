-- What arithmetic, comparisons and search conditions make of values and truths (ISO/IEC 9075:1992, subclauses in
-- brackets).
use Rattle.std.specs.Prelude.{ℤ, neg_ℤ, List, [], ◌∷◌, Option, Some, None}
use Rattle.std.specs.declared.cmp.Ordering.{Ordering}
use Rattle.value.specs.declared.values.Value.{Value}
use Rattle.value.specs.declared.values.Value.TheVariants.{Null, Int, Text}
use Rattle.value.specs.declared.comparisons.Comparison.{Comparison}
use Rattle.value.specs.Comparisons.{holds, known_cmp}
use Rattle.value.specs.declared.truths.Truth.{Truth}
use Rattle.value.specs.declared.truths.Truth.TheVariants.{True, False, Unknown}
use Rattle.value.specs.Truths.{and_of, or_of, truth_of_bool}

-- ---- numeric value expressions (6.12)

-- a number with the sign turned; NULL stays
abbrev pub negative_of : Value → Value
negative_of Null = Null
negative_of (Int n) = Int (neg_ℤ n)
negative_of (Text t) = Null

-- two numbers by an operation; NULL where a side is NULL
abbrev pub operation_value : (ℤ → ℤ → ℤ) → Value → Value → Value
operation_value f Null w = Null
operation_value f (Text s) w = Null
operation_value f (Int m) Null = Null
operation_value f (Int m) (Text t) = Null
operation_value f (Int m) (Int n) = Int (f m n)

-- all the numbers of a list by an operation, from the left
abbrev pub total : (ℤ → ℤ → ℤ) → Value → List Value → Value
total f so_far [] = so_far
total f so_far (v ∷ rest) = total f (operation_value f so_far v) rest

-- ---- predicates

-- the truth of a comparison by what is known of its sides
abbrev pub known_as : Comparison → Option Ordering → Truth
known_as comparison None = Unknown
known_as comparison (Some ordering) = truth_of_bool (holds comparison ordering)

-- a comparison, unknown where a side is NULL (8.2)
abbrev pub comparison_truth : Comparison → Value → Value → Truth
comparison_truth comparison v w = known_as comparison (known_cmp v w)

-- IS NULL, which is never unknown (8.6)
abbrev pub is_null : Value → Truth
is_null Null = True
is_null (Int n) = False
is_null (Text t) = False

-- ---- search conditions (8.12)

-- AND of a list; true where it is empty
abbrev pub all_of : List Truth → Truth
all_of [] = True
all_of (t ∷ ts) = and_of t (all_of ts)

-- OR of a list; false where it is empty
abbrev pub any_of : List Truth → Truth
any_of [] = False
any_of (t ∷ ts) = or_of t (any_of ts)
