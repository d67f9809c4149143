-- Which tables an assertion is over.
use Rattle.std.specs.Prelude.{ℕ, ◌==◌, Bool, ◌||◌}
use Rattle.assertion.specs.declared.forms.Form.{Form}
use Rattle.assertion.specs.declared.forms.Form.TheVariants.{ByRow, ByGroup, Single}
use Rattle.assertion.specs.Candidates.{is_named}

-- whether it asks for rows of the table: by its outer query, or by a subquery
abbrev pub is_over : ℕ → Form → Bool
is_over t (ByRow table condition queries) = (table == t) || is_named t queries
is_over t (ByGroup table restriction group having aggregates) = table == t
is_over t (Single condition queries) = is_named t queries
