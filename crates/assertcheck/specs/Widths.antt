-- Which forms of assertions have only bounded expressions, as a test.
use Rattle.std.specs.Prelude.{Bool, ◌&&◌, map}
use Rattle.std.specs.List.{list_all}
use Rattle.table.specs.Bounds.{is_bounded, slots_around}
use Rattle.assertion.specs.declared.queries.Query.{Query}
use Rattle.assertion.specs.declared.queries.Link.{Link}
use Rattle.assertion.specs.declared.queries.Whole.{Whole}
use Rattle.assertion.specs.declared.forms.Form.{Form}
use Rattle.assertion.specs.declared.forms.Form.TheVariants.{ByRow, ByGroup, Single}
use Rattle.assertion.specs.Bounded.{query_kinds}
use Rattle.table.specs.Kinds.{kind_of_aggregate}

-- whether each condition of a form has only bounded expressions; the slots of a WHERE hold values of the row around it
abbrev pub is_bounded_form : Form → Bool
is_bounded_form (ByRow table condition queries) =
    is_bounded (query_kinds queries) condition && list_all (λ (q : Query Link). is_bounded slots_around q.filter) queries
is_bounded_form (ByGroup table restriction group having aggregates) =
    is_bounded slots_around restriction && is_bounded (map kind_of_aggregate aggregates) having
is_bounded_form (Single condition queries) =
    is_bounded (query_kinds queries) condition && list_all (λ (q : Query Whole). is_bounded slots_around q.filter) queries
