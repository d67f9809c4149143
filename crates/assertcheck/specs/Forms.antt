-- Which forms of assertions are typed: each condition over what it sees.
use Rattle.std.specs.Prelude.{ℕ, Bool, false, ◌&&◌, List, [], ◌∷◌, map, Option, Some, None, slice_get, if◌then◌else◌}
use Rattle.std.specs.Option.{option_map, option_to_list}
use Rattle.table.specs.declared.schemas.Column.{Column}
use Rattle.table.specs.Rows.{Layout}
use Rattle.table.specs.declared.conds.Cond.{Cond}
use Rattle.assertion.specs.declared.queries.Query.{Query}
use Rattle.assertion.specs.declared.queries.Link.{Link}
use Rattle.assertion.specs.declared.forms.Form.{Form}
use Rattle.assertion.specs.declared.forms.Form.TheVariants.{ByRow, ByGroup, Single}
use Rattle.assertcheck.specs.declared.data_types.DataType.{DataType}
use Rattle.assertcheck.specs.Types.{type_of, column_type, are_comparable, aggregate_type, is_typed_condition}

-- the columns of a table, if there is one
abbrev pub columns_in : Option Layout → List Column
columns_in None = []
columns_in (Some layout) = layout.columns

-- the columns of a table by its place; none where there is no such table
abbrev pub columns_of : List Layout → ℕ → List Column
columns_of layouts table = columns_in (slice_get layouts table)

-- the grouping column as the only one, if there is one
abbrev pub group_columns : List Column → ℕ → List Column
group_columns columns group = option_to_list (slice_get columns group)

-- the types of what a row holds
abbrev pub types_of : List Column → List DataType
types_of columns = map (λ c. type_of c.kind) columns

-- what a subquery gives, if its WHERE is typed over slots of these types
abbrev pub query_type : {G : Type 0} → List Layout → List DataType → Query G → Option DataType
query_type layouts slots q =
    if is_typed_condition (columns_of layouts q.table) slots q.filter
    then aggregate_type (columns_of layouts q.table) q.aggregate
    else None

-- what a subquery of a row with these columns gives, if its link compares columns of one type; what the row holds
-- stands in the slots of its WHERE
abbrev pub linked_type_over : List Layout → List Column → List DataType → Query Link → Option DataType
linked_type_over layouts columns types q =
    if are_comparable (column_type columns q.grouping.outer)
    (column_type (columns_of layouts q.table) q.grouping.inner)
    then query_type layouts types q
    else None

-- the same, where the slots of its WHERE have the types of what the row holds
abbrev pub linked_type : List Layout → List Column → Query Link → Option DataType
linked_type layouts columns q = linked_type_over layouts columns (types_of columns) q

-- the types of a list, if each is there
abbrev pub all_types : List (Option DataType) → Option (List DataType)
all_types [] = Some []
all_types (None ∷ rest) = None
all_types (Some t ∷ rest) = option_map (λ ts. t ∷ ts) (all_types rest)

-- whether a condition is typed over slots of these types, each of which has to be there
abbrev pub is_typed_over : List Column → Option (List DataType) → Cond → Bool
is_typed_over columns None condition = false
is_typed_over columns (Some slots) condition = is_typed_condition columns slots condition

-- whether each condition of a form is typed over what it sees, with each of its subqueries or aggregates
abbrev pub is_typed_form : List Layout → Form → Bool
is_typed_form layouts (ByRow table condition queries) =
    is_typed_over (columns_of layouts table)
    (all_types (map (linked_type layouts (columns_of layouts table)) queries)) condition
is_typed_form layouts (ByGroup table restriction group having aggregates) =
    is_typed_condition (columns_of layouts table) [] restriction
    && is_typed_over (group_columns (columns_of layouts table) group)
    (all_types (map (aggregate_type (columns_of layouts table)) aggregates)) having
is_typed_form layouts (Single condition queries) =
    is_typed_over [] (all_types (map (query_type layouts []) queries)) condition
