-- What a check of assertions finds, and under which keys it reads.
use Rattle.std.specs.Prelude.{ℕ, ◌==◌, List, [], ◌∷◌, ◌++◌, map, filter, flat_map, Option, Some, None, if◌then◌else◌}
use Rattle.value.specs.declared.values.Value.{Value}
use Rattle.value.specs.declared.values.Root.{Root}
use Rattle.value.specs.declared.values.Root.TheVariants.{All, Of}
use Rattle.value.specs.declared.refusals.Refusal.{Refusal}
use Rattle.value.specs.declared.refusals.Refusal.TheVariants.{Violated}
use Rattle.table.specs.declared.rows.Change.{Change}
use Rattle.table.specs.Rows.{RowValues, Layout, value_in, key_of}
use Rattle.table.specs.Aggregates.{is_there}
use Rattle.assertion.specs.declared.assertions.Assertion.{Assertion}
use Rattle.assertion.specs.declared.queries.Query.{Query}
use Rattle.assertion.specs.declared.queries.Link.{Link}
use Rattle.assertion.specs.declared.forms.Form.{Form}
use Rattle.assertion.specs.declared.forms.Form.TheVariants.{ByRow, ByGroup, Single}
use Rattle.assertion.specs.Meaning.{State, least_bad_of}
use Rattle.assertion.specs.Candidates.{rows_of_change, linked_values, candidates_of}
use Rattle.siread.specs.declared.keys.LockKey.{LockKey}
use Rattle.siread.specs.declared.keys.LockKey.TheVariants.{Row as OneRow, Column as InColumn, Table as WholeTable}
use Rattle.alone.specs.States.{row_in}

-- the tables that an assertion names
abbrev pub tables_in : Form → List ℕ
tables_in (ByRow table condition queries) = table ∷ map (λ q. q.table) queries
tables_in (ByGroup table restriction group having aggregates) = table ∷ []
tables_in (Single condition queries) = map (λ q. q.table) queries

-- the rows of a subquery's table that have a value in its linked column: the row under it, where that is the key
abbrev pub inner_key : List Layout → Query Link → Value → LockKey
inner_key layouts q v =
    if q.grouping.inner == key_of q.table layouts then OneRow (record { table = q.table; key = v })
    else InColumn q.table q.grouping.inner v

-- those that it links to a row; none where the row has NULL in the column of the link
abbrev pub row_keys : List Layout → Query Link → Option RowValues → List LockKey
row_keys layouts q None = []
row_keys layouts q (Some row) = map (inner_key layouts q) (filter is_there (value_in q.grouping.outer row ∷ []))

-- those that it links to the root of a key: by the key itself, where the link is to it, and else by the row that stands
-- there
abbrev pub query_keys : List Layout → ℕ → Value → Option RowValues → Query Link → List LockKey
query_keys layouts key k row q =
    if q.grouping.outer == key then InColumn q.table q.grouping.inner k ∷ [] else row_keys layouts q row

-- what a look at a root reads: by rows its row, and the rows that are linked to it; by groups the group; a single
-- condition its tables
abbrev pub keys_for : List Layout → State → Form → Root → List LockKey
keys_for layouts state (ByRow table condition queries) All = []
keys_for layouts state (ByRow table condition queries) (Of k) =
    OneRow (record { table = table; key = k })
    ∷ flat_map (query_keys layouts (key_of table layouts) k (row_in layouts state (record { table = table; key = k })))
    queries
keys_for layouts state (ByGroup table restriction group having aggregates) All = []
keys_for layouts state (ByGroup table restriction group having aggregates) (Of v) = InColumn table group v ∷ []
keys_for layouts state (Single condition queries) All = map WholeTable (map (λ q. q.table) queries)
keys_for layouts state (Single condition queries) (Of v) = []

-- the roots to which a subquery links the old and the new row of a change, where they are found by another column than
-- their key
abbrev pub outer_keys : ℕ → ℕ → Change → Query Link → List LockKey
outer_keys table key change q =
    if q.grouping.outer == key then []
    else if q.table == change.table
    then map (InColumn table q.grouping.outer) (linked_values q.grouping (rows_of_change change)) else []

-- what the candidates of a change are found by
abbrev pub finding_keys : List Layout → Form → Change → List LockKey
finding_keys layouts (ByRow table condition queries) change =
    flat_map (outer_keys table (key_of table layouts) change) queries
finding_keys layouts (ByGroup table restriction group having aggregates) change = []
finding_keys layouts (Single condition queries) change = []

-- a check of a state over the changes that led to it finds their candidates, and looks at them
abbrev pub check_keys : List Layout → State → Form → List Change → List LockKey
check_keys layouts state form changes =
    flat_map (finding_keys layouts form) changes
    ++ flat_map (keys_for layouts state form) (candidates_of layouts state changes form)

-- the refusal of a false assertion by its root; where it is not false, what is found behind it
abbrev pub refusal_at : List ℕ → Option Root → Option Refusal → Option Refusal
refusal_at name None rest = rest
refusal_at name (Some root) rest = Some (Violated name root)

-- the refusal by the first assertion of a list that is false, with its least bad root
abbrev pub violation : List Layout → List Assertion → State → Option Refusal
violation layouts [] state = None
violation layouts (a ∷ rest) state =
    refusal_at a.name (least_bad_of layouts a.form state) (violation layouts rest state)

-- what a check of them reads, on a state and over the changes that led to it
abbrev pub checks_read : List Layout → State → List Assertion → List Change → List LockKey
checks_read layouts state assertions changes = flat_map (λ a. check_keys layouts state a.form changes) assertions
