-- Which forms are evaluated without overflow: those whose conditions have only bounded expressions.
use Rattle.std.specs.Prelude.{List, map, All, IsTrue}
use Rattle.table.specs.declared.slots.SlotKind.{SlotKind}
use Rattle.table.specs.declared.conds.Cond.{Cond}
use Rattle.table.specs.Bounds.{is_bounded, slots_around}
use Rattle.table.specs.Kinds.{kind_of_aggregate}
use Rattle.assertion.specs.declared.queries.Query.{Query}
use Rattle.assertion.specs.declared.forms.Form.{Form}
use Rattle.assertion.specs.declared.forms.Form.TheVariants.{ByRow, ByGroup, Single}

-- each expression of a condition has a bound, over slots of these kinds
abbrev pub IsBoundedOver : List SlotKind → Cond → Type 0
IsBoundedOver kinds condition = IsTrue (is_bounded kinds condition)

-- the set functions in the slots of some queries
abbrev pub query_kinds : {G : Type 0} → List (Query G) → List SlotKind
query_kinds queries = map (λ q. kind_of_aggregate q.aggregate) queries

-- each condition of a form has only bounded expressions; the slots of a WHERE hold values of the row around it
abbrev pub IsBounded : Form → Type 0
IsBounded (ByRow table condition queries) =
    IsBoundedOver (query_kinds queries) condition × All (λ q. IsBoundedOver slots_around q.filter) queries
IsBounded (ByGroup table restriction group having aggregates) =
    IsBoundedOver slots_around restriction × IsBoundedOver (map kind_of_aggregate aggregates) having
IsBounded (Single condition queries) =
    IsBoundedOver (query_kinds queries) condition × All (λ q. IsBoundedOver slots_around q.filter) queries
