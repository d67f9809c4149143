-- What the queries of slots give.
use Rattle.std.specs.Prelude.{List, map}
use Rattle.value.specs.declared.values.Value.{Value}
use Rattle.table.specs.Aggregates.{aggregate}
use Rattle.table.specs.declared.slots.SlotKind.{SlotKind}
use Rattle.table.specs.Kinds.{kind_of_aggregate}
use Rattle.assertion.specs.declared.queries.Query.{Query}
use Rattle.assertion.specs.Meaning.{State}
use Rattle.roots.specs.declared.grouped.Grouping.{Grouping}
use Rattle.roots.specs.Summaries.{group_rows}

-- the kinds of the slots
abbrev pub kinds_in : List (Query Grouping) → List SlotKind
kinds_in queries = map (λ q. kind_of_aggregate q.aggregate) queries

-- what a query gives for a group
abbrev pub query_answer : State → Value → Query Grouping → Value
query_answer state v query = aggregate query.aggregate (group_rows state query v)
