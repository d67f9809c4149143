-- What is lent from a form, as what it shows.
use Rattle.assertion.specs.declared.queries.Query.{Query}
use Rattle.roots.specs.declared.grouped.Grouping.{Grouping}
use Rattle.roots.specs.declared.grouped.Summary.{Summary}

-- a summary whose filter is lent, as the query that it is of
abbrev pub lent_query : Summary → Query Grouping
lent_query summary =
    record {
      table = summary.table;
      filter = summary.filter.now;
      grouping = summary.grouping;
      aggregate = summary.aggregate;
    }
