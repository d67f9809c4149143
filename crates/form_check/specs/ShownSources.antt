-- What is lent, as what it shows.
use Rattle.form_check.specs.ShownScopes.{lent_scope}
use Rattle.form_check.specs.declared.queries.Source.{Source as LentSource}
use Rattle.form_check.specs.Queries.{Source}

-- the table of a query, by its place, and as names in the query see it
abbrev pub shown_source : LentSource → Source
shown_source source = record { table = source.table; scope = lent_scope source.scope }
