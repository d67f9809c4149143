-- Scopes that are lent, as what they show.
use Rattle.std.specs.Prelude.{List, map}
use Rattle.form_check.specs.Scopes.{Scope, Scopes}
use Rattle.form_check.specs.declared.scopes.Scope.{Scope as Lent}

-- a table that names can mean, by its lent name and layout
abbrev pub lent_scope : Lent → Scope
lent_scope scope = record { exposed_name = scope.exposed_name.now; layout = scope.schema.now }

-- the tables around a name, each as what it shows
abbrev pub lent_scopes : List Lent → Scopes
lent_scopes scopes = map lent_scope scopes
