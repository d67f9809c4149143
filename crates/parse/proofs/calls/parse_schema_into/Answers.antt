use Rattle.std.proofs.Common.{◌∙◌}
use Rattle.syntax.specs.Reading.{whole}
use Rattle.syntax.specs.SchemaGrammar as gr
use Rattle.syntax.specs.SchemaReaders as r
use Rattle.syntax.proofs.SchemaFinders.{exact_schemas}
use Rattle.parse.proofs.Telling.{told_at_in, told_found_in, told_only_in, told_refused_in}
use Rattle.parse.proofs.calls.parse_schema_into.Goals as goal

pub returns-clause-found : goal.returns-clause-found
returns-clause-found g c = told_found_in gr.schemas r.definitions exact_schemas 64 _ _ _ _ (told_at_in _ (whole (r.definitions 64)) c.args.text.now _ _ _ _ (c.deref.ensures.value ∙ c.in_ok-tokens.ensures.all) c.schema_of.ensures)

pub returns-clause-only : goal.returns-clause-only
returns-clause-only g c = told_only_in gr.schemas r.definitions exact_schemas 64 _ _ _ _ (told_at_in _ (whole (r.definitions 64)) c.args.text.now _ _ _ _ (c.deref.ensures.value ∙ c.in_ok-tokens.ensures.all) c.schema_of.ensures)

pub returns-clause-refused : goal.returns-clause-refused
returns-clause-refused g c = told_refused_in gr.schemas r.definitions exact_schemas 64 _ _ _ _ (told_at_in _ (whole (r.definitions 64)) c.args.text.now _ _ _ _ (c.deref.ensures.value ∙ c.in_ok-tokens.ensures.all) c.schema_of.ensures)
