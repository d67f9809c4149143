use Rattle.std.proofs.Common.{◌∙◌}
use Rattle.syntax.specs.Reading.{whole}
use Rattle.syntax.specs.SchemaGrammar as g
use Rattle.syntax.specs.SchemaReaders as r
use Rattle.syntax.proofs.SchemaFinders.{exact_scripts}
use Rattle.parse.proofs.Telling.{told_at, told_found, told_only, told_refused}
use Rattle.parse.proofs.calls.parse_script.Goals as goal

pub returns-clause-found : goal.returns-clause-found
returns-clause-found c = told_found g.scripts r.script exact_scripts 64 _ _ _ (told_at (whole (r.script 64)) c.args.text.now _ _ _ _ (c.deref.ensures.value ∙ c.in_ok-tokens.ensures.all) c.script_of.ensures)

pub returns-clause-only : goal.returns-clause-only
returns-clause-only c = told_only g.scripts r.script exact_scripts 64 _ _ _ (told_at (whole (r.script 64)) c.args.text.now _ _ _ _ (c.deref.ensures.value ∙ c.in_ok-tokens.ensures.all) c.script_of.ensures)

pub returns-clause-refused : goal.returns-clause-refused
returns-clause-refused c = told_refused g.scripts r.script exact_scripts 64 _ _ _ (told_at (whole (r.script 64)) c.args.text.now _ _ _ _ (c.deref.ensures.value ∙ c.in_ok-tokens.ensures.all) c.script_of.ensures)
