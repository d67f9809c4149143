use Rattle.std.proofs.Common.{List}
use Rattle.syntax.specs.declared.definitions.Definition.{Definition}
use Rattle.syntax.specs.Answer.{Fits}
use Rattle.syntax.specs.Lexemes.{lexemes}
use Rattle.syntax.specs.SchemaGrammar.{IsSchema}
use Rattle.parse.specs.Told.{most_open}
use Rattle.parse.proofs.Telling.{found_list, only_list}
use Rattle.parse.proofs.calls.parse_schema.Goals as goal

pub returns-clause-found : goal.returns-clause-found
returns-clause-found c = found_list {A = List Definition} (IsSchema (lexemes c.args.text.now)) (Fits most_open (lexemes c.args.text.now)) c.parse_schema_into.result c.parse_schema_into.ensures.found

pub returns-clause-only : goal.returns-clause-only
returns-clause-only c = λ d is fits. only_list d _ (c.parse_schema_into.ensures.only d is fits)
