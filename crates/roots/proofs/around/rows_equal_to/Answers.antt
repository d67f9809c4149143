use Rattle.std.proofs.Common.{◌∙◌, ap, map, sym}
use Rattle.std.specs.Prelude.{filter}
use Rattle.table.specs.Rows.{value_in}
use Rattle.roots.specs.Around.{is_equal}
use Rattle.roots.proofs.AroundLemmas.{none_equal}
use Rattle.roots.proofs.around.rows_equal_to.Goals as goal

pub returns-in-Null : goal.returns-in-Null
returns-in-Null c =
    ap (map (λ row. row.now)) c.new.ensures.items ∙ sym (ap (λ v. filter (λ row. is_equal v (value_in c.args.column row)) c.args.rows.now) c.in-Null.is ∙ none_equal c.args.column c.args.rows.now)
