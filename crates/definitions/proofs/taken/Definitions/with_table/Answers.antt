use Rattle.std.proofs.Common.{◌∙◌, ap, List, [], ◌∷◌, ◌++◌}
use Rattle.table.specs.Rows.{RowValues}
use Rattle.definitions.proofs.GoodTables.{good_more}
use Rattle.definitions.proofs.taken.Definitions.with_table.Goals as goal

pub invariant_of-result : goal.invariant_of-result
invariant_of-result c =
    (c.self.invariant.0, good_more c.self.inside.catalog c.add.new.self c.in_ok-copy-2.field-0 c.in_ok-schema.schema c.self.inside.rows.items c.push.new.self.items c.in_ok-add.ensures.ok (c.in_ok-push.ensures.items ∙ ap (λ (rows : List RowValues). c.self.inside.rows.items ++ rows ∷ []) c.new.ensures) c.self.invariant.1)
