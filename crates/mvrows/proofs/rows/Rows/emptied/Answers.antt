use Rattle.std.proofs.Common.{List, [], sym, subst}
use Rattle.value.specs.declared.values.Value.{Value}
use Rattle.table.specs.Rows.{RowValues}
use Rattle.mvrows.specs.Indexed.{IsVersion}
use Rattle.mvrows.proofs.rows.Rows.emptied.Goals as goal

pub invariant_of-result : goal.invariant_of-result
invariant_of-result c =
    let column = c.self.inside.column in
    subst (λ (entries : List (Value × RowValues)). IsVersion column entries c.in_ok-emptied.field-0) (sym c.new.ensures)
    (record { keyed = tt; indexed = c.in_ok-emptied.ensures column })
