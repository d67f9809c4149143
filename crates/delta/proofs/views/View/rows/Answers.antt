use Rattle.std.proofs.Common.{◌∙◌, List, [], sym, subst}
use Rattle.std.specs.Arc.{arc_value}
use Rattle.std.specs.Prelude.{All}
use Rattle.std.proofs.lemmas.List.{get_or_default}
use Rattle.table.specs.Rows.{RowValues}
use Rattle.table.specs.Bounds.{IsSmallRow}
use Rattle.delta.proofs.TableLemmas.{good_small}
use Rattle.delta.proofs.views.View.rows.Goals as goal

pub returns-clause-small : goal.returns-clause-small
returns-clause-small c =
    let inside = rw (← c.self.view_is) at c.requires in
    subst (λ (rows : List RowValues). All IsSmallRow rows) (sym ((rw c.deref.ensures at c.index.ensures) ∙ get_or_default (arc_value c.self.inside.parts).tables.items c.args.table c.index.result.now [] inside))
    ((good_small _ _ c.self.invariant.good).small c.args.table)
