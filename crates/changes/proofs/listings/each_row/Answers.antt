use Rattle.std.proofs.Common.{◌≡◌, ◌∙◌, ◌++◌, List, [], map, ap, sym, subst}
use Rattle.std.specs.Prelude.{All}
use Rattle.std.proofs.lemmas.List.Elements.{All-filter}
use Rattle.table.specs.Bounds.{IsSmallRow}
use Rattle.table.specs.Eval.{answer, keeps}
use Rattle.table.specs.Rows.{RowValues}
use Rattle.table.specs.Slots.{SlotValues, values_of}
use Rattle.assertion.specs.Meaning.{filtered_rows}
use Rattle.changes.proofs.Walks.{all_done, made_more, next_has, rest_has}
use Rattle.changes.proofs.listings.each_row.Goals as goal

pub loop-row-init : goal.loop-row-init
loop-row-init c =
    let all : c.into_iter-row-iterator.result ≡ filtered_rows c.args.filter.now.condition c.args.rows.now = c.into_iter-row-iterator.ensures.into_iter_gives ∙ c.filtered_rows-row-items.ensures in
    record {
      small = subst (All IsSmallRow) (sym all) (All-filter (λ (row : RowValues). keeps row [] c.args.filter.now.condition) IsSmallRow c.args.rows.now c.requires.small);
      made = ap (λ (made : List RowValues). made ++ map (λ row. map (answer row []) c.args.values.now) c.into_iter-row-iterator.result) c.new-made.ensures.items
          ∙ ap (map (λ row. map (answer row []) c.args.values.now)) all;
    }

pub values_of_row-requires-clause-small : goal.values_of_row-requires-clause-small
values_of_row-requires-clause-small c = next_has IsSmallRow c.loop-row.row-iterator c.in-Some.row.now c.next.new.self c.in-Some.ensures.steps c.loop-row.invariant.small

pub loop-row-preserved : goal.loop-row-preserved
loop-row-preserved c = record {
  small = rest_has IsSmallRow c.loop-row.row-iterator c.in-Some.row.now c.next.new.self c.in-Some.ensures.steps c.loop-row.invariant.small;
  made = made_more (λ row. map (answer row []) c.args.values.now) (filtered_rows c.args.filter.now.condition c.args.rows.now) c.loop-row.made.items c.loop-row.row-iterator c.in-Some.row.now c.next.new.self c.in-Some.ensures.steps c.loop-row.invariant.made
      c.in_ok-values_of_row.field-0 c.push.new.self.items c.in_ok-push.ensures.items
      (c.in_ok-values_of_row.ensures ∙ ap (λ (slots : SlotValues). map (answer c.in-Some.row.now (values_of slots)) c.args.values.now) c.new-slots.ensures);
}

pub returns : goal.returns
returns c = all_done (λ row. map (answer row []) c.args.values.now) (filtered_rows c.args.filter.now.condition c.args.rows.now) c.loop-row.made.items c.loop-row.row-iterator c.in-None.ensures.steps.0 c.loop-row.invariant.made
