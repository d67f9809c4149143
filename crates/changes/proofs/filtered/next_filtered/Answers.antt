use Rattle.std.proofs.Common.{◌∙◌, sym, ap}
use Rattle.table.specs.Bounds.{IsSmallRow}
use Rattle.assertion.specs.Meaning.{filtered_rows}
use Rattle.changes.proofs.Walks.{next_has, rest_has, not_filtered}
use Rattle.changes.proofs.filtered.next_filtered.Goals as goal

pub passes-requires-clause-small : goal.passes-requires-clause-small
passes-requires-clause-small c = next_has IsSmallRow c.loop-row.looked c.in-Some.row.now c.next.new.self c.in-Some.ensures.steps c.loop-row.invariant.small

pub returns-then-passes-clause-small : goal.returns-then-passes-clause-small
returns-then-passes-clause-small c = rest_has IsSmallRow c.loop-row.looked c.in-Some.row.now c.next.new.self c.in-Some.ensures.steps c.loop-row.invariant.small

pub loop-row-preserved : goal.loop-row-preserved
loop-row-preserved c = record {
  small = rest_has IsSmallRow c.loop-row.looked c.in-Some.row.now c.next.new.self c.in-Some.ensures.steps c.loop-row.invariant.small;
  same = sym (ap (filtered_rows c.args.filter.now) c.in-Some.ensures.steps ∙ not_filtered c.args.filter.now c.in-Some.row.now c.next.new.self (sym c.passes.ensures ∙ c.if-passes.false)) ∙ c.loop-row.invariant.same;
}
