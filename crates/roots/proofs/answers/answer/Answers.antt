use Rattle.std.proofs.Common.{◌∙◌, ap, sym, map}
use Rattle.std.specs.Prelude.{◌&&◌}
use Rattle.std.proofs.lemmas.Result.{IfOk-weaker}
use Rattle.table.specs.declared.slots.SlotValue.{SlotValue}
use Rattle.table.specs.Eval.{keeps}
use Rattle.assertion.specs.Meaning.{links, rows_of}
use Rattle.groups.specs.Answers.{value_for}
use Rattle.groups.proofs.RowLemmas.{filtered_within}
use Rattle.roots.specs.Answers.{query_answer}
use Rattle.roots.specs.Bad.{given_by}
use Rattle.roots.specs.Shown.{lent_query}
use Rattle.roots.specs.Summaries.{group_rows, members, rows_beside}
use Rattle.roots.proofs.MaintainedLemmas.{members-within}
use Rattle.roots.proofs.answers.answer.Goals as goal

pub returns-in-None-clause-value : goal.returns-in-None-clause-value
returns-in-None-clause-value c =
    let s = lent_query c.args.summary in
    IfOk-weaker c.answer-in-None.result _ _
    (λ (v : SlotValue) h. h (group_rows c.args.tables.now s) c.requires.totals ∙ ap (λ g. query_answer c.args.tables.now g s) c.asked_group-group.ensures
    ∙ ap (λ link. given_by link c.args.tables.now c.args.row.now s) (sym c.in-None.is ∙ c.link_to_key.ensures))
    c.answer-in-None.ensures.answer

pub returns-in-None-clause-within : goal.returns-in-None-clause-within
returns-in-None-clause-within c =
    let s = lent_query c.args.summary in
    IfOk-weaker c.answer-in-None.result _ _
    (λ (v : SlotValue) h. h (members c.args.tables.now s) c.requires.totals (members-within c.args.tables.now s c.requires.small c.asked_group-group.result.now))
    c.answer-in-None.ensures.within

pub returns-in_ok-total-in-Some-clause-within : goal.returns-in_ok-total-in-Some-clause-within
returns-in_ok-total-in-Some-clause-within c =
    let a = c.args.summary.aggregate in
    let table = c.args.summary.table in
    let link = c.in-Some.link in
    let row = c.args.row.now in
    let f = c.args.summary.filter.now in
    let rows = rows_of table c.args.tables.now in
    IfOk-weaker c.answer.result _ _
    (λ (v : SlotValue) h. h (map (value_for a) (rows_beside link f rows row)) c.in_ok-total-in-Some.ensures
    (filtered_within (λ linked. links link row linked && keeps linked row f) a rows (c.requires.small.short table) (c.requires.small.small table)))
    c.answer.ensures.within
