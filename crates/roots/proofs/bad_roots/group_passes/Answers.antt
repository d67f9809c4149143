use Rattle.std.proofs.Common.{◌∷◌, [], sym, ap, get_or}
use Rattle.std.specs.Prelude.{◌&&◌, length}
use Rattle.table.specs.Eval.{keeps}
use Rattle.roots.specs.Bad.{answers}
use Rattle.roots.specs.Summaries.{members, summaries_of, queries_of}
use Rattle.roots.proofs.BadLemmas.{no-row, some-row}
use Rattle.roots.proofs.MaintainedLemmas.{totals-at}
use Rattle.roots.proofs.bad_roots.group_passes.Goals as goal

pub returns-then-count_of-eq0 : goal.returns-then-count_of-eq0
returns-then-count_of-eq0 c = λ summary.
    let state = c.args.tables.now in
    let s = get_or (summaries_of c.args.schemas.now c.args.form.now) 0 summary in
    let right = totals-at state (summaries_of c.args.schemas.now c.args.form.now) (length (summaries_of c.args.schemas.now c.args.form.now)) c.args.totals.now 0 c.index-totals-0.result c.requires.totals c.requires.some c.index-totals-0.is summary in
    ap (λ b. b && keeps (c.args.group.now ∷ []) (answers state (queries_of c.args.schemas.now c.args.form.now) (c.args.group.now ∷ [])) c.args.having.now) (sym (no-row c.count_of.result (length (members state s c.args.group.now)) c.if-count_of-eq0.true (c.count_of.ensures s.aggregate (members state s) right)))

pub returns : goal.returns
returns c = λ summary.
    let state = c.args.tables.now in
    let s = get_or (summaries_of c.args.schemas.now c.args.form.now) 0 summary in
    let right = totals-at state (summaries_of c.args.schemas.now c.args.form.now) (length (summaries_of c.args.schemas.now c.args.form.now)) c.args.totals.now 0 c.index-totals-0.result c.requires.totals c.requires.some c.index-totals-0.is summary in
    rw (some-row c.count_of.result (length (members state s c.args.group.now)) c.if-count_of-eq0.false (c.count_of.ensures s.aggregate (members state s) right), ← c.in_ok-row.ensures, ← c.in_ok-slots.ensures.values)
    c.keeps.ensures.value
