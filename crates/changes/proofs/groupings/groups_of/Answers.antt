use Rattle.std.proofs.Common.{◌∙◌, ap, map, sym}
use Rattle.std.proofs.lemmas.Result.{IfOk-weaker}
use Rattle.alone.specs.Groups.{groups_of, runs}
use Rattle.changes.specs.Keyed.{compare_keyed, row_of}
use Rattle.changes.proofs.KeyedRows.{groups_are}
use Rattle.changes.proofs.groupings.groups_of.Goals as goal

pub returns : goal.returns
returns c =
    let columns = c.args.columns.now in
    IfOk-weaker c.runs.result _ _
    (λ groups is. is ∙ ap (λ l. map (map row_of) (runs compare_keyed l)) c.deref-2.ensures.value
    ∙ groups_are columns c.in_ok-keyed.keyed.items c.sort.new.self.items (sym c.is_empty.ensures ∙ c.if-is_empty.false) c.in_ok-keyed.ensures.keyed c.in_ok-sort.ensures.sorted c.sort.ensures.stable
    ∙ ap (groups_of columns) (c.in_ok-keyed.ensures.rows ∙ ap (map (λ row. row.now)) c.deref.ensures.value))
    c.runs.ensures
