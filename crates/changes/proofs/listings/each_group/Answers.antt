use Rattle.std.proofs.Common.{◌∙◌, List, ap, map, subst, sym}
use Rattle.std.specs.Prelude.{All, filter}
use Rattle.table.specs.Bounds.{IsSmallRow}
use Rattle.table.specs.Rows.{RowValues}
use Rattle.alone.specs.Statements.{is_kept, summary_value}
use Rattle.changes.proofs.GroupWalks.{groups_all, kept_more, of_one, passed_over}
use Rattle.changes.proofs.listings.each_group.Goals as goal
use Rattle.changes.proofs.listings.each_group.Goals.{then-branch+in_ok-summary_row+in_ok-push, else-branch}

pub is_kept-requires-clause-small : goal.is_kept-requires-clause-small
is_kept-requires-clause-small c =
    let kept = map (λ row. row.now) c.in_ok-kept.kept.items in
    let all = subst (All (All IsSmallRow)) (sym (ap (map (λ group. map (λ row. row.now) group.items)) c.as_slice-group-items.ensures.value ∙ c.in_ok-groups.ensures))
    (groups_all IsSmallRow c.as_slice.result.now kept c.in_ok-kept.ensures.small) in
    subst (All IsSmallRow) (sym (ap (map (λ row. row.now)) c.deref.ensures.value))
    (of_one (λ group. map (λ row. row.now) group.items) c.as_slice-group-items.result.now c.loop-group.group-index c.group-item.result c.loop-group-test.true c.group-item.is (All IsSmallRow) all)

pub summary_row-requires-clause-small : goal.summary_row-requires-clause-small
summary_row-requires-clause-small c =
    let kept = map (λ row. row.now) c.in_ok-kept.kept.items in
    let all = subst (All (All IsSmallRow)) (sym (ap (map (λ group. map (λ row. row.now) group.items)) c.as_slice-group-items.ensures.value ∙ c.in_ok-groups.ensures))
    (groups_all IsSmallRow c.as_slice.result.now kept c.in_ok-kept.ensures.small) in
    subst (All IsSmallRow) (sym (ap (map (λ row. row.now)) c.deref-then-branch.ensures.value))
    (of_one (λ group. map (λ row. row.now) group.items) c.as_slice-group-items.result.now c.loop-group.group-index c.group-item.result c.loop-group-test.true c.group-item.is (All IsSmallRow) all)

pub loop-group-preserved : goal.loop-group-preserved
loop-group-preserved c =
    let groups = c.as_slice-group-items.result.now in
    let grouping = c.args.grouping.now in
    let i = c.loop-group.group-index in
    let group = c.group-item.result in
    let keep = is_kept grouping.having in
    let list : List RowValues → RowValues = λ rows. map (summary_value rows) grouping.values in
    let all = map list (filter keep (map (λ group. map (λ row. row.now) group.items) groups)) in
    let as_tested = ap (λ rows. is_kept grouping.having (map (λ row. row.now) rows)) (sym c.deref.ensures.value) ∙ sym c.in_ok-is_kept.ensures in
    elim c.if-branch.branch [
      | then-branch+in_ok-summary_row+in_ok-push w ↦ rw (w.made-is) (
          kept_more (λ group. map (λ row. row.now) group.items) groups i group c.loop-group-test.true c.group-item.is keep list c.loop-group.made.items w.push.new.self.items w.in_ok-summary_row.field-0 all (as_tested ∙ w.if-branch.true) w.in_ok-push.ensures.items
          (w.in_ok-summary_row.ensures ∙ ap (λ rows. map (summary_value (map (λ row. row.now) rows)) w.as_slice-then-branch.result.now) w.deref-then-branch.ensures.value ∙ ap (map (summary_value (map (λ row. row.now) group.items))) w.as_slice-then-branch.ensures)
          c.loop-group.invariant)
      | else-branch w ↦ rw (w.made-is) (passed_over (λ group. map (λ row. row.now) group.items) groups i group c.loop-group-test.true c.group-item.is keep list c.loop-group.made.items all (as_tested ∙ w.if-branch.false) c.loop-group.invariant)
    ]
