use Rattle.std.proofs.Common.{◌∙◌, ap, arith, List, Option}
use Rattle.value.specs.declared.values.Value.{Value}
use Rattle.value.specs.ValueOrder.{value_cmp}
use Rattle.value.specs.Ordered.{put}
use Rattle.pages.specs.Differences.{with_differences}
use Rattle.pages.specs.Reach.{key_of, entry_of}
use Rattle.pages.proofs.Merging.{order_with, put_with, short_with}
use Rattle.pages.proofs.differential.DifferentialMap.put.Goals as goal

pub returns-in_err-put_page-clause-order : goal.returns-in_err-put_page-clause-order
returns-in_err-put_page-clause-order g c = order_with c.put_page.new.page.items c.self.inside.main c.self.invariant.order

pub returns-in_err-put_page-clause-short : goal.returns-in_err-put_page-clause-short
returns-in_err-put_page-clause-short g c =
    omega (arith, short_with c.put_page.new.page.items c.self.inside.main, c.in_err-put_page.ensures.whole.most, c.takes_difference.ensures.short c.if-takes_difference.true)

pub returns-then-takes_difference-clause-changed : goal.returns-then-takes_difference-clause-changed
returns-then-takes_difference-clause-changed g c =
    ap (λ (ds : List (Value × Option g.row.V.Denot)). with_differences ds c.self.inside.main) c.in_ok-put_page.ensures.changed
    ∙ put_with c.args.key.now c.args.value c.self.inside.differences.items c.self.inside.main c.self.invariant.page.order c.self.invariant.order
    ∙ ap (put value_cmp key_of c.args.key.now (entry_of c.args.key.now c.args.value)) c.self.view_is

pub returns-then-takes_difference-clause-order : goal.returns-then-takes_difference-clause-order
returns-then-takes_difference-clause-order g c = order_with c.put_page.new.page.items c.self.inside.main c.self.invariant.order

pub returns-then-takes_difference-clause-short : goal.returns-then-takes_difference-clause-short
returns-then-takes_difference-clause-short g c =
    omega (arith, short_with c.put_page.new.page.items c.self.inside.main, c.in_ok-put_page.ensures.whole.most, c.takes_difference.ensures.short c.if-takes_difference.true)

pub returns-in_err-merge-clause-order : goal.returns-in_err-merge-clause-order
returns-in_err-merge-clause-order g c = order_with c.merge.new.differences.items c.merge.new.main c.in_err-merge.ensures.order

pub returns-in_err-merge-clause-short : goal.returns-in_err-merge-clause-short
returns-in_err-merge-clause-short g c =
    omega (arith, short_with c.merge.new.differences.items c.merge.new.main, c.in_err-merge.ensures.short, c.self.invariant.short)
