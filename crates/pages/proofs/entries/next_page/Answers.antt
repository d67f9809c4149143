use Rattle.std.proofs.Common.{rules, ◌≡◌, length, arith}
use Rattle.pages.proofs.Walks.{page_within, page_left}
use Rattle.pages.proofs.entries.next_page.Goals as goal

pub overflow_add-result : goal.overflow_add-result
overflow_add-result g c =
    omega (arith, c.page_from-next.ensures.short, page_within c.page_from-next.result.now c.args.pages.now c.args.place c.page_from-next.ensures.entries c.requires)

pub returns-clause-left : goal.returns-clause-left
returns-clause-left g c =
    let none : length c.args.page.now ≡ 0 = search rules in
    page_left c.args.page.now c.page_from-next.result.now c.args.pages.now c.args.place none c.page_from-next.ensures.entries
