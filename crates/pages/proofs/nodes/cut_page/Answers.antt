use Rattle.std.proofs.Common.{◌<◌, ap, length, arith}
use Rattle.pages.proofs.Halves.{halves_page, page_front, page_behind}
use Rattle.pages.proofs.nodes.cut_page.Goals as goal

pub invariant_of-result : goal.invariant_of-result
invariant_of-result g c = page_behind c.args.page.now.items c.in_ok-behind.behind.items c.page_half-half.result c.in_ok-behind.ensures.tail c.requires.whole

pub returns-clause-cut : goal.returns-clause-cut
returns-clause-cut g c =
    let page = c.args.page.now.items in
    let half = c.page_half-half.result in
    let within : half < length page = omega (arith, c.page_half-half.ensures.within, ap length c.deref.ensures.value) in
    halves_page page c.split_off.new.self.items c.in_ok-behind.behind.items half c.index.result.now c.in_ok-key.key c.page_half-half.ensures.some within c.index.ensures c.in_ok-key.ensures c.in_ok-behind.ensures.items c.in_ok-behind.ensures.tail c.requires.whole

pub returns-clause-whole : goal.returns-clause-whole
returns-clause-whole g c =
    let page = c.args.page.now.items in
    let half = c.page_half-half.result in
    page_front page c.split_off.new.self.items half c.in_ok-behind.ensures.items (omega (arith, c.page_half-half.ensures.within, ap length c.deref.ensures.value)) c.requires.whole
