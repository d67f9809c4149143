use Rattle.std.proofs.Common.{◌≡◌, ◌<◌, ◌≤◌, ◌∙◌, ◌+◌, ◌++◌, ◌∷◌, ap, sym, subst, take, drop, length, arith, Option, option_to_list}
use Rattle.std.proofs.lemmas.List.{length-append, length-drop}
use Rattle.value.specs.declared.values.Value.{Value}
use Rattle.pages.specs.Reach.{entry_of}
use Rattle.pages.specs.Shapes.{page_tree, HasRoom}
use Rattle.pages.proofs.Orders.{length-take_le}
use Rattle.pages.proofs.Parting.{taken_order, taken_short}
use Rattle.pages.proofs.parts.put_page.Goals as goal

pub returns-in-Ok-clause-whole : goal.returns-in-Ok-clause-whole
returns-in-Ok-clause-whole g c =
    let page = c.args.page.now.items in
    let at = c.in-Ok.at in
    let within : at < length page = omega (arith, c.in-Ok.ensures.within, ap length c.deref.ensures.value) in
    record {
      most = omega (arith, c.requires.whole.most, taken_short c.args.key.now c.args.new page c.set_at.new.page.items at within c.set_at.ensures);
      order = taken_order c.args.key.now c.args.new page c.deref.result.now c.set_at.new.page.items at (at + 1) c.deref.ensures.value c.in-Ok.ensures.put c.set_at.ensures c.requires.whole.order;
    }

pub returns-in_ok-insert-in-Some-clause-whole : goal.returns-in_ok-insert-in-Some-clause-whole
returns-in_ok-insert-in-Some-clause-whole g c =
    let page = c.args.page.now.items in
    let at = c.in-Err.at in
    let items : c.insert.new.self.items ≡ take at page ++ (c.args.key.now, c.in-Some.value) ∷ drop at page =
    c.in_ok-insert-in-Some.ensures.items ∙ ap (λ (k : Value). take at page ++ (k, c.in-Some.value) ∷ drop at page) c.in_ok-key-in-Some.ensures in
    let room : length page < 15 = subst (λ (new : Option g.row.V.Denot). HasRoom new (page_tree page)) c.in-Some.is c.requires.room in
    let within : at ≤ length page = omega (arith, c.in-Err.ensures.beside.within, ap length c.deref.ensures.value) in
    record {
      most = omega (arith, room, within, ap length items, length-append (take at page) ((c.args.key.now, c.in-Some.value) ∷ drop at page), length-drop at page, length-take_le at page);
      order = taken_order c.args.key.now c.args.new page c.deref.result.now c.insert.new.self.items at at c.deref.ensures.value c.in-Err.ensures.beside
          (items ∙ ap (λ (new : Option g.row.V.Denot). take at page ++ (option_to_list (entry_of c.args.key.now new) ++ drop at page)) (sym c.in-Some.is)) c.requires.whole.order;
    }
