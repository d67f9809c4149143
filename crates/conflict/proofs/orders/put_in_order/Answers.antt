use Rattle.std.proofs.Common.{◌≡◌, suc, ◌∷◌, [], ◌++◌, insert, length, reverse, sym, ap, ◌∙◌, arith}
use Rattle.std.proofs.lemmas.List.{length-reverse}
use Rattle.alone.specs.Order.{rank_at}
use Rattle.conflict.proofs.Puts.{put_at_place, put_last}
use Rattle.conflict.proofs.orders.put_in_order.Goals as goal

pub returns-then-place-commit : goal.returns-then-place-commit
returns-then-place-commit c =
    let log = reverse c.args.committed.now in
    let commit = c.args.commit.now in
    let next : commit.number ≡ suc (length log)
    = omega (arith, c.requires.next, length-reverse c.args.committed.now) in
    c.push_reserved.ensures.items
    ∙ ap (λ o. o ++ commit.number ∷ []) c.requires.order
    ∙ put_last log commit c.requires.log next c.if-not-commit.true (sym c.requires.place ∙ c.if-place-commit.true)

pub returns : goal.returns
returns c =
    let log = reverse c.args.committed.now in
    let commit = c.args.commit.now in
    c.in-Ok.ensures.items
    ∙ ap (λ o. insert o c.place_of-at.result commit.number) c.requires.order
    ∙ put_at_place log commit c.rank_of.result c.place_of-at.result
    (c.rank_of.ensures ∙ ap (λ p. rank_at p commit) c.requires.place) c.place_of-at.ensures
