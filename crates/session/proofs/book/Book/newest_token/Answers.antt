use Rattle.std.proofs.Common.{rules, ◌≡◌, ◌∙◌, ap, length, Some}
use Rattle.std.specs.List.{slice_get}
use Rattle.assertion.specs.Meaning.{State}
use Rattle.session.specs.declared.items.Item.{Item}
use Rattle.session.proofs.Tokens.{newest_at}
use Rattle.session.proofs.book.Book.newest_token.Goals as goal

pub returns-clause-shown : goal.returns-clause-shown
returns-clause-shown g c =
    let at : slice_get c.self.inside.tokens.items (length c.self.inside.core.records) ≡ Some c.token_at.result = search rules in
    rw (← c.self.view_is) (c.self.invariant.tokens.each _ _ at).shown

pub returns-clause-number : goal.returns-clause-number
returns-clause-number g c =
    let at : slice_get c.self.inside.tokens.items (length c.self.inside.core.records) ≡ Some c.token_at.result = search rules in
    rw (← c.self.view_is) (ap (λ (x : Item). x.number) (c.self.invariant.tokens.each _ _ at).item)

pub returns-clause-view : goal.returns-clause-view
returns-clause-view g c =
    let core = c.self.inside.core in
    let at : slice_get c.self.inside.tokens.items (length core.records) ≡ Some c.token_at.result = search rules in
    rw (← c.self.view_is) (ap (λ (x : Item). x.view) (c.self.invariant.tokens.each _ _ at).item
    ∙ ap (λ (s : State). record { declared = core.declared; state = s }) (newest_at core.declared core.start core.records c.recall_log.ensures))

pub returns-clause-epoch : goal.returns-clause-epoch
returns-clause-epoch g c =
    let at : slice_get c.self.inside.tokens.items (length c.self.inside.core.records) ≡ Some c.token_at.result = search rules in
    rw (← c.self.view_is) (ap (λ (x : Item). x.epoch) (c.self.invariant.tokens.each _ _ at).item)
