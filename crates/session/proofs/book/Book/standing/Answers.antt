use Rattle.std.proofs.Common.{◌≡◌, ap, ◌∙◌, subst}
use Rattle.assertion.specs.Declarations.{Declared}
use Rattle.alone.specs.Modes.{assertion_of}
use Rattle.txn.specs.Transactions.{truth_of}
use Rattle.session.specs.Answers.{IsStanding}
use Rattle.session.specs.Books.{BookState}
use Rattle.session.proofs.Standing.{stands, stands_newest}
use Rattle.session.proofs.book.Book.standing.Goals as goal

pub returns-then-not-is_from : goal.returns-then-not-is_from
returns-then-not-is_from g c =
    let view = c.args.loaded.now.value.view in
    let is : c.verdict_on.result ≡ truth_of view (assertion_of c.args.name.now view.declared.assertions) =
    rw (ap (λ i. i.view) c.item.ensures) at c.verdict_on.ensures in
    rw is (stands view.declared view.state c.args.name.now c.requires.good)

pub returns : goal.returns
returns g c =
    let same : c.self.inside.core.declared ≡ c.args.loaded.now.value.view.declared = ap (λ (b : BookState). b.core.declared) c.self.view_is ∙ c.recall_loaded.ensures.declared_is in
    subst (λ (d : Declared). IsStanding (assertion_of c.args.name.now d.assertions) c.verdict.result) same
    (stands_newest c.self.inside.core c.args.name.now c.recall_log.ensures c.recall_serializability.ensures c.verdict.result c.verdict.ensures)
