use Rattle.std.proofs.Common.{◌≡◌, Result, Ok, Err, IsErrAnd, sym, subst, ap, ◌∙◌}
use Rattle.syntax.specs.StatementGrammar.{IsEvent}
use Rattle.token.specs.Lexer.{tokens_of}
use Rattle.syntax.specs.Answer.{Fits}
use Rattle.syntax.specs.Lexemes.{lexemes}
use Rattle.parse.specs.Told.{Gave, most_open}
use Rattle.value.specs.declared.refusals.Refusal.{Refusal}
use Rattle.value.specs.declared.refusals.Refusal.TheVariants as refusal
use Rattle.prepared.specs.Numbers.{numbers_from}
use Rattle.prepared.specs.Prepared as spec
use Rattle.prepared.specs.Prepared.{numbers_of}
use Rattle.prepared.proofs.prepared.prepare.Goals as goal

-- what is refused is no tree of either type
gave_err : {A B : Type 0} (a : A) (b : B) (r : Refusal) → Gave a (Err r) → Gave b (Err r)
gave_err a b refusal.NoMemory h = tt
gave_err a b _ h = h

gave_refused : {A B : Type 0} (a : A) (b : B) (r : Refusal) (answer : Result B Refusal) → Gave a (Err r) → IsErrAnd answer (λ y. y ≡ r) → Gave b answer
gave_refused a b r (Ok x) given is = absurd is
gave_refused a b r (Err y) given is = subst (λ z. Gave b (Err z)) (sym is) (gave_err a b r given)

pub returns-in_err-event-clause-only : goal.returns-in_err-event-clause-only
returns-in_err-event-clause-only c = λ event reads fits in_place.
    let same = c.deref-3.ensures.value ∙ c.in_ok-mask.ensures in
    let given = c.in_err-event.ensures.only event (subst (λ z. IsEvent (lexemes z) event) (sym same) reads) (subst (λ z. Fits most_open (lexemes z)) (sym same) fits) in
    gave_refused event (spec.prepared_of c.args.text.now event) c.in_err-event.field-0.0 _ given c.from_residual-in_err-event.ensures.1

pub returns-in-None-clause-only : goal.returns-in-None-clause-only
unfolding numbers_of
returns-in-None-clause-only c = λ event reads fits in_place.
    let same = c.deref-3.ensures.value ∙ c.in_ok-mask.ensures in
    let given = c.in_ok-event.ensures.only event (subst (λ z. IsEvent (lexemes z) event) (sym same) reads) (subst (λ z. Fits most_open (lexemes z)) (sym same) fits) in
    let tokens = c.deref-2.ensures.value ∙ c.in_ok-tokens.ensures.all ∙ ap tokens_of (c.deref.ensures.value ∙ c.in_ok-mask.ensures) in
    let numbers = c.from_vec.ensures ∙ c.in_ok-numbers.ensures ∙ ap (numbers_from c.args.text.now 0) tokens in
    λ i. record { event = given i; numbers = numbers i }
