use Rattle.std.proofs.Common.{◌≡◌, ◌<◌, ◌∙◌, List, Some, ap, length, refl, subst, sym}
use Rattle.std.specs.Prelude.{slice_set}
use Rattle.std.proofs.lemmas.List.{set-get_or}
use Rattle.std.proofs.lemmas.Option.{slice_get_read}
use Rattle.commit.specs.declared.seats.Seat.{Seat}
use Rattle.commit.specs.Cores.{IsLive}
use Rattle.commit.specs.Events.{EngineState, IsAnswered, after, seat_of, txn_of}
use Rattle.commit.specs.contracts.engine.Engine as engine
use Rattle.commit.proofs.Living.{all_live, holds_of, is_after, is_answered}
use Rattle.commit.proofs.engine.Engine.answer.Goals as goal

pub answer_event-answered-requires-clause-live : goal.answer_event-answered-requires-clause-live
answer_event-answered-requires-clause-live c =
    holds_of (IsLive c.self.inside.core) c.index_mut.result.now.txn (λ t e. c.self.invariant.each c.in-Some.place t
    (ap txn_of (slice_get_read c.self.inside.seats.items (length c.self.inside.seats.items) c.in-Some.place c.index_mut.result.now refl
    (subst (λ (seats : List Seat). c.in-Some.place < length seats) c.as_slice.ensures.value c.in-Some.ensures.within) c.index_mut.ensures.value) ∙ e))

pub invariant_of-self : goal.invariant_of-self
invariant_of-self c =
    let within : c.in-Some.place < length c.self.inside.seats.items
    = subst (λ (seats : List Seat). c.in-Some.place < length seats) c.as_slice.ensures.value c.in-Some.ensures.within in
    all_live (engine.the_view c.self.inside) c.args.line.now c.in-Some.place c.index_mut.result.now c.answer_event-answered.new.core c.answer_event-answered.new.seat
    c.self.invariant within
    (slice_get_read c.self.inside.seats.items (length c.self.inside.seats.items) c.in-Some.place c.index_mut.result.now refl within c.index_mut.ensures.value)
    c.answer_event-answered.result c.answer_event-answered.ensures.commits c.answer_event-answered.ensures.seat c.answer_event-answered.ensures.same
    (ap (slice_set c.self.inside.seats.items c.in-Some.place) c.index_mut.ensures.value ∙ set-get_or c.self.inside.seats.items c.in-Some.place c.index_mut.result.now)
    c.answer_event-answered.ensures.live

pub returns-clause-answered : goal.returns-clause-answered
returns-clause-answered c =
    subst (λ (s : EngineState). IsAnswered s c.args.line.now c.as_answer.result) c.self.view_is
    (subst (IsAnswered (engine.the_view c.self.inside) c.args.line.now) (sym c.as_answer.ensures)
    (is_answered (engine.the_view c.self.inside) c.args.line.now c.in-Some.place c.index_mut.result.now c.answer_event-answered.new.core c.answer_event-answered.new.seat
    (subst (λ (seats : List Seat). seat_of seats c.args.line.now.session ≡ Some c.in-Some.place) c.as_slice.ensures.value (sym c.in-Some.ensures.found)) (slice_get_read c.self.inside.seats.items (length c.self.inside.seats.items) c.in-Some.place c.index_mut.result.now refl (subst (λ (seats : List Seat). c.in-Some.place < length seats) c.as_slice.ensures.value c.in-Some.ensures.within) c.index_mut.ensures.value)
    c.answer_event-answered.result c.answer_event-answered.ensures.takes c.answer_event-answered.ensures.answered))

pub returns-clause-after : goal.returns-clause-after
returns-clause-after c =
    is_after (engine.the_view c.self.inside) c.args.line.now c.in-Some.place c.index_mut.result.now c.answer_event-answered.new.core c.answer_event-answered.new.seat
    (subst (λ (seats : List Seat). seat_of seats c.args.line.now.session ≡ Some c.in-Some.place) c.as_slice.ensures.value (sym c.in-Some.ensures.found)) (slice_get_read c.self.inside.seats.items (length c.self.inside.seats.items) c.in-Some.place c.index_mut.result.now refl (subst (λ (seats : List Seat). c.in-Some.place < length seats) c.as_slice.ensures.value c.in-Some.ensures.within) c.index_mut.ensures.value)
    c.answer_event-answered.result c.answer_event-answered.ensures.known c.answer_event-answered.ensures.commits c.answer_event-answered.ensures.seat c.answer_event-answered.ensures.same
    (ap (slice_set c.self.inside.seats.items c.in-Some.place) c.index_mut.ensures.value ∙ set-get_or c.self.inside.seats.items c.in-Some.place c.index_mut.result.now)
    ∙ (λ i. after (c.self.view_is i) c.args.line.now (sym c.as_answer.ensures i))
