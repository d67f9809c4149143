use Rattle.std.proofs.Common.{◌≡◌, ◌<◌, ◌∙◌, List, Some, ap, length, refl, subst, sym, IfOk}
use Rattle.std.specs.Prelude.{slice_set}
use Rattle.std.proofs.lemmas.List.{set-get_or}
use Rattle.std.proofs.lemmas.Option.{slice_get_read}
use Rattle.alone.specs.declared.answers.Answer.{Answer}
use Rattle.commit.specs.declared.seats.Seat.{Seat}
use Rattle.commit.specs.Cores.{IsLive}
use Rattle.commit.specs.Events.{EngineState, IsAnswered, after, seat_of, txn_of}
use Rattle.commit.specs.contracts.engine.Engine as engine
use Rattle.commit.proofs.Living.{all_live, holds_of, if_answered, is_after, is_answered}
use Rattle.commit.proofs.engine.Engine.answer_kept.Goals as goal

pub answer_event_kept-requires-clause-live : goal.answer_event_kept-requires-clause-live
answer_event_kept-requires-clause-live g c =
    holds_of (IsLive c.self.inside.core) c.index_mut.result.now.txn (λ t e. c.self.invariant.each c.in-Some.place t
    (ap txn_of (slice_get_read c.self.inside.seats.items (length c.self.inside.seats.items) c.in-Some.place c.index_mut.result.now refl
    (subst (λ (seats : List Seat). c.in-Some.place < length seats) c.as_slice.ensures.value c.in-Some.ensures.within) c.index_mut.ensures.value) ∙ e))

pub invariant_of-self : goal.invariant_of-self
invariant_of-self g c =
    let within : c.in-Some.place < length c.self.inside.seats.items
    = subst (λ (seats : List Seat). c.in-Some.place < length seats) c.as_slice.ensures.value c.in-Some.ensures.within in
    all_live (engine.the_view c.self.inside) c.args.line.now c.in-Some.place c.index_mut.result.now c.answer_event_kept.new.core c.answer_event_kept.new.seat
    c.self.invariant within
    (slice_get_read c.self.inside.seats.items (length c.self.inside.seats.items) c.in-Some.place c.index_mut.result.now refl within c.index_mut.ensures.value)
    c.answer_event_kept.result c.answer_event_kept.ensures.commits c.answer_event_kept.ensures.seat c.answer_event_kept.ensures.same
    (ap (slice_set c.self.inside.seats.items c.in-Some.place) c.index_mut.ensures.value ∙ set-get_or c.self.inside.seats.items c.in-Some.place c.index_mut.result.now)
    c.answer_event_kept.ensures.live

pub returns-clause-answered : goal.returns-clause-answered
returns-clause-answered g c =
    subst (λ (s : EngineState). IfOk c.answer_event_kept.result (IsAnswered s c.args.line.now)) c.self.view_is
    (if_answered c.answer_event_kept.result (IsAnswered (engine.the_view c.self.inside) c.args.line.now)
    (is_answered (engine.the_view c.self.inside) c.args.line.now c.in-Some.place c.index_mut.result.now c.answer_event_kept.new.core c.answer_event_kept.new.seat
    (subst (λ (seats : List Seat). seat_of seats c.args.line.now.session ≡ Some c.in-Some.place) c.as_slice.ensures.value (sym c.in-Some.ensures.found)) (slice_get_read c.self.inside.seats.items (length c.self.inside.seats.items) c.in-Some.place c.index_mut.result.now refl (subst (λ (seats : List Seat). c.in-Some.place < length seats) c.as_slice.ensures.value c.in-Some.ensures.within) c.index_mut.ensures.value)
    c.answer_event_kept.result c.answer_event_kept.ensures.takes c.answer_event_kept.ensures.answered))

pub returns-clause-after : goal.returns-clause-after
returns-clause-after g c =
    let left : EngineState = record { core = c.answer_event_kept.new.core; seats = slice_set c.self.inside.seats.items c.in-Some.place c.answer_event_kept.new.seat } in
    subst (λ (s : EngineState). IfOk c.answer_event_kept.result (λ answer. left ≡ after s c.args.line.now answer)) c.self.view_is
    (if_answered c.answer_event_kept.result (λ (answer : Answer). left ≡ after (engine.the_view c.self.inside) c.args.line.now answer)
    (is_after (engine.the_view c.self.inside) c.args.line.now c.in-Some.place c.index_mut.result.now c.answer_event_kept.new.core c.answer_event_kept.new.seat
    (subst (λ (seats : List Seat). seat_of seats c.args.line.now.session ≡ Some c.in-Some.place) c.as_slice.ensures.value (sym c.in-Some.ensures.found)) (slice_get_read c.self.inside.seats.items (length c.self.inside.seats.items) c.in-Some.place c.index_mut.result.now refl (subst (λ (seats : List Seat). c.in-Some.place < length seats) c.as_slice.ensures.value c.in-Some.ensures.within) c.index_mut.ensures.value)
    c.answer_event_kept.result c.answer_event_kept.ensures.known c.answer_event_kept.ensures.commits c.answer_event_kept.ensures.seat c.answer_event_kept.ensures.same
    (ap (slice_set c.self.inside.seats.items c.in-Some.place) c.index_mut.ensures.value ∙ set-get_or c.self.inside.seats.items c.in-Some.place c.index_mut.result.now)))
