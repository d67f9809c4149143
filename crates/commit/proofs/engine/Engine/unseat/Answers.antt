use Rattle.std.proofs.Common.{◌≡◌, ◌<◌, ◌∙◌, List, Some, ap, length, refl, subst, sym}
use Rattle.std.specs.Prelude.{slice_get}
use Rattle.std.proofs.lemmas.Option.{slice_get_read}
use Rattle.commit.specs.declared.seats.Seat.{Seat}
use Rattle.commit.specs.Cores.{IsLive}
use Rattle.commit.specs.Events.{AreLive, EngineState, seat_of, txn_of, without_session}
use Rattle.commit.specs.contracts.engine.Engine as engine
use Rattle.commit.proofs.Living.{holds_of, is_unseated, live_unseated}
use Rattle.commit.proofs.engine.Engine.unseat.Goals as goal

pub roll_back-requires-clause-live : goal.roll_back-requires-clause-live
roll_back-requires-clause-live c =
    holds_of (IsLive c.self.inside.core) c.index_mut.result.now.txn (λ t e. c.self.invariant.each c.in-Some.place t
    (ap txn_of (slice_get_read c.self.inside.seats.items (length c.self.inside.seats.items) c.in-Some.place c.index_mut.result.now refl
    (subst (λ (seats : List Seat). c.in-Some.place < length seats) c.as_slice.ensures.value c.in-Some.ensures.within) c.index_mut.ensures.value) ∙ e))

pub invariant_of-self : goal.invariant_of-self
invariant_of-self c =
    let within : c.in-Some.place < length c.self.inside.seats.items
    = subst (λ (seats : List Seat). c.in-Some.place < length seats) c.as_slice.ensures.value c.in-Some.ensures.within in
    let there : slice_get c.self.inside.seats.items c.in-Some.place ≡ Some c.index_mut.result.now
    = slice_get_read c.self.inside.seats.items (length c.self.inside.seats.items) c.in-Some.place c.index_mut.result.now refl within c.index_mut.ensures.value in
    subst (AreLive c.roll_back.new.core) (sym c.remove.ensures.items)
    (live_unseated (engine.the_view c.self.inside) c.in-Some.place c.index_mut.result.now c.roll_back.new.seat c.roll_back.new.core c.roll_back.result
    there c.roll_back.ensures.commits c.self.invariant within c.roll_back.ensures.seat)

pub returns : goal.returns
returns c =
    let within : c.in-Some.place < length c.self.inside.seats.items
    = subst (λ (seats : List Seat). c.in-Some.place < length seats) c.as_slice.ensures.value c.in-Some.ensures.within in
    let there : slice_get c.self.inside.seats.items c.in-Some.place ≡ Some c.index_mut.result.now
    = slice_get_read c.self.inside.seats.items (length c.self.inside.seats.items) c.in-Some.place c.index_mut.result.now refl within c.index_mut.ensures.value in
    (λ i. record { core = c.roll_back.new.core; seats = c.remove.ensures.items i })
    ∙ is_unseated (engine.the_view c.self.inside) c.in-Some.place c.index_mut.result.now c.roll_back.new.seat c.roll_back.new.core c.roll_back.result
    there c.roll_back.ensures.commits c.args.session.now
    (subst (λ (seats : List Seat). seat_of seats c.args.session.now ≡ Some c.in-Some.place) c.as_slice.ensures.value (sym c.in-Some.ensures.found))
    ∙ ap (λ (s : EngineState). without_session s c.args.session.now) c.self.view_is
