use Rattle.std.proofs.Common.{◌≡◌, ◌-◌, List, Some, length, sym, ap, ◌∙◌, subst}
use Rattle.std.specs.Prelude.{slice_get}
use Rattle.std.specs.Option.{option_copied}
use Rattle.commit.specs.declared.seats.Seat.{Seat}
use Rattle.commit.specs.Cores.{CoreState, IsLive}
use Rattle.commit.specs.Events.{txn_of}
use Rattle.tests_of_libraries.proofs.commit_tests.is_last_safe.Goals as goal

pub is_safe-requires-clause-live : goal.is_safe-requires-clause-live
is_safe-requires-clause-live c =
    let last = length c.seats.result.now - 1 in
    let there : slice_get c.args.engine.now.seats last ≡ Some c.in-Some.seat.now
    = ap (λ (seats : List Seat). slice_get seats last) (sym c.seats.ensures) ∙ sym c.last.ensures.value ∙ ap option_copied c.in-Some.is in
    subst (λ (core : CoreState). IsLive core c.in-Some-txn.txn) (sym c.core.ensures) (c.requires.each last c.in-Some-txn.txn (ap txn_of there ∙ c.in-Some-txn.is))
