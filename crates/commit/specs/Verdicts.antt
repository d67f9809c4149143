-- The truths of assertions on the tables that are there after some events, each evaluated from scratch.
use Rattle.std.specs.Prelude.{List, Option}
use Rattle.std.specs.Option.{option_map}
use Rattle.value.specs.declared.truths.Truth.{Truth}
use Rattle.txn.specs.Transactions.{OpenTransaction, own_view, truths_on}
use Rattle.commit.specs.declared.seats.Seat.{Seat}

-- on the own view of the transaction that is open in a seat, if one is
abbrev pub live_truths : Seat → Option (List Truth)
live_truths seat = option_map (λ (t : OpenTransaction). truths_on (own_view t)) seat.txn
