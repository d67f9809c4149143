-- Seats of sessions, one for each.
use Rattle.std.proofs.Common.{◌≡◌, ◌≤◌, ◌<◌, ◌+◌, ℕ, true, false, nat_le, List, [], ◌∷◌, length, Option, Some, None, ap, arith}
use Rattle.std.proofs.lemmas.Bool.{le-leb, lt-leb}
use Rattle.std.proofs.lemmas.List.{length-append}
use Rattle.syntax.specs.declared.statements.ScriptLine.{ScriptLine}
use Rattle.commit.specs.declared.seats.Seat.{Seat}
use Rattle.commit.specs.Events.{seat_of}
use Rattle.commit.specs.Runs.{seats_with_all, free_seat, seats_with, unless_seated}

-- a session more takes no seat away
unless_grows : (place : Option ℕ) (seats : List Seat) (session : List ℕ) → length seats ≤ length (unless_seated place seats session)
unless_grows None seats session = let more = length-append seats (free_seat session ∷ []) in omega (arith, more)
unless_grows (Some place) seats session = omega arith

pub seats_grow : (seats : List Seat) (lines : List ScriptLine) → length seats ≤ length (seats_with_all seats lines)
seats_grow seats [] = omega arith
seats_grow seats (line ∷ rest) =
    let one = unless_grows (seat_of seats line.session) seats line.session in
    let others = seats_grow (seats_with seats line.session) rest in
    omega (arith, one, others)

-- and it takes one at most
unless_short : (place : Option ℕ) (seats : List Seat) (session : List ℕ) → length (unless_seated place seats session) ≤ length seats + 1
unless_short None seats session = let more = length-append seats (free_seat session ∷ []) in omega (arith, more)
unless_short (Some place) seats session = omega arith

seats_within : (seats : List Seat) (lines : List ScriptLine) → length (seats_with_all seats lines) ≤ length seats + length lines
seats_within seats [] = omega arith
seats_within seats (line ∷ rest) =
    let one = unless_short (seat_of seats line.session) seats line.session in
    let others = seats_within (seats_with seats line.session) rest in
    omega (arith, one, others)

-- there are no more seats than events
pub enough : (lines : List ScriptLine) → nat_le (length (seats_with_all [] lines)) (length lines) ≡ true
enough lines = let within = seats_within [] lines in le-leb (length (seats_with_all [] lines)) (length lines) (omega (arith, within))

-- where there are too many seats already, there are too many in the end
pub too_many : (seats : List Seat) (rest lines : List ScriptLine) (most : ℕ) → seats_with_all seats rest ≡ seats_with_all [] lines → most < length seats
    → nat_le (length (seats_with_all [] lines)) most ≡ false
too_many seats rest lines most same many =
    let grown = seats_grow seats rest in
    let long : length (seats_with_all seats rest) ≡ length (seats_with_all [] lines) = ap length same in
    lt-leb (length (seats_with_all [] lines)) most (omega (arith, grown, many, long))
