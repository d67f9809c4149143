-- The open sessions.
use Rattle.std.specs.Prelude.{◌==◌, ◌+◌, ◌&&◌, ◌||◌, ℕ, Bool, List, [], ◌∷◌, ◌++◌, length, remove, position, slice_get, nat_lt, Option, Some, None}
use Rattle.std.specs.Option.{option_map}
use Rattle.std.specs.List.{list_any}
use Rattle.std.specs.Str.{bytes_eq}
use Rattle.commit.specs.declared.seats.Seat.{Seat}
use Rattle.commit.specs.Events.{EngineState}
use Rattle.replay.specs.Texts.{most_sessions}
use Rattle.calls.specs.declared.sessions.Session.{Session}

-- in the order of their numbers, and the number that comes next
pub record SessionsState : Type 0 where
  pub entries : List Session
  pub next : ℕ

-- before the first, whose number is 1
abbrev pub no_sessions : SessionsState
no_sessions = record { entries = []; next = 1 }

-- a session of this name is open
abbrev pub is_named : List ℕ → SessionsState → Bool
is_named name s = list_any (λ (session : Session). bytes_eq session.name name) s.entries

-- a session of this name has a seat
abbrev pub has_seat : List ℕ → List Seat → Bool
has_seat name seats = list_any (λ (seat : Seat). bytes_eq seat.session name) seats

-- or there is one for it
abbrev pub is_seat_free : List Seat → List ℕ → Bool
is_seat_free seats name = nat_lt (length seats) most_sessions || has_seat name seats

-- there is a number for one more, and a seat for its name
abbrev pub has_room : EngineState → List ℕ → SessionsState → Bool
has_room now name s = nat_lt s.next 18446744073709551615 && is_seat_free now.seats name

-- with one more
abbrev pub with_session : List ℕ → SessionsState → SessionsState
with_session name s = record {
  entries = s.entries ++ record { number = s.next; name = name } ∷ [];
  next = s.next + 1;
}

-- where the session of a number stands
abbrev pub place_of : ℕ → List Session → Option ℕ
place_of number entries = position (λ (session : Session). session.number == number) entries

-- the session at a place, if there is one
abbrev pub session_in : List Session → Option ℕ → Option Session
session_in entries None = None
session_in entries (Some place) = slice_get entries place

-- the session of a number
abbrev pub session_at : ℕ → SessionsState → Option Session
session_at number s = session_in s.entries (place_of number s.entries)

-- the name of the session of a number
abbrev pub session_name : ℕ → SessionsState → Option (List ℕ)
session_name number s = option_map (λ (session : Session). session.name) (session_at number s)

-- the sessions without the one at a place
abbrev pub all_but : List Session → Option ℕ → List Session
all_but entries None = entries
all_but entries (Some place) = remove entries place

-- without the session of a number
abbrev pub without_session : ℕ → SessionsState → SessionsState
without_session number s = record s { entries = all_but s.entries (place_of number s.entries) }
