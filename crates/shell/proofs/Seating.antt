-- Sessions that get their seats as they come are answered as if all had had theirs from the start.
use Rattle.std.proofs.Common.{◌≡◌, ◌+◌, ℕ, zero, suc, Bool, true, false, cond, List, [], ◌∷◌, ◌++◌, length, map, Option, Some, None, inl, inr, refl, sym, ap, ◌∙◌, subst, append-nil, append_assoc}
use Rattle.std.specs.Prelude.{nat_lt, slice_get, slice_set, is_some}
use Rattle.std.specs.List.{position_from}
use Rattle.std.specs.Str.{bytes_eq}
use Rattle.std.proofs.lemmas.Iterator.Adapters.{position_from-zero}
use Rattle.std.proofs.lemmas.List.{length-map, map-append, set-append_left}
use Rattle.std.proofs.lemmas.Option.{same_Some}
use Rattle.std.proofs.lemmas.Slice.Eq.{bytes_eq-Decides}
use Rattle.syntax.specs.declared.statements.ScriptLine.{ScriptLine}
use Rattle.alone.specs.declared.answers.Answer.{Answer}
use Rattle.txn.specs.Transactions.{OpenTransaction}
use Rattle.commit.specs.declared.seats.Seat.{Seat}
use Rattle.commit.specs.Cores.{CoreState}
use Rattle.commit.specs.Events.{EngineState, IsAnswered, IsAnsweredAt, IsReply, after, after_at, core_after, found_no_memory, seat_of, seats_set, takes_memory, takes_memory_at, txn_after, txn_of}
use Rattle.commit.specs.Runs.{seats_with_all, free_seat, unless_seated}
use Rattle.commit.proofs.Running.{HasSeat, has_seat}
use Rattle.replay.specs.Texts.{most_sessions}
use Rattle.shell.specs.Seats.{seated_lines, seated_within, engine_with_seat}

abbrev Names : Type 0
Names = List (List ℕ)

abbrev names : List Seat → Names
names seats = map (λ (seat : Seat). seat.session) seats

abbrev is_of : List ℕ → Seat → Bool
is_of session seat = bytes_eq seat.session session

abbrev place_in : Names → List ℕ → Option ℕ
place_in sessions session = position_from (λ name. bytes_eq name session) 0 sessions

from_names : (session : List ℕ) (i : ℕ) (seats : List Seat) → position_from (is_of session) i seats ≡ position_from (λ name. bytes_eq name session) i (names seats)
from_names session i [] = refl
from_names session i (seat ∷ seats) = ap (cond (bytes_eq seat.session session) (Some i)) (from_names session (i + 1) seats)

-- the place of a seat, by the sessions' names alone
place_by_name : (seats : List Seat) (session : List ℕ) → seat_of seats session ≡ place_in (names seats) session
place_by_name seats session = position_from-zero (is_of session) seats ∙ from_names session 0 seats

from_append : (t : Seat → Bool) (i : ℕ) (seats more : List Seat) (place : ℕ) → position_from t i seats ≡ Some place → position_from t i (seats ++ more) ≡ Some place
from_append t i [] more place e = let no : ⊥ = cc in absurd no
from_append t i (seat ∷ seats) more place e = go (t seat) (from_append t (i + 1) seats more place) e
  where
    go : (b : Bool) → (position_from t (i + 1) seats ≡ Some place → position_from t (i + 1) (seats ++ more) ≡ Some place)
        → cond b (Some i) (position_from t (i + 1) seats) ≡ Some place → cond b (Some i) (position_from t (i + 1) (seats ++ more)) ≡ Some place
    go true later e = e
    go false later e = later e

-- a seat that is found is found among more
place_more : (seats more : List Seat) (session : List ℕ) (place : ℕ) → seat_of seats session ≡ Some place → seat_of (seats ++ more) session ≡ Some place
place_more seats more session place e =
    position_from-zero (is_of session) (seats ++ more) ∙ from_append (is_of session) 0 seats more place (sym (position_from-zero (is_of session) seats) ∙ e)

some_from : (t : Seat → Bool) (i : ℕ) (seats : List Seat) (last : Seat) → t last ≡ true → is_some (position_from t i (seats ++ last ∷ [])) ≡ true
some_from t i [] last own = ap (λ b. is_some (cond b (Some i) None)) own
some_from t i (seat ∷ seats) last own = go (t seat) (some_from t (i + 1) seats last own)
  where
    go : (b : Bool) → is_some (position_from t (i + 1) (seats ++ last ∷ [])) ≡ true → is_some (cond b (Some i) (position_from t (i + 1) (seats ++ last ∷ []))) ≡ true
    go true later = refl
    go false later = later

-- a session whose seat was just made has one
some_new : (seats : List Seat) (session : List ℕ) → is_some (seat_of (seats ++ free_seat session ∷ []) session) ≡ true
some_new seats session =
    ap is_some (position_from-zero (is_of session) (seats ++ free_seat session ∷ []))
    ∙ some_from (is_of session) 0 seats (free_seat session) ((bytes_eq-Decides session session).1 refl)

-- ---- the seats that are still to come

abbrev by_place : Option ℕ → Bool → List ℕ → (same more : List Seat) → List Seat
by_place (Some place) room session same more = same
by_place None true session same more = free_seat session ∷ more
by_place None false session same more = same

-- by the names of those that are there
abbrev late : Names → List ScriptLine → List Seat
late sessions [] = []
late sessions (line ∷ rest) =
    by_place (place_in sessions line.session) (nat_lt (length sessions) most_sessions) line.session (late sessions rest) (late (sessions ++ line.session ∷ []) rest)

-- none, where there are as many as there may be
late_none : (sessions : Names) → nat_lt (length sessions) most_sessions ≡ false → (lines : List ScriptLine) → late sessions lines ≡ []
late_none sessions full [] = refl
late_none sessions full (line ∷ rest) = go (place_in sessions line.session) (late_none sessions full rest)
  where
    go : (place : Option ℕ) → late sessions rest ≡ []
        → by_place place (nat_lt (length sessions) most_sessions) line.session (late sessions rest) (late (sessions ++ line.session ∷ []) rest) ≡ []
    go (Some place) none = none
    go None none = ap (λ b. by_place None b line.session (late sessions rest) (late (sessions ++ line.session ∷ []) rest)) full ∙ none

module _ (seats : List Seat) (line : ScriptLine) (rest : List ScriptLine) where
  abbrev Now : List Seat
  Now = seated_within seats line.session

  within_is : (place : Option ℕ) (room : Bool) → seat_of seats line.session ≡ place → nat_lt (length seats) most_sessions ≡ room
      → Now ≡ cond room (unless_seated place seats line.session) seats
  within_is place room e f = λ i. cond (f i) (unless_seated (e i) seats line.session) seats

  -- the events that are kept, by the seats that there are now
  abbrev kept : List Seat → List ScriptLine
  kept now = cond (is_some (seat_of now line.session)) (line ∷ seated_lines now rest) (seated_lines now rest)

  kept_by : (now : List Seat) (b : Bool) → is_some (seat_of now line.session) ≡ b → kept now ≡ cond b (line ∷ seated_lines now rest) (seated_lines now rest)
  kept_by now b e = ap (λ b. cond b (line ∷ seated_lines now rest) (seated_lines now rest)) e

  -- one event more
  all_with_line : (place : Option ℕ) (room : Bool) → seat_of seats line.session ≡ place → nat_lt (length seats) most_sessions ≡ room
      → seats_with_all seats (kept Now) ≡ seats_with_all Now (seated_lines Now rest)
  all_with_line (Some place) room e f =
      let now : Now ≡ seats = within_is (Some place) room e f ∙ same room in
      let all : kept Now ≡ line ∷ seated_lines Now rest = kept_by Now true (ap (λ now. is_some (seat_of now line.session)) now ∙ ap is_some e) in
      ap (seats_with_all seats) all ∙ ap (λ at. seats_with_all (unless_seated at seats line.session) (seated_lines Now rest)) e
      ∙ ap (λ now. seats_with_all now (seated_lines Now rest)) (sym now)
    where
      same : (room : Bool) → cond room seats seats ≡ seats
      same true = refl
      same false = refl
  all_with_line None true e f =
      let now : Now ≡ seats ++ free_seat line.session ∷ [] = within_is None true e f in
      let all : kept Now ≡ line ∷ seated_lines Now rest = kept_by Now true (ap (λ now. is_some (seat_of now line.session)) now ∙ some_new seats line.session) in
      ap (seats_with_all seats) all ∙ ap (λ at. seats_with_all (unless_seated at seats line.session) (seated_lines Now rest)) e
      ∙ ap (λ now. seats_with_all now (seated_lines Now rest)) (sym now)
  all_with_line None false e f =
      let now : Now ≡ seats = within_is None false e f in
      let all : kept Now ≡ seated_lines Now rest = kept_by Now false (ap (λ now. is_some (seat_of now line.session)) now ∙ ap is_some e) in
      ap (seats_with_all seats) all ∙ ap (λ now. seats_with_all now (seated_lines Now rest)) (sym now)

  late_by : (now : List Seat) → List Seat
  late_by now = now ++ late (names now) rest

  placed : (place : Option ℕ) (room : Bool) → seat_of seats line.session ≡ place → nat_lt (length seats) most_sessions ≡ room
      → late (names seats) (line ∷ rest) ≡ by_place place room line.session (late (names seats) rest) (late (names seats ++ line.session ∷ []) rest)
  placed place room e f =
      let named : place_in (names seats) line.session ≡ place = sym (place_by_name seats line.session) ∙ e in
      let long : nat_lt (length (names seats)) most_sessions ≡ room = ap (λ n. nat_lt n most_sessions) (length-map seats (λ (seat : Seat). seat.session)) ∙ f in
      λ i. by_place (named i) (long i) line.session (late (names seats) rest) (late (names seats ++ line.session ∷ []) rest)

  -- the seats in the end, seen from here and from behind the event's session
  late_with_line : (place : Option ℕ) (room : Bool) → seat_of seats line.session ≡ place → nat_lt (length seats) most_sessions ≡ room
      → seats ++ late (names seats) (line ∷ rest) ≡ Now ++ late (names Now) rest
  late_with_line (Some place) room e f =
      ap (λ l. seats ++ l) (placed (Some place) room e f) ∙ ap (λ now. now ++ late (names now) rest) (sym (within_is (Some place) room e f ∙ same room))
    where
      same : (room : Bool) → cond room seats seats ≡ seats
      same true = refl
      same false = refl
  late_with_line None true e f =
      ap (λ l. seats ++ l) (placed None true e f)
      ∙ sym (append_assoc seats (free_seat line.session ∷ []) (late (names seats ++ line.session ∷ []) rest))
      ∙ ap (λ n. (seats ++ free_seat line.session ∷ []) ++ late n rest) (sym (map-append (λ (seat : Seat). seat.session) seats (free_seat line.session ∷ [])))
      ∙ ap (λ now. now ++ late (names now) rest) (sym (within_is None true e f))
  late_with_line None false e f =
      ap (λ l. seats ++ l) (placed None false e f) ∙ ap (λ now. now ++ late (names now) rest) (sym (within_is None false e f))

-- all seats, made at the start
pub seated_late : (seats : List Seat) (lines : List ScriptLine) → seats_with_all seats (seated_lines seats lines) ≡ seats ++ late (names seats) lines
seated_late seats [] = sym (append-nil seats)
seated_late seats (line ∷ rest) =
    all_with_line seats line rest (seat_of seats line.session) (nat_lt (length seats) most_sessions) refl refl
    ∙ seated_late (seated_within seats line.session) rest
    ∙ sym (late_with_line seats line rest (seat_of seats line.session) (nat_lt (length seats) most_sessions) refl refl)

-- ---- an engine with more seats answers alike

get_more : {X : Type 0} (xs ys : List X) (i : ℕ) (x : X) → slice_get xs i ≡ Some x → slice_get (xs ++ ys) i ≡ Some x
get_more [] ys i x e = let no : ⊥ = cc in absurd no
get_more (z ∷ zs) ys zero x e = e
get_more (z ∷ zs) ys (suc i) x e = get_more zs ys i x e

abbrev pub with_seats : CoreState → List Seat → EngineState
with_seats core seats = record { core = core; seats = seats }

abbrev with_more : EngineState → List Seat → EngineState
with_more now more = with_seats now.core (now.seats ++ more)

module _ (now : EngineState) (more : List Seat) (line : ScriptLine) (answer : Answer) (place : ℕ) (placed : seat_of now.seats line.session ≡ Some place) where
  abbrev full : EngineState
  full = with_more now more

  found : HasSeat now.seats line.session place
  found = has_seat now.seats line.session place placed

  placed_more : seat_of full.seats line.session ≡ Some place
  placed_more = place_more now.seats more line.session place placed

  there_more : slice_get full.seats place ≡ Some found.seat
  there_more = get_more now.seats more place found.seat found.there

  answered_more : IsAnswered now line answer → IsAnswered full line answer
  answered_more (inl none) = inl (record {
    takes = ap (takes_memory_at full line.event) placed_more ∙ ap (λ s. takes_memory line.event (txn_of s)) (there_more ∙ sym found.there)
        ∙ sym (ap (takes_memory_at now line.event) placed) ∙ none.takes;
    is = none.is;
  })
  answered_more (inr told) =
      let here : IsAnsweredAt now line.session line.event (Some place) answer = subst (λ at. IsAnsweredAt now line.session line.event at answer) placed told in
      let there : IsAnsweredAt full line.session line.event (Some place) answer =
      subst (λ s. IsReply now.core line.session line.event (txn_of s) answer) (found.there ∙ sym there_more) here in
      inr (subst (λ at. IsAnsweredAt full line.session line.event at answer) (sym placed_more) there)

  -- what the event leaves, by its seat
  abbrev left_at : List Seat → Option Seat → EngineState
  left_at seats seat = record {
    core = core_after now.core line.session line.event (txn_of seat) answer;
    seats = seats_set seats place (txn_after now.core line.event (txn_of seat)) seat;
  }

  left_more : left_at full.seats (Some found.seat) ≡ with_more (left_at now.seats (Some found.seat)) more
  left_more =
      ap (with_seats (core_after now.core line.session line.event found.seat.txn answer))
      (set-append_left now.seats more place (record { session = found.seat.session; txn = txn_after now.core line.event found.seat.txn }) found.within)

  after_more : after full line answer ≡ with_more (after now line answer) more
  after_more = go (found_no_memory answer)
    where
      go : (b : Bool) → cond b full (after_at full line.session line.event (seat_of full.seats line.session) answer)
          ≡ with_more (cond b now (after_at now line.session line.event (seat_of now.seats line.session) answer)) more
      go true = refl
      go false =
          ap (λ at. after_at full line.session line.event at answer) placed_more ∙ ap (left_at full.seats) there_more ∙ left_more
          ∙ ap (λ s. with_more (left_at now.seats s) more) (sym found.there)
          ∙ ap (λ at. with_more (after_at now line.session line.event at answer) more) (sym placed)

names_set : (seats : List Seat) (place : ℕ) (seat : Seat) (txn : Option OpenTransaction) → slice_get seats place ≡ Some seat
    → names (slice_set seats place (record seat { txn = txn })) ≡ names seats
names_set [] place seat txn e = refl
names_set (x ∷ xs) zero seat txn e = ap (λ (s : Seat). s.session ∷ names xs) (sym (same_Some x seat e))
names_set (x ∷ xs) (suc place) seat txn e = ap (λ l. x.session ∷ l) (names_set xs place seat txn e)

names_with : (seats : List Seat) (place : ℕ) (txn : Option OpenTransaction) (seat : Option Seat) → slice_get seats place ≡ seat → names (seats_set seats place txn seat) ≡ names seats
names_with seats place txn None e = refl
names_with seats place txn (Some seat) e = names_set seats place seat txn e

-- an event takes no session's seat
names_after : (now : EngineState) (line : ScriptLine) (answer : Answer) → names (after now line answer).seats ≡ names now.seats
names_after now line answer = go (found_no_memory answer)
  where
    left : (place : Option ℕ) → names (after_at now line.session line.event place answer).seats ≡ names now.seats
    left None = refl
    left (Some place) = names_with now.seats place (txn_after now.core line.event (txn_of (slice_get now.seats place))) (slice_get now.seats place) refl

    go : (b : Bool) → names (cond b now (after_at now line.session line.event (seat_of now.seats line.session) answer)).seats ≡ names now.seats
    go true = refl
    go false = left (seat_of now.seats line.session)

-- ---- with all seats that come later

abbrev pub whole : EngineState → List ScriptLine → EngineState
whole now lines = with_more now (late (names now.seats) lines)

pub whole_now : (now : EngineState) → whole now [] ≡ now
whole_now now = ap (with_seats now.core) (append-nil now.seats)

module _ (now : EngineState) (line : ScriptLine) (rest : List ScriptLine) where
  abbrev met : EngineState
  met = engine_with_seat now line.session

  whole_met : whole now (line ∷ rest) ≡ whole met rest
  whole_met =
      ap (with_seats now.core)
      (late_with_line now.seats line rest (seat_of now.seats line.session) (nat_lt (length now.seats) most_sessions) refl refl)

  -- who has no seat comes when there is none
  full_by : (place : Option ℕ) (room : Bool) → seat_of now.seats line.session ≡ place → nat_lt (length now.seats) most_sessions ≡ room
      → seat_of met.seats line.session ≡ None → nat_lt (length met.seats) most_sessions ≡ false
  full_by (Some place) room e f none =
      let same : met.seats ≡ cond room now.seats now.seats = within_is now.seats line rest (Some place) room e f in
      let some : is_some (seat_of met.seats line.session) ≡ true = ap (λ s. is_some (seat_of s line.session)) (same ∙ one room) ∙ ap is_some e in
      let no : ⊥ = (let other : is_some (seat_of met.seats line.session) ≡ false = ap is_some none in cc) in absurd no
    where
      one : (room : Bool) → cond room now.seats now.seats ≡ now.seats
      one true = refl
      one false = refl
  full_by None true e f none =
      let some : is_some (seat_of met.seats line.session) ≡ true =
      ap (λ s. is_some (seat_of s line.session)) (within_is now.seats line rest None true e f) ∙ some_new now.seats line.session in
      let no : ⊥ = (let other : is_some (seat_of met.seats line.session) ≡ false = ap is_some none in cc) in absurd no
  full_by None false e f none = ap (λ (s : List Seat). nat_lt (length s) most_sessions) (within_is now.seats line rest None false e f) ∙ f

  whole_full : seat_of met.seats line.session ≡ None → whole met rest ≡ met
  whole_full none =
      let full = full_by (seat_of now.seats line.session) (nat_lt (length now.seats) most_sessions) refl refl none in
      let long : nat_lt (length (names met.seats)) most_sessions ≡ false = ap (λ n. nat_lt n most_sessions) (length-map met.seats (λ (seat : Seat). seat.session)) ∙ full in
      ap (with_seats now.core)
      (ap (λ l. met.seats ++ l) (late_none (names met.seats) long rest) ∙ append-nil met.seats)

  module _ (answer : Answer) (answered : IsAnswered met line answer) where
    answered_by : (place : Option ℕ) → seat_of met.seats line.session ≡ place → IsAnswered (whole met rest) line answer
    answered_by None e = subst (λ n. IsAnswered n line answer) (sym (whole_full e)) answered
    answered_by (Some place) e = answered_more met (late (names met.seats) rest) line answer place e answered

    pub answered_whole : IsAnswered (whole now (line ∷ rest)) line answer
    answered_whole = subst (λ n. IsAnswered n line answer) (sym whole_met) (answered_by (seat_of met.seats line.session) refl)

    unchanged : seat_of met.seats line.session ≡ None → after met line answer ≡ met
    unchanged e = go (found_no_memory answer)
      where
        go : (b : Bool) → cond b met (after_at met line.session line.event (seat_of met.seats line.session) answer) ≡ met
        go true = refl
        go false = ap (λ at. after_at met line.session line.event at answer) e

    after_by : (place : Option ℕ) → seat_of met.seats line.session ≡ place → after (whole met rest) line answer ≡ whole (after met line answer) rest
    after_by None e =
        ap (λ n. after n line answer) (whole_full e) ∙ unchanged e ∙ sym (whole_full e) ∙ ap (λ n. whole n rest) (sym (unchanged e))
    after_by (Some place) e =
        after_more met (late (names met.seats) rest) line answer place e
        ∙ ap (λ n. with_more (after met line answer) (late n rest)) (sym (names_after met line answer))

    pub after_whole : after (whole now (line ∷ rest)) line answer ≡ whole (after met line answer) rest
    after_whole = ap (λ n. after n line answer) whole_met ∙ after_by (seat_of met.seats line.session) refl
