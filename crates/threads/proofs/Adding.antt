-- Scripts to which the lines are added one by one are those of the sessions, each with the lines of its session.
use Rattle.std.proofs.Common.{◌≡◌, ◌+◌, ℕ, suc, Bool, true, false, cond, List, [], ◌∷◌, ◌++◌, Option, Some, None, map, refl, sym, ap, ◌∙◌, subst, append-nil, append_assoc, arith}
use Rattle.std.specs.Prelude.{slice_get, ⊤}
use Rattle.std.specs.List.{position, position_from}
use Rattle.std.specs.Str.{bytes_eq}
use Rattle.std.specs.Option.{option_map}
use Rattle.std.proofs.lemmas.Iterator.Adapters.{position_from-zero}
use Rattle.std.proofs.lemmas.List.Elements.{filter-append}
use Rattle.std.proofs.lemmas.Slice.Eq.{bytes_eq-Decides}
use Rattle.syntax.specs.declared.statements.ScriptLine.{ScriptLine}
use Rattle.commit.specs.declared.seats.Seat.{Seat}
use Rattle.commit.specs.Events.{seat_of}
use Rattle.commit.specs.Runs.{seats_with_all, free_seat, seats_with, unless_seated}
use Rattle.threads.specs.declared.scripts.Script.{Script}
use Rattle.threads.specs.Adding.{scripts_with_line, added_at, added_to, scripts_with_lines, first_line, script_of, with_line}
use Rattle.threads.specs.Grouping.{scripts_of, script_for, lines_of}

same_bytes : (a b : List ℕ) → bytes_eq a b ≡ true → a ≡ b
same_bytes a b e = (bytes_eq-Decides a b).0 e

bytes_self : (a : List ℕ) → bytes_eq a a ≡ true
bytes_self a = (bytes_eq-Decides a a).1 refl

clash : {P : Type 0} (b : Bool) → b ≡ true → b ≡ false → P
clash b t f = let no : ⊥ = cc in absurd no

turn_false : (a b : List ℕ) (r : Bool) → bytes_eq b a ≡ r → bytes_eq a b ≡ false → r ≡ false
turn_false a b false is e = refl
turn_false a b true is e = clash (bytes_eq a b) (ap (bytes_eq a) (same_bytes b a is) ∙ bytes_self a) e

other_bytes : (a b : List ℕ) → bytes_eq a b ≡ false → bytes_eq b a ≡ false
other_bytes a b e = turn_false a b (bytes_eq b a) refl e

-- no seat is the session's, and no two are of one session
abbrev HasNot : List Seat → List ℕ → Type 0
HasNot [] session = ⊤
HasNot (seat ∷ rest) session = (bytes_eq seat.session session ≡ false) × HasNot rest session

abbrev AreApart : List Seat → Type 0
AreApart [] = ⊤
AreApart (seat ∷ rest) = HasNot rest seat.session × AreApart rest

-- with a seat for a session, and with a line more, by one seat and one script after the other
abbrev seat_put : List Seat → List ℕ → List Seat
seat_put [] session = free_seat session ∷ []
seat_put (seat ∷ rest) session = cond (bytes_eq seat.session session) (seat ∷ rest) (seat ∷ seat_put rest session)

abbrev put : List Script → ScriptLine → List Script
put [] line = first_line line ∷ []
put (script ∷ rest) line = cond (bytes_eq script.name line.session) (with_line line script ∷ rest) (script ∷ put rest line)

later_by : {X : Type 0} (test : X → Bool) (i : ℕ) (xs : List X) (rest : Option ℕ) (here : Bool) → position_from test (i + 1 + 1) xs ≡ option_map suc rest
    → cond here (Some (i + 1)) (position_from test (i + 1 + 1) xs) ≡ option_map suc (cond here (Some i) rest)
later_by test i xs rest true e = ap Some (omega arith)
later_by test i xs rest false e = e

-- one place later where the list starts one later
later : {X : Type 0} (test : X → Bool) (i : ℕ) (xs : List X) → position_from test (i + 1) xs ≡ option_map suc (position_from test i xs)
later test i [] = refl
later test i (x ∷ xs) = later_by test i xs (position_from test (i + 1) xs) (test x) (later test (i + 1) xs)

-- the first place of a list with one more in front
front : {X : Type 0} (test : X → Bool) (x : X) (xs : List X) → position test (x ∷ xs) ≡ cond (test x) (Some 0) (option_map suc (position test xs))
front test x xs =
    position_from-zero test (x ∷ xs)
    ∙ ap (cond (test x) (Some 0)) (later test 0 xs ∙ ap (option_map suc) (sym (position_from-zero test xs)))

to_behind : (script : Script) (scripts : List Script) (line : ScriptLine) (place : ℕ) (found : Option Script)
    → added_to (script ∷ scripts) line (suc place) found ≡ script ∷ added_to scripts line place found
to_behind script scripts line place None = refl
to_behind script scripts line place (Some found) = refl

added_behind : (script : Script) (scripts : List Script) (line : ScriptLine) (place : Option ℕ)
    → added_at (script ∷ scripts) line (option_map suc place) ≡ script ∷ added_at scripts line place
added_behind script scripts line None = refl
added_behind script scripts line (Some place) = to_behind script scripts line place (slice_get scripts place)

put_by : (script : Script) (rest : List Script) (line : ScriptLine) (here : Bool) → scripts_with_line rest line ≡ put rest line
    → added_at (script ∷ rest) line (cond here (Some 0) (option_map suc (script_of rest line.session)))
    ≡ cond here (with_line line script ∷ rest) (script ∷ put rest line)
put_by script rest line true is = refl
put_by script rest line false is = added_behind script rest line (script_of rest line.session) ∙ ap (λ more. script ∷ more) is

put_is : (scripts : List Script) (line : ScriptLine) → scripts_with_line scripts line ≡ put scripts line
put_is [] line = refl
put_is (script ∷ rest) line =
    ap (added_at (script ∷ rest) line) (front (λ (s : Script). bytes_eq s.name line.session) script rest)
    ∙ put_by script rest line (bytes_eq script.name line.session) (put_is rest line)

seat_behind : (seat : Seat) (seats : List Seat) (session : List ℕ) (place : Option ℕ)
    → unless_seated (option_map suc place) (seat ∷ seats) session ≡ seat ∷ unless_seated place seats session
seat_behind seat seats session None = refl
seat_behind seat seats session (Some place) = refl

seat_by : (seat : Seat) (rest : List Seat) (session : List ℕ) (here : Bool) → seats_with rest session ≡ seat_put rest session
    → unless_seated (cond here (Some 0) (option_map suc (seat_of rest session))) (seat ∷ rest) session
    ≡ cond here (seat ∷ rest) (seat ∷ seat_put rest session)
seat_by seat rest session true is = refl
seat_by seat rest session false is = seat_behind seat rest session (seat_of rest session) ∙ ap (λ more. seat ∷ more) is

seat_is : (seats : List Seat) (session : List ℕ) → seats_with seats session ≡ seat_put seats session
seat_is [] session = refl
seat_is (seat ∷ rest) session =
    ap (λ place. unless_seated place (seat ∷ rest) session) (front (λ (s : Seat). bytes_eq s.session session) seat rest)
    ∙ seat_by seat rest session (bytes_eq seat.session session) (seat_is rest session)

-- a seat that is put in, and what it means that it is not there
not_put_by : (seat : Seat) (rest put : List Seat) (other : List ℕ) (here : Bool) → HasNot (seat ∷ rest) other → HasNot put other
    → HasNot (cond here (seat ∷ rest) (seat ∷ put)) other
not_put_by seat rest put other true has new = has
not_put_by seat rest put other false has new = (has.0, new)

not_put : (seats : List Seat) (session other : List ℕ) → HasNot seats other → bytes_eq session other ≡ false → HasNot (seat_put seats session) other
not_put [] session other has apart = (apart, tt)
not_put (seat ∷ rest) session other has apart =
    not_put_by seat rest (seat_put rest session) other (bytes_eq seat.session session) has (not_put rest session other has.1 apart)

apart_by : (seat : Seat) (rest : List Seat) (session : List ℕ) (here : Bool) → bytes_eq seat.session session ≡ here → AreApart (seat ∷ rest)
    → AreApart (seat_put rest session) → AreApart (cond here (seat ∷ rest) (seat ∷ seat_put rest session))
apart_by seat rest session true is apart new = apart
apart_by seat rest session false is apart new = (not_put rest session seat.session apart.0 (other_bytes seat.session session is), new)

put_apart : (seats : List Seat) (session : List ℕ) → AreApart seats → AreApart (seat_put seats session)
put_apart [] session apart = (tt, tt)
put_apart (seat ∷ rest) session apart = apart_by seat rest session (bytes_eq seat.session session) refl apart (put_apart rest session apart.1)

was_not_by : (seat : Seat) (rest put : List Seat) (session other : List ℕ) (here : Bool) → bytes_eq seat.session session ≡ here
    → HasNot (cond here (seat ∷ rest) (seat ∷ put)) other → (HasNot put other → HasNot rest other × (bytes_eq session other ≡ false))
    → HasNot (seat ∷ rest) other × (bytes_eq session other ≡ false)
was_not_by seat rest put session other true is has new = (has, ap (λ s. bytes_eq s other) (sym (same_bytes seat.session session is)) ∙ has.0)
was_not_by seat rest put session other false is has new = let both = new has.1 in ((has.0, both.0), both.1)

was_not : (seats : List Seat) (session other : List ℕ) → HasNot (seat_put seats session) other → HasNot seats other × (bytes_eq session other ≡ false)
was_not [] session other has = (tt, has.0)
was_not (seat ∷ rest) session other has =
    was_not_by seat rest (seat_put rest session) session other (bytes_eq seat.session session) refl has (λ h. was_not rest session other h)

-- the lines of a session with one line more
more_lines : (session : List ℕ) (lines : List ScriptLine) (line : ScriptLine) (here : Bool) → bytes_eq line.session session ≡ here
    → lines_of session (lines ++ line ∷ []) ≡ lines_of session lines ++ cond here (line ∷ []) []
more_lines session lines line here is =
    filter-append (λ (s : ScriptLine). bytes_eq s.session session) lines (line ∷ []) ∙ ap (λ b. lines_of session lines ++ cond b (line ∷ []) []) is

same_script : (lines : List ScriptLine) (line : ScriptLine) (seat : Seat) → bytes_eq line.session seat.session ≡ false → script_for lines seat ≡ script_for (lines ++ line ∷ []) seat
same_script lines line seat apart =
    ap (λ all. record { name = seat.session; lines = all }) (sym (more_lines seat.session lines line false apart ∙ append-nil (lines_of seat.session lines)))

same_scripts : (lines : List ScriptLine) (line : ScriptLine) (seats : List Seat) → HasNot seats line.session → map (script_for lines) seats ≡ map (script_for (lines ++ line ∷ [])) seats
same_scripts lines line [] has = refl
same_scripts lines line (seat ∷ rest) has =
    ap (λ s. s ∷ map (script_for lines) rest) (same_script lines line seat (other_bytes seat.session line.session has.0))
    ∙ ap (λ more. script_for (lines ++ line ∷ []) seat ∷ more) (same_scripts lines line rest has.1)

-- the scripts of some lines, with one line more
line_by : (lines : List ScriptLine) (line : ScriptLine) (seat : Seat) (rest : List Seat) (here : Bool) → bytes_eq seat.session line.session ≡ here → HasNot rest seat.session
    → (bytes_eq seat.session line.session ≡ false → put (map (script_for lines) rest) line ≡ map (script_for (lines ++ line ∷ [])) (seat_put rest line.session))
    → cond here (with_line line (script_for lines seat) ∷ map (script_for lines) rest) (script_for lines seat ∷ put (map (script_for lines) rest) line)
    ≡ map (script_for (lines ++ line ∷ [])) (cond here (seat ∷ rest) (seat ∷ seat_put rest line.session))
line_by lines line seat rest true is apart new =
    let same : seat.session ≡ line.session = same_bytes seat.session line.session is in
    let mine : bytes_eq line.session seat.session ≡ true = ap (bytes_eq line.session) same ∙ bytes_self line.session in
    ap (λ all. record { name = seat.session; lines = all } ∷ map (script_for lines) rest) (sym (more_lines seat.session lines line true mine))
    ∙ ap (λ more. script_for (lines ++ line ∷ []) seat ∷ more) (same_scripts lines line rest (subst (HasNot rest) same apart))
line_by lines line seat rest false is apart new =
    ap (λ s. s ∷ put (map (script_for lines) rest) line) (same_script lines line seat (other_bytes seat.session line.session is))
    ∙ ap (λ more. script_for (lines ++ line ∷ []) seat ∷ more) (new is)

one_line : (lines : List ScriptLine) (line : ScriptLine) (seats : List Seat) → AreApart seats → (HasNot seats line.session → lines_of line.session lines ≡ [])
    → put (map (script_for lines) seats) line ≡ map (script_for (lines ++ line ∷ [])) (seat_put seats line.session)
one_line lines line [] apart none =
    ap (λ all. record { name = line.session; lines = all } ∷ [])
    (sym (more_lines line.session lines line true (bytes_self line.session) ∙ ap (λ all. all ++ line ∷ []) (none tt)))
one_line lines line (seat ∷ rest) apart none =
    line_by lines line seat rest (bytes_eq seat.session line.session) refl apart.0 (λ e. one_line lines line rest apart.1 (λ h. none (e, h)))

-- what holds of the lines so far, of the seats of their sessions and of their scripts
record IsGrouped (lines : List ScriptLine) (seats : List Seat) (scripts : List Script) : Type 0 where
  apart : AreApart seats
  none : (session : List ℕ) → HasNot seats session → lines_of session lines ≡ []
  are : scripts ≡ map (script_for lines) seats

grouped_more : (lines : List ScriptLine) (seats : List Seat) (scripts : List Script) (line : ScriptLine) → IsGrouped lines seats scripts
    → IsGrouped (lines ++ line ∷ []) (seats_with seats line.session) (scripts_with_line scripts line)
grouped_more lines seats scripts line g = subst (λ s. IsGrouped (lines ++ line ∷ []) s (scripts_with_line scripts line)) (sym (seat_is seats line.session)) (record {
  apart = put_apart seats line.session g.apart;
  none = λ session has.
      let was = was_not seats line.session session has in
      more_lines session lines line false was.1 ∙ append-nil (lines_of session lines) ∙ g.none session was.0;
  are = put_is scripts line ∙ ap (λ s. put s line) g.are ∙ one_line lines line seats g.apart (g.none line.session);
})

all_grouped : (lines left : List ScriptLine) (seats : List Seat) (scripts : List Script) → IsGrouped lines seats scripts
    → scripts_with_lines scripts left ≡ map (script_for (lines ++ left)) (seats_with_all seats left)
all_grouped lines [] seats scripts g = g.are ∙ ap (λ all. map (script_for all) seats) (sym (append-nil lines))
all_grouped lines (line ∷ left) seats scripts g =
    all_grouped (lines ++ line ∷ []) left (seats_with seats line.session) (scripts_with_line scripts line) (grouped_more lines seats scripts line g)
    ∙ ap (λ all. map (script_for all) (seats_with_all (seats_with seats line.session) left)) (append_assoc lines (line ∷ []) left)

-- each script has the lines of its session
pub grouped_are : (lines : List ScriptLine) → scripts_with_lines [] lines ≡ scripts_of lines
grouped_are lines = all_grouped [] lines [] [] (record { apart = tt; none = λ session has. refl; are = refl })
