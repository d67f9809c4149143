-- Open transactions live on as others begin, are committed, and end.
use Rattle.std.proofs.Common.{◌≡◌, ◌<◌, Bool, ℕ, zero, suc, true, false, cond, List, [], ◌∷◌, ◌++◌, Option, Some, None, Result, Ok, Err, length, reverse, inl, inr, refl, sym, ap, ◌∙◌, subst, arith}
use Rattle.std.specs.Prelude.{◌⊎◌, remove, slice_get, slice_set, OnOk, OnErr, IfOk}
use Rattle.std.proofs.lemmas.Bool.{cases_eq}
use Rattle.std.proofs.lemmas.List.{length-append}
use Rattle.std.proofs.lemmas.List.Elements.{All-nil}
use Rattle.value.specs.Ordered.{HoldsOf}
use Rattle.value.specs.declared.refusals.Refusal.{Refusal}
use Rattle.syntax.specs.declared.statements.ScriptLine.{ScriptLine}
use Rattle.syntax.specs.declared.statements.Event.{Event}
use Rattle.syntax.specs.declared.statements.Event.TheVariants.{Begin, BeginReadOnly, Commit, Rollback, Run}
use Rattle.alone.specs.declared.answers.Answer.{Answer}
use Rattle.alone.specs.declared.answers.Answer.TheVariants.{Begun, Committed, Refused, Replied, RolledBack}
use Rattle.conflict.specs.declared.open_snapshots.LiveSnapshot.{LiveSnapshot}
use Rattle.conflict.specs.Live.{AreBelow, has_begin_number}
use Rattle.delta.specs.Views.{ViewState}
use Rattle.alone.specs.Epoch.{newest, state_of}
use Rattle.alone.proofs.Replays.{held_same}
use Rattle.alone.specs.declared.records.Record.{Record}
use Rattle.txn.specs.Transactions.{OpenTransaction, transaction_at_begin}
use Rattle.commit.specs.declared.seats.Seat.{Seat}
use Rattle.commit.specs.Cores.{CoreState, IsLive, core_after_commit, core_after_end, log_of, newest_tables, record_of, refused_to, with_begun}
use Rattle.commit.specs.Runs.{empty_core, seats_with_all, free_seat, seats_with, unless_seated}
use Rattle.commit.specs.Events.{AreLive, EngineState, IsAnswered, IsAnsweredAt, IsReply, after, after_at, core_after, core_without, decided_core, found_no_memory, seat_of, seats_set, as_answer, takes_memory, takes_memory_at, txn_after, txn_of, without_seat, without_session}
use Rattle.commit.proofs.Recording.{log_with}
use Rattle.commit.proofs.BeginNumbers.{fewer, held_more, held_other, one_more, begin_number_below}

-- what holds of both holds of either
pub either_way : {X : Type 0} (P : X → Type 0) (b : Bool) (x y : X) → P x → P y → P (cond b x y)
either_way P true x y one other = one
either_way P false x y one other = other

live_begun : (c : CoreState) (read_only : Bool) (other : OpenTransaction) → IsLive c other → IsLive (with_begun read_only c) other
live_begun c read_only other l = record {
  held = held_more c.live (length c.records) read_only (record { begin_number = other.begin_number; snapshot = other.snapshot; read_only = other.read_only }) l.held;
  declared_is = l.declared_is;
  within = l.within;
  start_is = l.start_is;
}

live_ended : (c : CoreState) (t other : OpenTransaction) → (other.begin_number ≡ t.begin_number → ⊥) → IsLive c other → IsLive (core_after_end c t) other
live_ended c t other apart l = record {
  held = held_other c.live t.begin_number (record { begin_number = other.begin_number; snapshot = other.snapshot; read_only = other.read_only }) apart l.held;
  declared_is = l.declared_is;
  within = l.within;
  start_is = l.start_is;
}

-- the tables of a snapshot stay as they are, whatever is committed after it
pub tables_stay : (c : CoreState) (commit : Record) (snapshot : ℕ) → snapshot < commit.number
    → state_of c.declared c.start (log_of c) snapshot ≡ state_of c.declared c.start (reverse (c.records ++ commit ∷ [])) snapshot
tables_stay c commit snapshot later =
    ap (newest c.declared c.start) (sym (held_same snapshot commit (log_of c) later))
    ∙ ap (λ log. state_of c.declared c.start log snapshot) (sym (log_with c.records commit))

live_committed : (c : CoreState) (session : List ℕ) (t other : OpenTransaction) → (other.begin_number ≡ t.begin_number → ⊥) → IsLive c other → IsLive (core_after_commit c session t) other
live_committed c session t other apart l = record {
  held = held_other c.live t.begin_number (record { begin_number = other.begin_number; snapshot = other.snapshot; read_only = other.read_only }) apart l.held;
  declared_is = l.declared_is;
  within = (let within = l.within in let long = length-append c.records (record_of c session t ∷ []) in omega arith);
  start_is = l.start_is ∙ tables_stay c (record_of c session t) other.snapshot (let within = l.within in omega arith);
}

live_refused : (c : CoreState) (session : List ℕ) (t : OpenTransaction) (refusal : Refusal) (other : OpenTransaction) → (other.begin_number ≡ t.begin_number → ⊥) → IsLive c other → IsLive (refused_to c session t refusal) other
live_refused c session t refusal other apart l = record {
  held = held_other c.live t.begin_number (record { begin_number = other.begin_number; snapshot = other.snapshot; read_only = other.read_only }) apart l.held;
  declared_is = l.declared_is;
  within = l.within;
  start_is = l.start_is;
}

live_decided : (c : CoreState) (session : List ℕ) (t : OpenTransaction) (answer : Answer) (other : OpenTransaction) → (other.begin_number ≡ t.begin_number → ⊥) → IsLive c other → IsLive (decided_core c session t answer) other
live_decided c session t (Begun number) other apart l = l
live_decided c session t (Replied reply) other apart l = l
live_decided c session t (Committed number) other apart l = live_committed c session t other apart l
live_decided c session t RolledBack other apart l = l
live_decided c session t (Refused refusal) other apart l = live_refused c session t refusal other apart l

-- another transaction than the one of a seat
abbrev IsApart : Option OpenTransaction → OpenTransaction → Type 0
IsApart txn other = (t : OpenTransaction) → txn ≡ Some t → other.begin_number ≡ t.begin_number → ⊥

-- as an event is answered
live_after : (c : CoreState) (session : List ℕ) (event : Event) (txn : Option OpenTransaction) (answer : Answer) (other : OpenTransaction) → IsApart txn other → IsLive c other → IsLive (core_after c session event txn answer) other
live_after c session Begin None answer other apart l = either_way (λ core. IsLive core other) (has_begin_number c.live) (with_begun false c) c (live_begun c false other l) l
live_after c session Begin (Some t) answer other apart l = l
live_after c session BeginReadOnly None answer other apart l = either_way (λ core. IsLive core other) (has_begin_number c.live) (with_begun true c) c (live_begun c true other l) l
live_after c session BeginReadOnly (Some t) answer other apart l = l
live_after c session (Run statement) txn answer other apart l = l
live_after c session Commit None answer other apart l = l
live_after c session Commit (Some t) answer other apart l = live_decided c session t answer other (apart t refl) l
live_after c session Rollback None answer other apart l = l
live_after c session Rollback (Some t) answer other apart l = live_ended c t other (apart t refl) l

below_decided : (c : CoreState) (session : List ℕ) (t : OpenTransaction) (answer : Answer) → AreBelow c.live.begun c.live.snapshots
    → AreBelow (decided_core c session t answer).live.begun (decided_core c session t answer).live.snapshots
below_decided c session t (Begun number) below = below
below_decided c session t (Replied reply) below = below
below_decided c session t (Committed number) below = fewer c.live t.begin_number below
below_decided c session t RolledBack below = below
below_decided c session t (Refused refusal) below = fewer c.live t.begin_number below

below_after : (c : CoreState) (session : List ℕ) (event : Event) (txn : Option OpenTransaction) (answer : Answer) → AreBelow c.live.begun c.live.snapshots
    → AreBelow (core_after c session event txn answer).live.begun (core_after c session event txn answer).live.snapshots
below_after c session Begin None answer below =
    either_way (λ (core : CoreState). AreBelow core.live.begun core.live.snapshots) (has_begin_number c.live) (with_begun false c) c (one_more c.live (length c.records) false below) below
below_after c session Begin (Some t) answer below = below
below_after c session BeginReadOnly None answer below =
    either_way (λ (core : CoreState). AreBelow core.live.begun core.live.snapshots) (has_begin_number c.live) (with_begun true c) c (one_more c.live (length c.records) true below) below
below_after c session BeginReadOnly (Some t) answer below = below
below_after c session (Run statement) txn answer below = below
below_after c session Commit None answer below = below
below_after c session Commit (Some t) answer below = below_decided c session t answer below
below_after c session Rollback None answer below = below
below_after c session Rollback (Some t) answer below = fewer c.live t.begin_number below

idle_decided : (c : CoreState) (session : List ℕ) (t : OpenTransaction) (answer : Answer) → c.prepared ≡ None → (decided_core c session t answer).prepared ≡ None
idle_decided c session t (Begun number) idle = idle
idle_decided c session t (Replied reply) idle = idle
idle_decided c session t (Committed number) idle = idle
idle_decided c session t RolledBack idle = idle
idle_decided c session t (Refused refusal) idle = idle

idle_after : (c : CoreState) (session : List ℕ) (event : Event) (txn : Option OpenTransaction) (answer : Answer) → c.prepared ≡ None → (core_after c session event txn answer).prepared ≡ None
idle_after c session Begin None answer idle = either_way (λ (core : CoreState). core.prepared ≡ None) (has_begin_number c.live) (with_begun false c) c idle idle
idle_after c session Begin (Some t) answer idle = idle
idle_after c session BeginReadOnly None answer idle = either_way (λ (core : CoreState). core.prepared ≡ None) (has_begin_number c.live) (with_begun true c) c idle idle
idle_after c session BeginReadOnly (Some t) answer idle = idle
idle_after c session (Run statement) txn answer idle = idle
idle_after c session Commit None answer idle = idle
idle_after c session Commit (Some t) answer idle = idle_decided c session t answer idle
idle_after c session Rollback None answer idle = idle
idle_after c session Rollback (Some t) answer idle = idle

abbrev begin_number_or : ℕ → Option OpenTransaction → ℕ
begin_number_or n None = n
begin_number_or n (Some t) = t.begin_number

-- what is open after an event has just begun, or its begin number is that of what was open before
abbrev IsFrom : CoreState → Option OpenTransaction → OpenTransaction → Type 0
IsFrom c txn t = (t.begin_number ≡ c.live.begun) ⊎ ((old : OpenTransaction) × (txn ≡ Some old) × (old.begin_number ≡ t.begin_number))

is_from : (c : CoreState) (event : Event) (txn : Option OpenTransaction) (t : OpenTransaction) → txn_after c event txn ≡ Some t → IsFrom c txn t
is_from c Begin None t e = go (has_begin_number c.live) e
  where
    go : (b : Bool) → cond b (Some (transaction_at_begin c.live.begun (length c.records) false (newest_tables c))) None ≡ Some t → IsFrom c None t
    go true e = inl (sym (ap (begin_number_or 0) e))
    go false e = let no : ⊥ = cc in absurd no
is_from c Begin (Some old) t e = inr (old, refl, ap (begin_number_or 0) e)
is_from c BeginReadOnly None t e = go (has_begin_number c.live) e
  where
    go : (b : Bool) → cond b (Some (transaction_at_begin c.live.begun (length c.records) true (newest_tables c))) None ≡ Some t → IsFrom c None t
    go true e = inl (sym (ap (begin_number_or 0) e))
    go false e = let no : ⊥ = cc in absurd no
is_from c BeginReadOnly (Some old) t e = inr (old, refl, ap (begin_number_or 0) e)
is_from c (Run statement) None t e = let no : ⊥ = cc in absurd no
is_from c (Run statement) (Some old) t e = inr (old, refl, ap (begin_number_or 0) e)
is_from c Commit txn t e = let no : ⊥ = cc in absurd no
is_from c Rollback txn t e = let no : ⊥ = cc in absurd no

holds_at : (P : OpenTransaction → Type 0) (txn : Option OpenTransaction) (t : OpenTransaction) → HoldsOf P txn → txn ≡ Some t → P t
holds_at P txn t h e = subst (HoldsOf P) e h

pub holds_of : (P : OpenTransaction → Type 0) (txn : Option OpenTransaction) → ((t : OpenTransaction) → txn ≡ Some t → P t) → HoldsOf P txn
holds_of P None f = tt
holds_of P (Some t) f = f t refl

-- what stands in a list of seats with one set
pub set_there : {X : Type 0} (xs : List X) (place : ℕ) (x : X) → place < length xs → slice_get (slice_set xs place x) place ≡ Some x
set_there [] place x within = let no : ⊥ = omega arith in absurd no
set_there (y ∷ ys) zero x within = refl
set_there (y ∷ ys) (suc place) x within = set_there ys place x (omega arith)

pub set_elsewhere : {X : Type 0} (xs : List X) (other place : ℕ) (x : X) → (other ≡ place → ⊥) → slice_get (slice_set xs place x) other ≡ slice_get xs other
set_elsewhere [] other place x apart = refl
set_elsewhere (y ∷ ys) zero zero x apart = absurd (apart refl)
set_elsewhere (y ∷ ys) zero (suc place) x apart = refl
set_elsewhere (y ∷ ys) (suc other) zero x apart = refl
set_elsewhere (y ∷ ys) (suc other) (suc place) x apart = set_elsewhere ys other place x (λ e. apart (ap suc e))

-- what holds of each open transaction, and of the one of a seat that is set, holds of each then
pub each_set : (P : OpenTransaction → Type 0) (seats : List Seat) (place : ℕ) (left : Seat) → place < length seats
    → ((i : ℕ) (t : OpenTransaction) → txn_of (slice_get seats i) ≡ Some t → P t) → HoldsOf P left.txn
    → (i : ℕ) (t : OpenTransaction) → txn_of (slice_get (slice_set seats place left) i) ≡ Some t → P t
each_set P seats place left within each own i t h = go (cases_eq i place)
  where
    go : (i ≡ place) ⊎ (i ≡ place → ⊥) → P t
    go (inl same) = holds_at P left.txn t own (sym (ap txn_of (ap (slice_get (slice_set seats place left)) same ∙ set_there seats place left within)) ∙ h)
    go (inr other) = each i t (sym (ap txn_of (set_elsewhere seats i place left other)) ∙ h)

-- What an event leaves, whose session has this seat.
module _ (now : EngineState) (line : ScriptLine) (place : ℕ) (seat : Seat) (core : CoreState) (left : Seat) where
  module _ (live : AreLive now.core now.seats) (within : place < length now.seats) (there : slice_get now.seats place ≡ Some seat) where
    -- the transaction of this seat
    here : (i : ℕ) (t : OpenTransaction) → i ≡ place → txn_of (slice_get (slice_set now.seats place left) i) ≡ Some t → left.txn ≡ Some t
    here i t e h = sym (ap txn_of (ap (slice_get (slice_set now.seats place left)) e ∙ set_there now.seats place left within)) ∙ h

    -- and of another
    there_still : (i : ℕ) (t : OpenTransaction) → (i ≡ place → ⊥) → txn_of (slice_get (slice_set now.seats place left) i) ≡ Some t → txn_of (slice_get now.seats i) ≡ Some t
    there_still i t apart h = sym (ap txn_of (set_elsewhere now.seats i place left apart)) ∙ h

    seat_txn : (old : OpenTransaction) → seat.txn ≡ Some old → txn_of (slice_get now.seats place) ≡ Some old
    seat_txn old e = ap txn_of there ∙ e

    none_of : (i j : ℕ) (t u : OpenTransaction) → (j ≡ place → ⊥) → txn_of (slice_get now.seats j) ≡ Some u → t.begin_number ≡ u.begin_number → IsFrom now.core seat.txn t → ⊥
    none_of i j t u apart g e (inl new) =
        let low = begin_number_below now.core.live (record { begin_number = u.begin_number; snapshot = u.snapshot; read_only = u.read_only }) live.begun (live.each j u g).held in
        omega (arith, low, new, e)
    none_of i j t u apart g e (inr old) = apart (sym (live.apart place j old.0 u (seat_txn old.0 old.1) g (old.2 ∙ e)))

    -- no other has the begin number of what is open in this seat then
    no_other : (from : (t : OpenTransaction) → left.txn ≡ Some t → IsFrom now.core seat.txn t) (i j : ℕ) (t u : OpenTransaction) → i ≡ place → (j ≡ place → ⊥)
        → left.txn ≡ Some t → txn_of (slice_get now.seats j) ≡ Some u → t.begin_number ≡ u.begin_number → ⊥
    no_other from i j t u at apart h g e = none_of i j t u apart g e (from t h)

    case_each : (answer : Answer) → core ≡ core_after now.core line.session line.event seat.txn answer → HoldsOf (IsLive core) left.txn
        → (i : ℕ) (t : OpenTransaction) → txn_of (slice_get (slice_set now.seats place left) i) ≡ Some t → (i ≡ place) ⊎ (i ≡ place → ⊥) → IsLive core t
    case_each answer e own i t h (inl same) = holds_at (IsLive core) left.txn t own (here i t same h)
    case_each answer e own i t h (inr other) =
        let was = there_still i t other h in
        subst (λ c. IsLive c t) (sym e) (live_after now.core line.session line.event seat.txn answer t
        (λ u is same. other (live.apart i place t u was (seat_txn u is) same)) (live.each i t was))

    case_apart : (from : (t : OpenTransaction) → left.txn ≡ Some t → IsFrom now.core seat.txn t) (i j : ℕ) (t u : OpenTransaction)
        → txn_of (slice_get (slice_set now.seats place left) i) ≡ Some t → txn_of (slice_get (slice_set now.seats place left) j) ≡ Some u → t.begin_number ≡ u.begin_number
        → (i ≡ place) ⊎ (i ≡ place → ⊥) → (j ≡ place) ⊎ (j ≡ place → ⊥) → i ≡ j
    case_apart from i j t u h g same (inl at) (inl also) = at ∙ sym also
    case_apart from i j t u h g same (inl at) (inr other) = absurd (no_other from i j t u at other (here i t at h) (there_still j u other g) same)
    case_apart from i j t u h g same (inr other) (inl at) = absurd (no_other from j i u t at other (here j u at g) (there_still i t other h) (sym same))
    case_apart from i j t u h g same (inr other) (inr also) = live.apart i j t u (there_still i t other h) (there_still j u also g) same

    pub all_answered : (answer : Answer) → core ≡ core_after now.core line.session line.event seat.txn answer → left ≡ record seat { txn = txn_after now.core line.event seat.txn }
        → HoldsOf (IsLive core) left.txn → AreLive core (slice_set now.seats place left)
    all_answered answer e f own =
        let from : (t : OpenTransaction) → left.txn ≡ Some t → IsFrom now.core seat.txn t = λ t h. is_from now.core line.event seat.txn t (sym (ap (λ (s : Seat). s.txn) f) ∙ h) in
        record {
          each = λ i t h. case_each answer e own i t h (cases_eq i place);
          apart = λ i j t u h g same. case_apart from i j t u h g same (cases_eq i place) (cases_eq j place);
          begun = subst (λ (c : CoreState). AreBelow c.live.begun c.live.snapshots) (sym e) (below_after now.core line.session line.event seat.txn answer live.begun);
          idle = ap (λ (c : CoreState). c.prepared) e ∙ idle_after now.core line.session line.event seat.txn answer live.idle;
        }

    pub all_live : {E : Type 0} (answered : Result Answer E) → IfOk answered (λ answer. core ≡ core_after now.core line.session line.event seat.txn answer)
        → OnOk answered (left ≡ record seat { txn = txn_after now.core line.event seat.txn })
        → OnErr answered ((core ≡ now.core) × (left ≡ seat)) → slice_set now.seats place seat ≡ now.seats
        → HoldsOf (IsLive core) left.txn → AreLive core (slice_set now.seats place left)
    all_live (Ok answer) e f g unchanged own = all_answered answer e f own
    all_live (Err refusal) e f g unchanged own =
        subst (λ c. AreLive c (slice_set now.seats place left)) (sym g.0) (subst (AreLive now.core) (sym (ap (slice_set now.seats place) g.1 ∙ unchanged)) live)

  module _ (seated : seat_of now.seats line.session ≡ Some place) (there : slice_get now.seats place ≡ Some seat) where
    pub is_answered : {E : Type 0} (answered : Result Answer E) → OnErr answered (takes_memory line.event seat.txn ≡ true)
        → IfOk answered (IsReply now.core line.session line.event seat.txn) → IsAnswered now line (as_answer answered)
    is_answered (Ok answer) takes reply =
        inr (subst (λ p. IsAnsweredAt now line.session line.event p answer) (sym seated) (subst (λ s. IsReply now.core line.session line.event (txn_of s) answer) (sym there) reply))
    is_answered (Err error) takes reply = inl (record {
      takes = ap (takes_memory_at now line.event) seated ∙ ap (λ s. takes_memory line.event (txn_of s)) there ∙ takes;
      is = refl;
    })

    pub is_after : {E : Type 0} (answered : Result Answer E) → IfOk answered (λ answer. found_no_memory answer ≡ false)
        → IfOk answered (λ answer. core ≡ core_after now.core line.session line.event seat.txn answer)
        → OnOk answered (left ≡ record seat { txn = txn_after now.core line.event seat.txn })
        → OnErr answered ((core ≡ now.core) × (left ≡ seat))
        → slice_set now.seats place seat ≡ now.seats
        → record { core = core; seats = slice_set now.seats place left } ≡ after now line (as_answer answered)
    is_after (Ok answer) known commits seats same unchanged =
        (λ i. record { core = commits i; seats = slice_set now.seats place (seats i) })
        ∙ ap (λ s. record { core = core_after now.core line.session line.event (txn_of s) answer; seats = seats_set now.seats place (txn_after now.core line.event (txn_of s)) s }) (sym there)
        ∙ ap (λ p. after_at now line.session line.event p answer) (sym seated)
        ∙ ap (λ b. cond b now (after_at now line.session line.event (seat_of now.seats line.session) answer)) (sym known)
    is_after (Err error) known commits seats same unchanged =
        λ i. record { core = same.0 i; seats = (ap (slice_set now.seats place) same.1 ∙ unchanged) i }

-- what holds of the answer that is given, or that there was none, holds of an answer
pub if_answered : {E : Type 0} (answered : Result Answer E) (P : Answer → Type 0) → P (as_answer answered) → IfOk answered P
if_answered (Ok answer) P p = p
if_answered (Err error) P p = tt

-- where an element of a list stood before the one at a place was taken out
before_removal : (place i : ℕ) → ℕ
before_removal zero i = suc i
before_removal (suc place) zero = zero
before_removal (suc place) (suc i) = suc (before_removal place i)

removed_at : {X : Type 0} (xs : List X) (place i : ℕ) → slice_get (remove xs place) i ≡ slice_get xs (before_removal place i)
unfolding before_removal
removed_at [] zero i = refl
removed_at [] (suc place) zero = refl
removed_at [] (suc place) (suc i) = refl
removed_at (x ∷ xs) zero i = refl
removed_at (x ∷ xs) (suc place) zero = refl
removed_at (x ∷ xs) (suc place) (suc i) = removed_at xs place i

pred_or : ℕ → ℕ → ℕ
pred_or n zero = n
pred_or n (suc i) = i

removed_apart : (place i j : ℕ) → before_removal place i ≡ before_removal place j → i ≡ j
unfolding before_removal pred_or
removed_apart zero i j e = ap (pred_or 0) e
removed_apart (suc place) zero zero e = refl
removed_apart (suc place) zero (suc j) e = let no : ⊥ = omega (arith, e) in absurd no
removed_apart (suc place) (suc i) zero e = let no : ⊥ = omega (arith, e) in absurd no
removed_apart (suc place) (suc i) (suc j) e = ap suc (removed_apart place i j (ap (pred_or 0) e))

-- a seat less opens no transaction
pub live_removed : (core : CoreState) (seats : List Seat) (place : ℕ) → AreLive core seats → AreLive core (remove seats place)
live_removed core seats place live = record {
  each = λ i t h. live.each (before_removal place i) t (sym (ap txn_of (removed_at seats place i)) ∙ h);
  apart = λ i j t u h g same. removed_apart place i j (live.apart (before_removal place i) (before_removal place j) t u
      (sym (ap txn_of (removed_at seats place i)) ∙ h) (sym (ap txn_of (removed_at seats place j)) ∙ g) same);
  begun = live.begun;
  idle = live.idle;
}

-- what was set there goes with it
pub removed_set : {X : Type 0} (xs : List X) (place : ℕ) (x : X) → remove (slice_set xs place x) place ≡ remove xs place
removed_set [] place x = refl
removed_set (y ∷ ys) zero x = refl
removed_set (y ∷ ys) (suc place) x = ap (λ rest. y ∷ rest) (removed_set ys place x)

-- the commits after a ROLLBACK, whatever it was answered
pub core_left : (core : CoreState) (session : List ℕ) (txn : Option OpenTransaction) (answer : Answer) → core_after core session Rollback txn answer ≡ core_without core txn
core_left core session None answer = refl
core_left core session (Some t) answer = refl

-- What is left where the session in a seat leaves, whose open transaction was rolled back.
module _ (now : EngineState) (place : ℕ) (seat left : Seat) (core : CoreState) (answer : Answer)
    (there : slice_get now.seats place ≡ Some seat) (rolled_back : core ≡ core_after now.core seat.session Rollback seat.txn answer) where
  pub live_unseated : AreLive now.core now.seats → place < length now.seats → left ≡ record seat { txn = None } → AreLive core (remove (slice_set now.seats place left) place)
  live_unseated live within closed =
      live_removed core (slice_set now.seats place left) place
      (all_answered now (record { session = seat.session; event = Rollback }) place seat core left live within there answer rolled_back closed
      (subst (λ (s : Seat). HoldsOf (IsLive core) s.txn) (sym closed) tt))

  pub is_unseated : (session : List ℕ) → seat_of now.seats session ≡ Some place → record { core = core; seats = remove (slice_set now.seats place left) place } ≡ without_session now session
  is_unseated session seated =
      (λ i. record { core = (rolled_back ∙ core_left now.core seat.session seat.txn answer) i; seats = removed_set now.seats place left i })
      ∙ ap (λ s. record { core = core_without now.core (txn_of s); seats = remove now.seats place }) (sym there)
      ∙ ap (without_seat now) (sym seated)

-- where no transaction is open, all are
abbrev AreFree : List Seat → Type 0
AreFree seats = (place : ℕ) → txn_of (slice_get seats place) ≡ None

one_seated : (seats : List Seat) (session : List ℕ) → AreFree seats → AreFree (seats ++ free_seat session ∷ [])
one_seated [] session free zero = refl
one_seated [] session free (suc place) = refl
one_seated (seat ∷ rest) session free zero = free zero
one_seated (seat ∷ rest) session free (suc place) = one_seated rest session (λ place. free (suc place)) place

seated_free : (seats : List Seat) (session : List ℕ) (place : Option ℕ) → AreFree seats → AreFree (unless_seated place seats session)
seated_free seats session None free = one_seated seats session free
seated_free seats session (Some place) free = free

pub all_free : (seats : List Seat) (lines : List ScriptLine) → AreFree seats → AreFree (seats_with_all seats lines)
all_free seats [] free = free
all_free seats (line ∷ rest) free = all_free (seats_with seats line.session) rest (seated_free seats line.session (seat_of seats line.session) free)

pub all_seated_live : (core : CoreState) (lines : List ScriptLine) → AreBelow core.live.begun core.live.snapshots → core.prepared ≡ None → AreLive core (seats_with_all [] lines)
all_seated_live core lines below idle =
    let free = all_free [] lines (λ place. refl) in record {
      each = λ place t h. let e = free place in let no : ⊥ = cc in absurd no;
      apart = λ place other t u h g same. let e = free place in let no : ⊥ = cc in absurd no;
      begun = below;
      idle = idle;
    }

-- before the first event no transaction is open
pub live_at_beginning : (limit : ℕ) (loaded : ViewState) (core : CoreState) (lines : List ScriptLine) (seats : List Seat)
    → core ≡ empty_core limit loaded → seats ≡ seats_with_all [] lines → AreLive core seats
live_at_beginning limit loaded core lines seats new seated =
    subst (AreLive core) (sym seated) (all_seated_live core lines
    (subst (λ (s : CoreState). AreBelow s.live.begun s.live.snapshots) (sym new) (All-nil (λ (one : LiveSnapshot). one.begin_number < 0)))
    (ap (λ (s : CoreState). s.prepared) new))

-- a free seat more opens no transaction
open_before : (seats : List Seat) (session : List ℕ) (place : ℕ) (t : OpenTransaction) → txn_of (slice_get (seats ++ free_seat session ∷ []) place) ≡ Some t
    → txn_of (slice_get seats place) ≡ Some t
open_before [] session zero t h = let no : ⊥ = cc in absurd no
open_before [] session (suc place) t h = h
open_before (seat ∷ rest) session zero t h = h
open_before (seat ∷ rest) session (suc place) t h = open_before rest session place t h

unless_live : (core : CoreState) (seats : List Seat) (session : List ℕ) (at : Option ℕ) → AreLive core seats → AreLive core (unless_seated at seats session)
unless_live core seats session (Some at) live = live
unless_live core seats session None live = record {
  each = λ place t h. live.each place t (open_before seats session place t h);
  apart = λ place other t u h g same. live.apart place other t u (open_before seats session place t h) (open_before seats session other u g) same;
  begun = live.begun;
  idle = live.idle;
}

-- nor does a seat for a session
seated_live : (core : CoreState) (seats : List Seat) (session : List ℕ) → AreLive core seats → AreLive core (seats_with seats session)
seated_live core seats session live = unless_live core seats session (seat_of seats session) live

-- and where there was no memory for it, there are the seats of before
pub live_with_seat : {A E : Type 0} (core : CoreState) (old new : List Seat) (session : List ℕ) (result : Result A E)
    → OnOk result (new ≡ seats_with old session) → OnErr result (new ≡ old) → AreLive core old → AreLive core new
live_with_seat core old new session (Ok made) more same live = subst (AreLive core) (sym more) (seated_live core old session live)
live_with_seat core old new session (Err refusal) more same live = subst (AreLive core) (sym same) live
