-- What transactions were told is what they answer alone: an event more, and a whole run.
use Rattle.std.proofs.Common.{◌≡◌, ◌+◌, ◌<◌, ℕ, zero, suc, Bool, true, false, not, cond, List, [], ◌∷◌, ◌++◌, length, take, Option, Some, None, Result, Ok, Err, inl, inr, refl, sym, ap, ◌∙◌, subst, arith, append-nil, append_assoc}
use Rattle.std.specs.Prelude.{Contains, nat_lt, slice_get, slice_set}
use Rattle.std.specs.List.{position, prefix_len}
use Rattle.std.specs.Str.{bytes_eq}
use Rattle.std.proofs.Math.Seq.{take-append_seam}
use Rattle.std.proofs.lemmas.Bool.{cases_Bool}
use Rattle.std.proofs.lemmas.List.{length-append, length-set, take-append-le}
use Rattle.std.proofs.lemmas.Option.{same_Some, slice_get_within}
use Rattle.std.proofs.lemmas.Slice.Eq.{bytes_eq-Decides}
use Rattle.value.specs.declared.refusals.Refusal.{Refusal}
use Rattle.value.specs.declared.refusals.Refusal.TheVariants.{EpochFull}
use Rattle.syntax.specs.declared.statements.ScriptLine.{ScriptLine}
use Rattle.syntax.specs.declared.statements.Event.{Event}
use Rattle.syntax.specs.declared.statements.Event.TheVariants.{Begin, BeginReadOnly, Commit, Rollback, Run}
use Rattle.alone.specs.declared.answers.Answer.{Answer}
use Rattle.alone.specs.declared.answers.Answer.TheVariants.{Begun, Committed, Refused, Replied, RolledBack}
use Rattle.alone.specs.declared.answers.Reply.{Reply}
use Rattle.siread.proofs.Members.{in_cases, not_in_nil}
use Rattle.alone.specs.declared.statements.ResolvedStatement.{ResolvedStatement}
use Rattle.alone.specs.Alone.{Outcome, IsSound, transaction}
use Rattle.alone.specs.Resolve.{resolution_of}
use Rattle.alone.proofs.Lists.{each_at}
use Rattle.conflict.specs.Live.{has_begin_number}
use Rattle.delta.specs.Views.{ViewState}
use Rattle.alone.specs.declared.records.Record.{Record}
use Rattle.alone.specs.Epoch.{outcome_on_snapshot}
use Rattle.alone.proofs.Ranks.{clean}
use Rattle.txn.specs.Transactions.{OpenTransaction, outcome_of, run_of, step_of, transaction_at_begin, with_statement}
use Rattle.commit.specs.declared.seats.Seat.{Seat}
use Rattle.commit.specs.Cores.{CoreState, IsLive, core_after_commit, log_of, newest_tables, record_of, with_begun}
use Rattle.commit.specs.Events.{EngineState, IsAnswered, IsAnsweredAt, IsCommitted, IsReply, after, after_at, answer_of, core_after, decided_core, found_no_memory, seat_of, txn_after, txn_of}
use Rattle.commit.specs.Runs.{AreAnswers, beginning, led_to}
use Rattle.commit.specs.Told.{Replies, WasTold, WereToldAlone, replies_after, replies_at, replies_by, replies_to, replies_with, reply_in}
use Rattle.commit.proofs.Living.{all_free, either_way, set_elsewhere, set_there, tables_stay}
use Rattle.commit.proofs.Recording.{below, log_with, outcome_is}
use Rattle.commit.proofs.Running.{IsRunning, accepts, has_seat, left_by, running_after, running_first}

-- an event that is not answered, or of a session that has no seat, tells nothing
silent : (event : Event) (answer : Answer) (replies : Replies) → found_no_memory answer ≡ true → replies_with event answer replies ≡ replies
silent Begin (Begun number) replies none = let no : ⊥ = cc in absurd no
silent Begin (Replied reply) replies none = refl
silent Begin (Committed number) replies none = refl
silent Begin RolledBack replies none = refl
silent Begin (Refused refusal) replies none = refl
silent BeginReadOnly (Begun number) replies none = let no : ⊥ = cc in absurd no
silent BeginReadOnly (Replied reply) replies none = refl
silent BeginReadOnly (Committed number) replies none = refl
silent BeginReadOnly RolledBack replies none = refl
silent BeginReadOnly (Refused refusal) replies none = refl
silent (Run statement) (Begun number) replies none = let no : ⊥ = cc in absurd no
silent (Run statement) (Replied reply) replies none = let no : ⊥ = cc in absurd no
silent (Run statement) (Committed number) replies none = let no : ⊥ = cc in absurd no
silent (Run statement) RolledBack replies none = let no : ⊥ = cc in absurd no
silent (Run statement) (Refused refusal) replies none = ap (λ b. replies ++ cond b [] (Err refusal ∷ [])) none ∙ append-nil replies
silent Commit answer replies none = refl
silent Rollback answer replies none = refl

silent_by : (session : List ℕ) (line : ScriptLine) (answer : Answer) (replies : Replies) → found_no_memory answer ≡ true → replies_by session line answer replies ≡ replies
silent_by session line answer replies none = go (bytes_eq line.session session)
  where
    go : (b : Bool) → cond b (replies_with line.event answer replies) replies ≡ replies
    go true = silent line.event answer replies none
    go false = refl

-- nor does one of another session
other_by : (session : List ℕ) (line : ScriptLine) (answer : Answer) (replies : Replies) → bytes_eq line.session session ≡ false → replies_by session line answer replies ≡ replies
other_by session line answer replies other = ap (λ b. cond b (replies_with line.event answer replies) replies) other

own_by : (session : List ℕ) (line : ScriptLine) (answer : Answer) (replies : Replies) → bytes_eq line.session session ≡ true → replies_by session line answer replies ≡ replies_with line.event answer replies
own_by session line answer replies own = ap (λ b. cond b (replies_with line.event answer replies) replies) own

-- one event more
replies_more : (session : List ℕ) (replies : Replies) (lines : List ScriptLine) (answers : List Answer) (line : ScriptLine) (answer : Answer) → length answers ≡ length lines
    → replies_after session replies (lines ++ line ∷ []) (answers ++ answer ∷ []) ≡ replies_by session line answer (replies_after session replies lines answers)
replies_more session replies [] [] line answer long = refl
replies_more session replies [] (b ∷ more) line answer long = absurd (omega (arith, long))
replies_more session replies (s ∷ rest) [] line answer long = absurd (omega (arith, long))
replies_more session replies (s ∷ rest) (b ∷ more) line answer long = replies_more session (replies_by session s b replies) rest more line answer (omega (arith, long))

-- what stood in a list stands there still
get_more : {X : Type 0} (xs ys : List X) (i : ℕ) (x : X) → slice_get xs i ≡ Some x → slice_get (xs ++ ys) i ≡ Some x
get_more [] ys i x e = let no : ⊥ = cc in absurd no
get_more (z ∷ zs) ys zero x e = e
get_more (z ∷ zs) ys (suc i) x e = get_more zs ys i x e

get_last : {X : Type 0} (xs : List X) (x : X) → slice_get (xs ++ x ∷ []) (length xs) ≡ Some x
get_last [] x = refl
get_last (z ∷ zs) x = get_last zs x

-- another item of which the test says the same changes no place
first_set : {X : Type 0} (p : X → Bool) (xs : List X) (i : ℕ) (x y : X) → slice_get xs i ≡ Some x → p y ≡ p x → prefix_len (λ z. not (p z)) (slice_set xs i y) ≡ prefix_len (λ z. not (p z)) xs
first_set p [] i x y e same = refl
first_set p (z ∷ zs) zero x y e same =
    let here : z ≡ x = cc in
    ap (λ b. cond (not b) (1 + prefix_len (λ z. not (p z)) zs) 0) (same ∙ ap p (sym here))
first_set p (z ∷ zs) (suc i) x y e same = ap (λ n. cond (not (p z)) (1 + n) 0) (first_set p zs i x y e same)

position_set : {X : Type 0} (p : X → Bool) (xs : List X) (i : ℕ) (x y : X) → slice_get xs i ≡ Some x → p y ≡ p x → position p (slice_set xs i y) ≡ position p xs
position_set p xs i x y e same = λ k. cond (nat_lt (first_set p xs i x y e same k) (length-set xs i y k)) (Some (first_set p xs i x y e same k)) None

-- that runs are joined
abbrev Joined : Type 0
Joined = (t : OpenTransaction) (statement : ResolvedStatement) → (run_of (with_statement t statement)).replies ≡ (run_of t).replies ++ (step_of t statement).reply ∷ []

-- a reply is told as it is
told_as : (reply : Result Reply Refusal) → found_no_memory (answer_of reply) ≡ false → reply_in (answer_of reply) ≡ reply ∷ []
told_as (Ok reply) known = refl
told_as (Err refusal) known = ap (λ b. cond b [] (Err refusal ∷ [])) known

-- what the transaction that is open then was told is what it answers
module _ (joined : Joined) (core : CoreState) (session : List ℕ) (answer : Answer) (replies : Replies) where
  told_begun : (read_only : Bool) (t : OpenTransaction) (room : Bool) → answer ≡ cond room (Begun (length core.records)) (Refused EpochFull)
      → cond room (Some (transaction_at_begin core.live.begun (length core.records) read_only (newest_tables core))) None ≡ Some t → replies_at answer replies ≡ (run_of t).replies
  told_begun read_only t true reply is_open = ap (λ a. replies_at a replies) reply ∙ ap (λ u. (run_of u).replies) (same_Some _ t is_open)
  told_begun read_only t false reply is_open = let no : ⊥ = cc in absurd no

  told_open : (event : Event) (txn : Option OpenTransaction) (t : OpenTransaction) → ((u : OpenTransaction) → txn ≡ Some u → replies ≡ (run_of u).replies)
      → found_no_memory answer ≡ false → IsReply core session event txn answer → txn_after core event txn ≡ Some t → replies_with event answer replies ≡ (run_of t).replies
  told_open Begin None t before known reply is_open = told_begun false t (has_begin_number core.live) reply is_open
  told_open Begin (Some u) t before known reply is_open =
      ap (λ a. replies_at a replies) reply ∙ before u refl ∙ ap (λ u. (run_of u).replies) (same_Some u t is_open)
  told_open BeginReadOnly None t before known reply is_open = told_begun true t (has_begin_number core.live) reply is_open
  told_open BeginReadOnly (Some u) t before known reply is_open =
      ap (λ a. replies_at a replies) reply ∙ before u refl ∙ ap (λ u. (run_of u).replies) (same_Some u t is_open)
  told_open (Run statement) None t before known reply is_open = let no : ⊥ = cc in absurd no
  told_open (Run statement) (Some u) t before known reply is_open =
      let next : ResolvedStatement = resolution_of u.declared u.read_only statement in
      ap (λ a. replies ++ reply_in a) reply
      ∙ ap (λ r. replies ++ r) (told_as (step_of u next).reply (ap found_no_memory (sym reply) ∙ known))
      ∙ ap (λ r. r ++ (step_of u next).reply ∷ []) (before u refl)
      ∙ sym (joined u next)
      ∙ ap (λ u. (run_of u).replies) (same_Some (with_statement u next) t is_open)
  told_open Commit txn t before known reply is_open = let no : ⊥ = cc in absurd no
  told_open Rollback txn t before known reply is_open = let no : ⊥ = cc in absurd no

-- what holds of the events so far
pub record IsTelling (now : EngineState) (lines : List ScriptLine) (answers : List Answer) : Type 0 where
  pub long : length answers ≡ length lines
  pub open_ones : (session : List ℕ) (place : ℕ) (t : OpenTransaction) → seat_of now.seats session ≡ Some place → txn_of (slice_get now.seats place) ≡ Some t
      → replies_to session lines answers ≡ (run_of t).replies
  pub alone : WereToldAlone now.core lines answers

module _ (joined : Joined) (now : EngineState) (lines : List ScriptLine) (answers : List Answer) (line : ScriptLine) (answer : Answer) (running : IsRunning now) (telling : IsTelling now lines answers) where
  more : (session : List ℕ) → replies_to session (lines ++ line ∷ []) (answers ++ answer ∷ []) ≡ replies_by session line answer (replies_to session lines answers)
  more session = replies_more session [] lines answers line answer telling.long

  -- a record that was told its replies was told them
  told_still : (commit : Record) (replies : Replies) → WasTold lines answers commit replies → WasTold (lines ++ line ∷ []) (answers ++ answer ∷ []) commit replies
  told_still commit replies told =
      let in_lines : told.place < length lines = slice_get_within lines told.place _ told.asked in
      let in_answers : told.place < length answers = slice_get_within answers told.place _ told.accepted in
      record {
        place = told.place;
        asked = get_more lines (line ∷ []) told.place _ told.asked;
        accepted = get_more answers (answer ∷ []) told.place _ told.accepted;
        told = (λ i. replies_to commit.session (take-append-le told.place lines (line ∷ []) (omega arith) i) (take-append-le told.place answers (answer ∷ []) (omega arith) i)) ∙ told.told;
      }

  alone_still : WereToldAlone now.core (lines ++ line ∷ []) (answers ++ answer ∷ [])
  alone_still = λ commit m. told_still commit _ (telling.alone commit m)

  -- the transaction that is committed was told what it answers
  module _ (place : ℕ) (t : OpenTransaction) (number : ℕ) (seated : seat_of now.seats line.session ≡ Some place) (there : txn_of (slice_get now.seats place) ≡ Some t)
      (commits : line.event ≡ Commit) (accepted : answer ≡ Committed number) (decided : IsCommitted now.core line.session t (Committed number)) where
    abbrev commit : Record
    commit = record_of now.core line.session t

    live : IsLive now.core t
    live = running.live.each place t there

    own_told : WasTold (lines ++ line ∷ []) (answers ++ answer ∷ []) commit (outcome_of t).replies
    own_told = record {
      place = length lines;
      asked = get_last lines line ∙ (λ i. Some (record { session = line.session; event = commits i }));
      accepted = ap (slice_get (answers ++ answer ∷ [])) (sym telling.long) ∙ get_last answers answer ∙ ap Some accepted
          ∙ ap (λ n. Some (Committed n)) (accepts now.core line.session t number decided).answer.0;
      told = (λ i. replies_to line.session (take-append_seam lines (line ∷ []) i) ((ap (λ n. take n (answers ++ answer ∷ [])) (sym telling.long) ∙ take-append_seam answers (answer ∷ [])) i))
          ∙ telling.open_ones line.session place t seated there;
    }

    alone_at : (other : Record) → other.snapshot < commit.number
        → (outcome_on_snapshot now.core.declared now.core.start (log_of now.core) other).replies
        ≡ (outcome_on_snapshot now.core.declared now.core.start (log_of (core_after_commit now.core line.session t)) other).replies
    alone_at other earlier = ap (λ state. (transaction now.core.declared other.trace state).replies) (tables_stay now.core commit other.snapshot earlier)

    alone_committed : WereToldAlone (core_after_commit now.core line.session t) (lines ++ line ∷ []) (answers ++ answer ∷ [])
    alone_committed = λ other m. elim (in_cases commit (log_of now.core) other (subst (λ log. Contains log other) (log_with now.core.records commit) m)) [
      | inl same ↦
          subst (λ r. WasTold (lines ++ line ∷ []) (answers ++ answer ∷ []) r (outcome_on_snapshot now.core.declared now.core.start (log_of (core_after_commit now.core line.session t)) r).replies) same
          (subst (WasTold (lines ++ line ∷ []) (answers ++ answer ∷ []) commit)
          (ap (λ (o : Outcome). o.replies) (outcome_is now.core line.session t live) ∙ alone_at commit (let within = live.within in omega arith))
          own_told)
      | inr earlier ↦
          let low : other.snapshot < other.number = (clean (log_of now.core) running.commits.epoch.accepted).snapshots other earlier in
          let high : other.number < length now.core.records + 1 = each_at (λ (w : Record). w.number < length now.core.records + 1) (log_of now.core) (below now.core running.commits.epoch.accepted) other earlier in
          subst (WasTold (lines ++ line ∷ []) (answers ++ answer ∷ []) other) (alone_at other (omega arith)) (told_still other _ (telling.alone other earlier))
    ]

  -- the records after an event
  module _ (place : ℕ) (seated : seat_of now.seats line.session ≡ Some place) where
    alone_decided : (t : OpenTransaction) (given : Answer) → txn_of (slice_get now.seats place) ≡ Some t → line.event ≡ Commit → answer ≡ given → IsCommitted now.core line.session t given
        → WereToldAlone (decided_core now.core line.session t given) (lines ++ line ∷ []) (answers ++ answer ∷ [])
    alone_decided t (Begun number) there commits is decided = alone_still
    alone_decided t (Replied reply) there commits is decided = alone_still
    alone_decided t (Committed number) there commits is decided = alone_committed place t number seated there commits is decided
    alone_decided t RolledBack there commits is decided = alone_still
    alone_decided t (Refused refusal) there commits is decided = alone_still

    alone_after : (event : Event) (txn : Option OpenTransaction) → line.event ≡ event → txn_of (slice_get now.seats place) ≡ txn → IsReply now.core line.session event txn answer
        → WereToldAlone (core_after now.core line.session event txn answer) (lines ++ line ∷ []) (answers ++ answer ∷ [])
    alone_after Begin None is there reply =
        either_way (λ (c : CoreState). WereToldAlone c (lines ++ line ∷ []) (answers ++ answer ∷ [])) (has_begin_number now.core.live) (with_begun false now.core) now.core alone_still alone_still
    alone_after Begin (Some t) is there reply = alone_still
    alone_after BeginReadOnly None is there reply =
        either_way (λ (c : CoreState). WereToldAlone c (lines ++ line ∷ []) (answers ++ answer ∷ [])) (has_begin_number now.core.live) (with_begun true now.core) now.core alone_still alone_still
    alone_after BeginReadOnly (Some t) is there reply = alone_still
    alone_after (Run statement) txn is there reply = alone_still
    alone_after Commit None is there reply = alone_still
    alone_after Commit (Some t) is there reply = alone_decided t answer there is refl reply
    alone_after Rollback None is there reply = alone_still
    alone_after Rollback (Some t) is there reply = alone_still

  -- the open transactions after an event of a session that has a seat
  module _ (place : ℕ) (seat : Seat) (within : place < length now.seats) (seated : seat_of now.seats line.session ≡ Some place) (there : slice_get now.seats place ≡ Some seat)
      (own : bytes_eq seat.session line.session ≡ true) (known : found_no_memory answer ≡ false) (reply : IsReply now.core line.session line.event seat.txn answer) where
    abbrev left : Seat
    left = record seat { txn = txn_after now.core line.event seat.txn }

    seat_still : (session : List ℕ) → seat_of (slice_set now.seats place left) session ≡ seat_of now.seats session
    seat_still session = position_set (λ (s : Seat). bytes_eq s.session session) now.seats place seat left there refl

    open_own : (session : List ℕ) (q : ℕ) (t : OpenTransaction) → bytes_eq line.session session ≡ true → seat_of now.seats session ≡ Some q → txn_of (slice_get (slice_set now.seats place left) q) ≡ Some t
        → replies_to session (lines ++ line ∷ []) (answers ++ answer ∷ []) ≡ (run_of t).replies
    open_own session q t same at txn =
        let is : line.session ≡ session = (bytes_eq-Decides line.session session).0 same in
        let here : q ≡ place = same_Some q place (sym at ∙ ap (seat_of now.seats) (sym is) ∙ seated) in
        let open_then : txn_after now.core line.event seat.txn ≡ Some t = sym (ap txn_of (set_there now.seats place left within)) ∙ ap (λ n. txn_of (slice_get (slice_set now.seats place left) n)) (sym here) ∙ txn in
        more session ∙ own_by session line answer (replies_to session lines answers) same
        ∙ told_open joined now.core line.session answer (replies_to session lines answers) line.event seat.txn t
        (λ u e. telling.open_ones session q u at (ap (λ n. txn_of (slice_get now.seats n)) here ∙ ap txn_of there ∙ e)) known reply open_then

    open_other : (session : List ℕ) (q : ℕ) (t : OpenTransaction) → bytes_eq line.session session ≡ false → seat_of now.seats session ≡ Some q → txn_of (slice_get (slice_set now.seats place left) q) ≡ Some t
        → replies_to session (lines ++ line ∷ []) (answers ++ answer ∷ []) ≡ (run_of t).replies
    open_other session q t other at txn =
        let apart : q ≡ place → ⊥ = λ e.
        let it = has_seat now.seats session q at in
        let same_seat : it.seat ≡ seat = same_Some it.seat seat (sym it.there ∙ ap (slice_get now.seats) e ∙ there) in
        let a : seat.session ≡ line.session = (bytes_eq-Decides seat.session line.session).0 own in
        let b : it.seat.session ≡ session = (bytes_eq-Decides it.seat.session session).0 it.own in
        let yes : bytes_eq line.session session ≡ true = (bytes_eq-Decides line.session session).1 (sym a ∙ ap (λ (s : Seat). s.session) (sym same_seat) ∙ b) in
        cc in
        more session ∙ other_by session line answer (replies_to session lines answers) other
        ∙ telling.open_ones session q t at (sym (ap txn_of (set_elsewhere now.seats q place left apart)) ∙ txn)

    open_after : (session : List ℕ) (q : ℕ) (t : OpenTransaction) → seat_of (slice_set now.seats place left) session ≡ Some q → txn_of (slice_get (slice_set now.seats place left) q) ≡ Some t
        → replies_to session (lines ++ line ∷ []) (answers ++ answer ∷ []) ≡ (run_of t).replies
    open_after session q t at txn = elim (cases_Bool (bytes_eq line.session session)) [
      | inl same ↦ open_own session q t same (sym (seat_still session) ∙ at) txn
      | inr other ↦ open_other session q t other (sym (seat_still session) ∙ at) txn
    ]

  longer : length (answers ++ answer ∷ []) ≡ length (lines ++ line ∷ [])
  longer = length-append answers (answer ∷ []) ∙ ap (λ n. n + 1) telling.long ∙ sym (length-append lines (line ∷ []))

  -- where nothing changed
  telling_still : ((session : List ℕ) (place : ℕ) → seat_of now.seats session ≡ Some place → replies_by session line answer (replies_to session lines answers) ≡ replies_to session lines answers)
      → IsTelling now (lines ++ line ∷ []) (answers ++ answer ∷ [])
  telling_still still = record {
    long = longer;
    open_ones = λ session place t at txn. more session ∙ still session place at ∙ telling.open_ones session place t at txn;
    alone = alone_still;
  }

  telling_at : (place : Option ℕ) → seat_of now.seats line.session ≡ place → found_no_memory answer ≡ false → IsAnsweredAt now line.session line.event place answer
      → IsTelling (after_at now line.session line.event place answer) (lines ++ line ∷ []) (answers ++ answer ∷ [])
  telling_at None seated known reply =
      telling_still (λ session place at. elim (cases_Bool (bytes_eq line.session session)) [
        | inl same ↦ (let is : line.session ≡ session = (bytes_eq-Decides line.session session).0 same in let it = ap (seat_of now.seats) is in let no : ⊥ = cc in absurd no)
        | inr other ↦ other_by session line answer (replies_to session lines answers) other
      ])
  telling_at (Some place) seated known reply =
      let it = has_seat now.seats line.session place seated in
      subst (λ s. IsTelling (left_by now line answer place s) (lines ++ line ∷ []) (answers ++ answer ∷ [])) (sym it.there) (
      let reply_there : IsReply now.core line.session line.event it.seat.txn answer = subst (λ s. IsReply now.core line.session line.event (txn_of s) answer) it.there reply in record {
        long = longer;
        open_ones = open_after place it.seat it.within seated it.there it.own known reply_there;
        alone = alone_after place seated line.event it.seat.txn refl (ap txn_of it.there) reply_there;
      })

  telling_after : IsAnswered now line answer → IsTelling (after now line answer) (lines ++ line ∷ []) (answers ++ answer ∷ [])
  telling_after outcome_on_snapshot = go (found_no_memory answer) refl outcome_on_snapshot
    where
      go : (b : Bool) → found_no_memory answer ≡ b → IsAnswered now line answer
          → IsTelling (cond b now (after_at now line.session line.event (seat_of now.seats line.session) answer)) (lines ++ line ∷ []) (answers ++ answer ∷ [])
      go true none a = telling_still (λ session place at. silent_by session line answer (replies_to session lines answers) none)
      go false known (inl none) = let yes : found_no_memory answer ≡ true = ap found_no_memory none.is in let no : ⊥ = cc in absurd no
      go false known (inr at) = telling_at (seat_of now.seats line.session) refl known at

-- what holds at the end of a run
pub record IsEnd (lines : List ScriptLine) (answers : List Answer) (left : EngineState) : Type 0 where
  pub running : IsRunning left
  pub telling : IsTelling left lines answers

goes_on : Joined → (now : EngineState) (before rest : List ScriptLine) (given more : List Answer) → IsRunning now → IsTelling now before given → AreAnswers now rest more
    → IsEnd (before ++ rest) (given ++ more) (led_to now rest more)
goes_on joined now before [] given [] running telling answers =
    subst (λ (X : Type 0). X) (λ i. IsEnd (sym (append-nil before) i) (sym (append-nil given) i) now) (record { running = running; telling = telling })
goes_on joined now before [] given (a ∷ more) running telling answers = absurd answers
goes_on joined now before (s ∷ rest) given [] running telling answers = absurd answers
goes_on joined now before (s ∷ rest) given (a ∷ more) running telling answers =
    subst (λ (X : Type 0). X) (λ i. IsEnd (append_assoc before (s ∷ []) rest i) (append_assoc given (a ∷ []) more i) (led_to (after now s a) rest more))
    (goes_on joined (after now s a) (before ++ s ∷ []) rest (given ++ a ∷ []) more (running_after now s a running answers.0) (telling_after joined now before given s a running telling answers.0) answers.1)

pub ends : Joined → (limit : ℕ) (loaded : ViewState) (all lines : List ScriptLine) (answers : List Answer) → IsSound loaded.declared loaded.state → AreAnswers (beginning limit loaded all) lines answers
    → IsEnd lines answers (led_to (beginning limit loaded all) lines answers)
ends joined limit loaded all lines answers sound answered =
    goes_on joined (beginning limit loaded all) [] lines [] answers (running_first limit loaded all sound) (record {
      long = refl;
      open_ones = λ session place t at txn. let free = all_free [] all (λ place. refl) place in let no : ⊥ = cc in absurd no;
      alone = λ commit m. absurd (not_in_nil commit m);
    }) answered
