-- A safe reader is not refused for others, and stays safe whatever they do.
use Rattle.std.proofs.Common.{◌≡◌, ◌≤◌, ℕ, Bool, true, false, cond, List, [], ◌∷◌, ◌++◌, filter, length, Option, Some, None, Result, Ok, Err, inl, inr, refl, sym, ap, ◌∙◌, subst, arith}
use Rattle.std.specs.Prelude.{◌==◌, ◌||◌, Contains, nat_le, ⊤}
use Rattle.std.specs.List.{list_all}
use Rattle.std.proofs.lemmas.Bool.{and_from, and_parts, leb-true, le-leb, or_right}
use Rattle.std.proofs.lemmas.List.Folds.{list_all-append}
use Rattle.value.specs.declared.refusals.Refusal.{Refusal}
use Rattle.value.specs.declared.refusals.Refusal.TheVariants.{Dangerous, WriteConflict}
use Rattle.value.specs.declared.refusals.Party.{Party}
use Rattle.value.specs.declared.refusals.Party.TheVariants.{This, Number as Numbered}
use Rattle.value.specs.declared.values.Root.{Root}
use Rattle.table.specs.Rows.{Layout}
use Rattle.assertion.specs.declared.assertions.Assertion.{Assertion}
use Rattle.assertion.specs.Meaning.{State, least_bad_of}
use Rattle.assertion.specs.Declarations.{layouts_in}
use Rattle.alone.specs.Checks.{refusal_at, violation}
use Rattle.conflict.specs.declared.open_snapshots.LiveSnapshot.{LiveSnapshot}
use Rattle.conflict.specs.Live.{is_other, writers_hold}
use Rattle.alone.specs.declared.records.Record.{Record}
use Rattle.alone.specs.Commits.{IsLog}
use Rattle.alone.specs.Answer.{IsAnswer, Dangerous as Triple}
use Rattle.alone.specs.Safe.{IsSafe}
use Rattle.alone.proofs.Safe.{in_no_triple, stays_safe}
use Rattle.siread.proofs.Members.{in_cases, in_head, in_tail, not_in_nil}
use Rattle.txn.specs.Transactions.{OpenTransaction, outcome_of, standing_of}
use Rattle.commit.specs.Cores.{CoreState, IsCommitAnswer, IsDangerNamed, IsDecided, IsJudged, IsLive, core_after_commit, core_after_end, log_of, record_of, refused_to, with_begun}
use Rattle.commit.specs.Safe.{IsNotForOthers, IsSafeReader}
use Rattle.commit.proofs.Recording.{log_with}

no_middle : {X : Type 0} (xs : List X) (y : X) (ys : List X) → [] ≡ xs ++ y ∷ ys → ⊥
no_middle [] y ys e = cc
no_middle (x ∷ xs) y ys e = cc

-- a false assertion is none of the reasons
abbrev IsOwnReason : Option Refusal → Type 0
IsOwnReason None = ⊤
IsOwnReason (Some refusal) = IsNotForOthers (Err refusal)

own_reason_at : (name : List ℕ) (bad : Option Root) (rest : Option Refusal) → IsOwnReason rest → IsOwnReason (refusal_at name bad rest)
own_reason_at name None rest own = own
own_reason_at name (Some root) rest own = tt

own_reason : (layouts : List Layout) (assertions : List Assertion) (state : State) → IsOwnReason (violation layouts assertions state)
own_reason layouts [] state = tt
own_reason layouts (a ∷ rest) state =
    own_reason_at a.name (least_bad_of layouts a.form state) (violation layouts rest state) (own_reason layouts rest state)

module _ (c : CoreState) (session : List ℕ) (t : OpenTransaction) (log : IsLog (log_of c)) (none : t.read_only ≡ true → (outcome_of t).changes ≡ []) (safe : IsSafeReader c t) where
  abbrev commit : Record
  commit = record_of c session t

  no_triple : (reader pivot writer : ℕ) → IsAnswer (log_of c) commit (Triple reader pivot writer) → ⊥
  no_triple reader pivot writer h = elim h.1 [
    | inl own ↦
        let triple = own.1.triple in
        in_no_triple (log_of c) commit log safe.reads (none safe.reads) safe.snapshot own.1.first commit own.1.last
        (in_tail commit (log_of c) own.1.first triple.reader_in) (in_head commit (log_of c)) (in_tail commit (log_of c) own.1.last triple.writer_in) triple.danger
    | inr other ↦
        let named = other.2 in
        in_no_triple (log_of c) commit log safe.reads (none safe.reads) safe.snapshot commit named.middle named.last
        (in_head commit (log_of c)) (in_tail commit (log_of c) named.middle named.middle_in) (in_tail commit (log_of c) named.last named.last_in) named.danger
  ]

  none_named : (reader pivot writer : Party) → IsDangerNamed (log_of c) commit reader pivot writer → ⊥
  none_named (Numbered reader) This (Numbered writer) h = no_triple reader commit.number writer h
  none_named This (Numbered pivot) (Numbered writer) h = no_triple commit.number pivot writer h
  none_named _ _ _ h = h

  judged : (answer : Result ℕ Refusal) → IsJudged c commit answer → IsNotForOthers answer
  judged (Ok number) h = tt
  judged (Err (WriteConflict name key by)) h = no_middle h.answer.before h.answer.change h.answer.after (sym (none safe.reads) ∙ h.answer.split)
  judged (Err (Dangerous reader pivot writer)) h = none_named reader pivot writer h
  judged (Err _) h = tt

  decided : (refused : Option Refusal) (full : Bool) (answer : Result ℕ Refusal) → IsOwnReason refused → IsDecided c commit refused full answer → IsNotForOthers answer
  decided (Some refusal) full answer own h = subst IsNotForOthers (sym h) own
  decided None true answer own h = subst IsNotForOthers (sym h) tt
  decided None false answer own h = judged answer h

  pub not_for_others : (answer : Result ℕ Refusal) → IsCommitAnswer c session t answer → IsNotForOthers answer
  not_for_others answer h = decided (outcome_of t).refused (length c.records == c.limit) answer (own_reason (layouts_in t.declared) t.declared.assertions (standing_of t).view) h

-- ---- and it stays safe

abbrev holds : ℕ → LiveSnapshot → Bool
holds snapshot one = one.read_only || nat_le snapshot one.snapshot

hold_fewer : (snapshot begin_number : ℕ) (all : List LiveSnapshot) → writers_hold snapshot all ≡ true → writers_hold snapshot (filter (is_other begin_number) all) ≡ true
hold_fewer snapshot begin_number [] h = refl
hold_fewer snapshot begin_number (one ∷ rest) h =
    let parts = and_parts (holds snapshot one) (list_all (holds snapshot) rest) h in
    let more = hold_fewer snapshot begin_number rest parts.1 in
    let go : (b : Bool) → writers_hold snapshot (cond b (one ∷ filter (is_other begin_number) rest) (filter (is_other begin_number) rest)) ≡ true
    = λ b. elim b as (λ b. writers_hold snapshot (cond b (one ∷ filter (is_other begin_number) rest) (filter (is_other begin_number) rest)) ≡ true) [
      | true ↦ and_from _ _ parts.0 more
      | false ↦ more
    ] in
    go (is_other begin_number one)

hold_each : (snapshot : ℕ) (all : List LiveSnapshot) (one : LiveSnapshot) → writers_hold snapshot all ≡ true → Contains all one → holds snapshot one ≡ true
hold_each snapshot [] one h m = absurd (not_in_nil one m)
hold_each snapshot (first ∷ rest) one h m =
    let parts = and_parts (holds snapshot first) (list_all (holds snapshot) rest) h in
    elim (in_cases first rest one m) [
      | inl same ↦ subst (λ (o : LiveSnapshot). holds snapshot o ≡ true) same parts.0
      | inr there ↦ hold_each snapshot rest one parts.1 there
    ]

-- a transaction that may write began no earlier
began_later : (c : CoreState) (snapshot : ℕ) (u : OpenTransaction) → writers_hold snapshot c.live.snapshots ≡ true → IsLive c u → u.read_only ≡ false → snapshot ≤ u.snapshot
began_later c snapshot u alone live writes =
    let held = hold_each snapshot c.live.snapshots (record { begin_number = u.begin_number; snapshot = u.snapshot; read_only = u.read_only }) alone live.held in
    leb-true snapshot u.snapshot (sym (ap (λ b. b || nat_le snapshot u.snapshot) writes) ∙ held)

module _ (c : CoreState) (t : OpenTransaction) (live : IsLive c t) (safe : IsSafeReader c t) where
  pub safe_begun : (read_only : Bool) → IsSafeReader (with_begun read_only c) t
  safe_begun read_only = record {
    reads = safe.reads;
    alone =
        let new : LiveSnapshot = record { begin_number = c.live.begun; snapshot = length c.records; read_only = read_only } in
        list_all-append (holds t.snapshot) c.live.snapshots (new ∷ [])
        ∙ and_from _ _ safe.alone (and_from _ _ (or_right read_only (nat_le t.snapshot (length c.records)) (le-leb _ _ live.within)) refl);
    snapshot = safe.snapshot;
  }

  pub safe_ended : (u : OpenTransaction) → IsSafeReader (core_after_end c u) t
  safe_ended u = record { reads = safe.reads; alone = hold_fewer t.snapshot u.begin_number c.live.snapshots safe.alone; snapshot = safe.snapshot }

  pub safe_refused : (session : List ℕ) (u : OpenTransaction) (refusal : Refusal) → IsSafeReader (refused_to c session u refusal) t
  safe_refused session u refusal = record { reads = safe.reads; alone = hold_fewer t.snapshot u.begin_number c.live.snapshots safe.alone; snapshot = safe.snapshot }

  pub safe_committed : (session : List ℕ) (u : OpenTransaction) → IsLog (log_of (core_after_commit c session u)) → IsLive c u → IsSafeReader (core_after_commit c session u) t
  safe_committed session u log other =
      let commit : Record = record_of c session u in
      let whole : log_of (core_after_commit c session u) ≡ commit ∷ log_of c = log_with c.records commit in
      let within = live.within in
      record {
        reads = safe.reads;
        alone = hold_fewer t.snapshot u.begin_number c.live.snapshots safe.alone;
        snapshot = subst (λ log. IsSafe log t.snapshot) (sym whole)
            (stays_safe (log_of c) commit t.snapshot (subst IsLog whole log) (omega arith) (began_later c t.snapshot u safe.alone other) safe.snapshot);
      }
