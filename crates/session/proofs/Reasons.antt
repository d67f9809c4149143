-- Why a commit was refused, and what the receipts show of it.
use Rattle.std.proofs.Common.{◌≡◌, ℕ, suc, ◌+◌, ◌<◌, Bool, true, false, List, [], ◌∷◌, ◌++◌, map, Option, Some, None, Result, Err, length, reverse, inl, inr, refl, sym, ap, ◌∙◌, subst, arith}
use Rattle.std.specs.Prelude.{slice_get, Contains, ◌==◌}
use Rattle.std.specs.List.{list_any}
use Rattle.std.proofs.lemmas.List.{length-reverse, reverse-append, reverse-reverse}
use Rattle.std.proofs.lemmas.Option.{slice_get_cases, same_Some}
use Rattle.std.proofs.lemmas.Bool.Decides.{nat_tests}
use Rattle.boxcar.specs.Table.{Shelves}
use Rattle.value.specs.declared.refusals.Party.{Party}
use Rattle.value.specs.declared.refusals.Party.TheVariants.{This, Number as Numbered}
use Rattle.value.specs.declared.refusals.Refusal.{Refusal}
use Rattle.value.specs.declared.refusals.Refusal.TheVariants.{NoMemory, Syntax, UnknownName, NameTaken, TypeMismatch, NullNotAllowed, DuplicateKey, KeyUpdate, OutOfRange, Violated, NotDeferrable, WriteConflict, Dangerous, NoTransaction, TransactionOpen, Stranger, EpochFull, TooWide, TooDeep, OutsideClass, FalseAtCreation, AttributeClash, ReadOnlyTransaction, TooManySessions}
use Rattle.value.specs.declared.values.Root.{Root}
use Rattle.value.specs.declared.values.Value.{Value}
use Rattle.table.specs.Rows.{Layout, names_of}
use Rattle.table.specs.declared.rows.Change.{Change}
use Rattle.assertion.specs.declared.assertions.Assertion.{Assertion}
use Rattle.assertion.specs.Meaning.{State, least_bad_of}
use Rattle.siread.specs.declared.keys.Place.{Place}
use Rattle.siread.specs.Keys.{place_of, same_place}
use Rattle.siread.proofs.KeyOrder.{same_place-true}
use Rattle.siread.proofs.Members.{in_cases, in_head, not_in_nil}
use Rattle.assertion.specs.Declarations.{layouts_in}
use Rattle.alone.specs.Alone.{run_on}
use Rattle.alone.specs.Checks.{refusal_at, violation}
use Rattle.alone.proofs.Lists.{each_at}
use Rattle.alone.proofs.Members.{in_map, in_right}
use Rattle.alone.specs.declared.records.Record.{Record}
use Rattle.alone.specs.Answer.{IsFirstConflict, IsPivotNamed, IsReaderNamed}
use Rattle.alone.specs.Commits.{IsLog, share_row}
use Rattle.alone.proofs.Judging.{any_met}
use Rattle.alone.proofs.Ranks.{numbers_below}
use Rattle.txn.specs.Transactions.{OpenTransaction, outcome_of}
use Rattle.commit.specs.Cores.{CoreState, IsCommitAnswer, IsConflictNamed, IsDangerNamed, IsDecided, IsJudged, log_of, record_of}
use Rattle.session.specs.declared.items.Item.{Item}
use Rattle.session.specs.Limits.{LimitsState}
use Rattle.session.specs.Books.{BookState, IsBook, Token, record_at}
use Rattle.session.specs.Answers.{IsEnding, IsReason, IsReceiptOf, ShowsLast, ShowsTriple, ShowsWriter, only, receipt_at, receipt_of, shown_for}
use Rattle.session.proofs.Tokens.{get_last, record_kept}

-- a false assertion is answered as a violation
pub record IsViolation (refusal : Refusal) : Type 0 where
  pub name : List ℕ
  pub root : Root
  pub is : refusal ≡ Violated name root

violation_at : (name : List ℕ) (root : Option Root) (rest : Option Refusal) (refusal : Refusal) → (rest ≡ Some refusal → IsViolation refusal)
    → refusal_at name root rest ≡ Some refusal → IsViolation refusal
violation_at name None rest refusal h e = h e
violation_at name (Some root) rest refusal h e = record { name = name; root = root; is = sym (same_Some _ _ e) }

violated : (layouts : List Layout) (assertions : List Assertion) (state : State) (refusal : Refusal) → violation layouts assertions state ≡ Some refusal → IsViolation refusal
violated layouts [] state refusal e = let no : ⊥ = cc in absurd no
violated layouts (a ∷ rest) state refusal e =
    violation_at a.name (least_bad_of layouts a.form state) (violation layouts rest state) refusal (violated layouts rest state refusal) e

-- each commit of a log stands at its number
at_number : (log : List Record) → IsLog log → (r : Record) → Contains log r → record_at (reverse log) r.number ≡ Some r
at_number [] h r m = absurd (not_in_nil r m)
at_number (c ∷ earlier) h r m =
    let turned : reverse (c ∷ earlier) ≡ reverse earlier ++ c ∷ [] = reverse-append (c ∷ []) earlier in
    let long : length (reverse earlier) ≡ length earlier = length-reverse earlier in
    subst (λ (xs : List Record). record_at xs r.number ≡ Some r) (sym turned) (elim (in_cases c earlier r m) [
      | inl same ↦
          let number : r.number ≡ suc (length (reverse earlier)) = ap (λ (x : Record). x.number) (sym same) ∙ (h.0.numbered ∙ ap suc (sym long)) in
          subst (λ n. record_at (reverse earlier ++ c ∷ []) n ≡ Some r) (sym number) (subst (λ (x : Record). slice_get (reverse earlier ++ c ∷ []) (length (reverse earlier)) ≡ Some x) same (get_last (reverse earlier) c))
      | inr there ↦
          let below : r.number < suc (length earlier) = each_at (λ (w : Record). w.number < suc (length earlier)) earlier (numbers_below earlier h.1) r there in
          record_kept (reverse earlier) c r.number (omega (arith, below, long)) ∙ at_number earlier h.1 r there
    ])

below_next : (c : CoreState) → IsLog (log_of c) → (r : Record) → Contains (log_of c) r → r.number < length c.records + 1
below_next c h r m =
    let below = each_at (λ (w : Record). w.number < suc (length (log_of c))) (log_of c) (numbers_below (log_of c) h) r m in
    omega (arith, below, length-reverse c.records)

-- the Book's receipt of a commit shows its record
receipt_shows : (shelf : Shelves) (limits : LimitsState) (b : BookState) → IsBook shelf limits b → IsLog (log_of b.core) → (r : Record) → Contains (log_of b.core) r
    → IsReceiptOf r.number r (receipt_at b.tokens b.id b.epoch r.number)
receipt_shows shelf limits b book log r m =
    let at : record_at b.core.records r.number ≡ Some r =
    subst (λ (xs : List Record). record_at xs r.number ≡ Some r) (reverse-reverse b.core.records) (at_number (log_of b.core) log r m) in
    let below = below_next b.core log r m in
    go at below (slice_get b.tokens r.number) refl
  where
    go : record_at b.core.records r.number ≡ Some r → r.number < length b.core.records + 1 → (o : Option Token) → slice_get b.tokens r.number ≡ o
        → IsReceiptOf r.number r (receipt_at b.tokens b.id b.epoch r.number)
    go at below (Some w) e = record {
      receipt = record { id = b.id; epoch = b.epoch; number = r.number; token = w };
      is = ap (receipt_of b.id b.epoch r.number) e;
      number_is = refl;
      holds = ap (λ (i : Item). i.commit) (book.tokens.each r.number w e).item ∙ at;
      numbered = refl;
    }
    go at below None e = elim (slice_get_cases b.tokens r.number).1 [
      | inl p ↦ let no : ⊥ = cc (p.2, e) in absurd no
      | inr q ↦ absurd (omega (arith, book.tokens.count, below, q.0))
    ]

-- the row that is common
common_row : (change : Change) (those : List Change) → share_row (change ∷ []) those ≡ true → Contains (map place_of those) (place_of change)
unfolding share_row
common_row change those h =
    let one = any_met (λ ch. list_any (λ other. same_place (place_of ch) (place_of other)) those) (change ∷ []) h in
    elim (in_cases change [] one.0 one.1) [
      | inl same ↦
          let two = any_met (λ other. same_place (place_of one.0) (place_of other)) those one.2 in
          subst (λ (p : Place). Contains (map place_of those) p) (sym (same_place-true (place_of one.0) (place_of two.0) two.2) ∙ ap place_of (sym same)) (in_map place_of those two.0 two.1)
      | inr there ↦ absurd (not_in_nil one.0 there)
    ]

module _ (shelf : Shelves) (limits : LimitsState) (b : BookState) (book : IsBook shelf limits b) (log : IsLog (log_of b.core)) (session : List ℕ) (t : OpenTransaction) where
  shows_writer : (name : List ℕ) (key : Value) (by : ℕ) → t.declared ≡ b.core.declared → IsConflictNamed b.core (record_of b.core session t) name key by
      → ShowsWriter t name key by (shown_for b (WriteConflict name key by))
  shows_writer name key by declared h =
      let a : IsFirstConflict (log_of b.core) (record_of b.core session t) (record { table = h.table; key = key }) by = h.answer in record {
        receipt = receipt_at b.tokens b.id b.epoch by;
        commit = a.other;
        table = h.table;
        alone = refl;
        shows = subst (λ n. IsReceiptOf n a.other (receipt_at b.tokens b.id b.epoch n)) a.named (receipt_shows shelf limits b book log a.other a.listed);
        above = subst (λ n. t.snapshot < n) a.named a.after_snapshot;
        named = ap (λ d. slice_get (names_of d.tables) h.table) declared ∙ h.named;
        own = subst (λ (p : Place). Contains (map place_of (outcome_of t).changes) p) a.at
            (in_map place_of (outcome_of t).changes a.change (subst (λ (xs : List Change). Contains xs a.change) (sym a.split) (in_right a.before (a.change ∷ a.after) a.change (in_head a.change a.after))));
        theirs = subst (λ (p : Place). Contains (map place_of a.other.changes) p) a.at (common_row a.change a.other.changes a.common);
      }

  party : (n : ℕ) (r : Record) → Contains (log_of b.core) r → r.number ≡ n
      → IsReceiptOf n r (receipt_at b.tokens b.id b.epoch n) × (n < length b.core.records + 1)
  party n r m e = (
    subst (λ k. IsReceiptOf k r (receipt_at b.tokens b.id b.epoch k)) e (receipt_shows shelf limits b book log r m),
    subst (λ k. k < length b.core.records + 1) e (below_next b.core log r m),
  )

  not_next : (r : Record) → Contains (log_of b.core) r → r.number ≡ length b.core.records + 1 → ⊥
  not_next r m e = let below = below_next b.core log r m in omega (arith, below, e)

  as_pivot : (reader writer : ℕ) → IsPivotNamed (log_of b.core) (record_of b.core session t) reader writer
      → ShowsTriple session t (Numbered reader) This (Numbered writer) (shown_for b (Dangerous (Numbered reader) This (Numbered writer)))
  as_pivot reader writer p = record {
    number = length b.core.records + 1;
    first = receipt_at b.tokens b.id b.epoch reader;
    second = None;
    third = receipt_at b.tokens b.id b.epoch writer;
    three = refl;
    reads = p.first;
    turns = record_of b.core session t;
    writes = p.last;
    one = tt;
    reader_is = party reader p.first p.triple.reader_in p.reader_named;
    pivot_is = (refl, refl);
    writer_is = party writer p.last p.triple.writer_in p.writer_named;
    danger = p.triple.danger;
  }

  as_reader : (pivot writer : ℕ) → IsReaderNamed (log_of b.core) (record_of b.core session t) pivot writer
      → ShowsTriple session t This (Numbered pivot) (Numbered writer) (shown_for b (Dangerous This (Numbered pivot) (Numbered writer)))
  as_reader pivot writer p = record {
    number = length b.core.records + 1;
    first = None;
    second = receipt_at b.tokens b.id b.epoch pivot;
    third = receipt_at b.tokens b.id b.epoch writer;
    three = refl;
    reads = record_of b.core session t;
    turns = p.middle;
    writes = p.last;
    one = tt;
    reader_is = (refl, refl);
    pivot_is = party pivot p.middle p.middle_in p.pivot_named;
    writer_is = party writer p.last p.last_in p.writer_named;
    danger = p.danger;
  }

  shows_triple : (reader pivot writer : Party) → IsDangerNamed (log_of b.core) (record_of b.core session t) reader pivot writer
      → ShowsTriple session t reader pivot writer (shown_for b (Dangerous reader pivot writer))
  shows_triple (Numbered reader) This (Numbered writer) h = elim h.1 [
    | inl p ↦ as_pivot reader writer p.1
    | inr q ↦ absurd (not_next q.2.middle q.2.middle_in q.2.pivot_named)
  ]
  shows_triple This (Numbered pivot) (Numbered writer) h = elim h.1 [
    | inl p ↦ absurd (not_next p.1.first p.1.triple.reader_in p.1.reader_named)
    | inr q ↦ as_reader pivot writer q.2
  ]
  shows_triple This This writer h = absurd h
  shows_triple This (Numbered pivot) This h = absurd h
  shows_triple (Numbered reader) (Numbered pivot) writer h = absurd h
  shows_triple (Numbered reader) This This h = absurd h

  shows_last : (length b.core.records == b.core.limit) ≡ true → ShowsLast b.core.limit (shown_for b EpochFull)
  shows_last full =
      let same : length b.core.records ≡ b.core.limit = grind (arith, nat_tests) in
      go same (slice_get b.tokens (length b.core.records)) refl
    where
      go : length b.core.records ≡ b.core.limit → (o : Option Token) → slice_get b.tokens (length b.core.records) ≡ o → ShowsLast b.core.limit (shown_for b EpochFull)
      go same (Some w) e = record {
        receipt = record { id = b.id; epoch = b.epoch; number = length b.core.records; token = w };
        alone = ap (λ (o : Option Token). only (receipt_of b.id b.epoch (length b.core.records) o)) e;
        number_is = same;
      }
      go same None e = elim (slice_get_cases b.tokens (length b.core.records)).1 [
        | inl p ↦ let no : ⊥ = cc (p.2, e) in absurd no
        | inr q ↦ absurd (omega (arith, book.tokens.count, q.0))
      ]

  -- what the commits before it decide
  judged : (refusal : Refusal) → t.declared ≡ b.core.declared → IsJudged b.core (record_of b.core session t) (Err refusal)
      → IsReason b.core.limit session t refusal (shown_for b refusal) × IsEnding refusal
  judged (WriteConflict name key by) d h = (shows_writer name key by d h, tt)
  judged (Dangerous reader pivot writer) d h = (shows_triple reader pivot writer h, tt)
  judged NoMemory d h = absurd h
  judged (Syntax x) d h = absurd h
  judged (UnknownName x) d h = absurd h
  judged (NameTaken x) d h = absurd h
  judged TypeMismatch d h = absurd h
  judged (NullNotAllowed x) d h = absurd h
  judged (DuplicateKey x y) d h = absurd h
  judged (KeyUpdate x) d h = absurd h
  judged (OutOfRange x y) d h = absurd h
  judged (Violated x y) d h = absurd h
  judged (NotDeferrable x) d h = absurd h
  judged NoTransaction d h = absurd h
  judged TransactionOpen d h = absurd h
  judged Stranger d h = absurd h
  judged EpochFull d h = absurd h
  judged TooWide d h = absurd h
  judged (TooDeep x) d h = absurd h
  judged OutsideClass d h = absurd h
  judged (FalseAtCreation x y) d h = absurd h
  judged (AttributeClash x) d h = absurd h
  judged ReadOnlyTransaction d h = absurd h
  judged TooManySessions d h = absurd h

  abbrev as_err : Refusal → Result ℕ Refusal
  as_err refusal = Err refusal

  same_err : (refusal other : Refusal) → as_err refusal ≡ as_err other → refusal ≡ other
  same_err refusal other e = cc

  decided : (refused : Option Refusal) (full : Bool) → (outcome_of t).refused ≡ refused → (length b.core.records == b.core.limit) ≡ full → t.declared ≡ b.core.declared
      → (refusal : Refusal) → IsDecided b.core (record_of b.core session t) refused full (Err refusal)
      → IsReason b.core.limit session t refusal (shown_for b refusal) × IsEnding refusal
  decided (Some other) full e f d refusal h =
      let same : refusal ≡ other = same_err refusal other h in
      let shape = violated (layouts_in t.declared) t.declared.assertions (run_on t.declared t.trace t.start).final.view other e in
      let is : Violated shape.name shape.root ≡ refusal = sym (same ∙ shape.is) in
      subst (λ (r : Refusal). IsReason b.core.limit session t r (shown_for b r) × IsEnding r) is (e ∙ ap Some shape.is, tt)
  decided None true e f d refusal h =
      subst (λ (r : Refusal). IsReason b.core.limit session t r (shown_for b r) × IsEnding r) (sym (same_err refusal EpochFull h)) (shows_last f, tt)
  decided None false e f d refusal h = judged refusal d h

  pub reasons : (refusal : Refusal) → t.declared ≡ b.core.declared → IsCommitAnswer b.core session t (Err refusal)
      → IsReason b.core.limit session t refusal (shown_for b refusal) × IsEnding refusal
  reasons refusal d h = decided (outcome_of t).refused (length b.core.records == b.core.limit) refl refl d refusal h
