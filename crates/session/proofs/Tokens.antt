-- The tokens of a Book whose core has answered an event.
use Rattle.std.proofs.Common.{◌≡◌, Bool, ℕ, zero, suc, ◌+◌, ◌<◌, ◌≤◌, ◌⊎◌, List, [], ◌∷◌, ◌++◌, Option, Some, length, reverse, inl, inr, refl, sym, ap, ◌∙◌, subst, arith, add-one}
use Rattle.std.specs.Prelude.{slice_get}
use Rattle.std.proofs.lemmas.List.{length-append, length-reverse, reverse-append}
use Rattle.boxcar.specs.Table.{Shelves, Shows}
use Rattle.assertion.specs.Declarations.{Declared}
use Rattle.assertion.specs.Meaning.{State}
use Rattle.alone.proofs.Lists.{Each, each_weaker}
use Rattle.alone.specs.declared.records.Record.{Record}
use Rattle.alone.specs.Commits.{IsLog}
use Rattle.alone.specs.Epoch.{newest, put_in, state_of}
use Rattle.alone.specs.Replay.{commits_in_snapshot, state_after}
use Rattle.alone.proofs.Ranks.{numbers_below}
use Rattle.alone.proofs.Replays.{held_all, held_same}
use Rattle.delta.specs.Views.{ViewState}
use Rattle.txn.specs.Transactions.{OpenTransaction, transaction_at_begin}
use Rattle.value.specs.declared.refusals.Refusal.{Refusal}
use Rattle.commit.specs.Cores.{core_after_commit, log_of, record_of}
use Rattle.session.specs.declared.items.Item.{Item}
use Rattle.session.specs.Limits.{LimitsState}
use Rattle.session.specs.Answers.{after_refusal}
use Rattle.session.specs.Books.{AreReceipts, AreTokens, BookState, IsBook, IsFresh, IsOver, IsToken, TicketedTransaction, Token, after_commit, item_after, item_at, record_at}

-- what stands at a place of a list with one more at its end
get_snoc : {X : Type 0} (xs : List X) (y : X) (i : ℕ) (e : X) → slice_get (xs ++ y ∷ []) i ≡ Some e
    → ((i < length xs) × (slice_get xs i ≡ Some e)) ⊎ ((i ≡ length xs) × (y ≡ e))
get_snoc [] y zero e h = inr (refl, cc)
get_snoc [] y (suc i) e h = let no : ⊥ = cc in absurd no
get_snoc (x ∷ xs) y zero e h = inl (omega arith, h)
get_snoc (x ∷ xs) y (suc i) e h =
    elim (get_snoc xs y i e h) [ inl p ↦ inl (omega (arith, p.0), p.1) | inr q ↦ inr (omega (arith, q.0), q.1) ]

get_kept : {X : Type 0} (xs : List X) (y : X) (i : ℕ) → i < length xs → slice_get (xs ++ y ∷ []) i ≡ slice_get xs i
get_kept [] y i h = absurd (omega arith)
get_kept (x ∷ xs) y zero h = refl
get_kept (x ∷ xs) y (suc i) h = get_kept xs y i (omega arith)

pub get_last : {X : Type 0} (xs : List X) (y : X) → slice_get (xs ++ y ∷ []) (length xs) ≡ Some y
get_last [] y = refl
get_last (x ∷ xs) y = get_last xs y

-- the tables after all commits are the newest
pub newest_at : (declared : Declared) (start : State) (records : List Record) → IsLog (reverse records)
    → state_of declared start (reverse records) (length records) ≡ newest declared start (reverse records)
newest_at declared start records log =
    let long = length-reverse records in
    let below : Each (λ w. w.number ≤ length records) (reverse records) =
    each_weaker (λ w. w.number < suc (length (reverse records))) (λ w. w.number ≤ length records) (λ w l. omega arith) (reverse records) (numbers_below (reverse records) log) in
    ap (state_after (put_in declared) start) (held_all (length records) (reverse records) below)

-- a commit more leaves the tables of earlier snapshots
tables_kept : (declared : Declared) (start : State) (records : List Record) (c : Record) (n : ℕ) → n < c.number
    → state_of declared start (reverse (records ++ c ∷ [])) n ≡ state_of declared start (reverse records) n
tables_kept declared start records c n l =
    ap (λ log. state_of declared start log n) (reverse-append records (c ∷ []))
    ∙ ap (state_after (put_in declared) start) (held_same n c (reverse records) l)

pub record_kept : (records : List Record) (c : Record) (n : ℕ) → n ≤ length records → record_at (records ++ c ∷ []) n ≡ record_at records n
record_kept records c zero h = refl
record_kept records c (suc n) h = get_kept records c n (omega arith)

item_kept : (epoch : ℕ) (declared : Declared) (start : State) (records : List Record) (c : Record) (n : ℕ) → c.number ≡ length records + 1 → n ≤ length records
    → item_at epoch declared start (records ++ c ∷ []) n ≡ item_at epoch declared start records n
item_kept epoch declared start records c n number h =
    ap (λ (o : Option Record). record { epoch = epoch; number = n; commit = o; view = record { declared = declared; state = state_of declared start (reverse (records ++ c ∷ [])) n } }) (record_kept records c n h)
    ∙ ap (λ (s : State). record { epoch = epoch; number = n; commit = record_at records n; view = record { declared = declared; state = s } }) (tables_kept declared start records c n (omega (arith, number, h)))

item_added : (epoch : ℕ) (declared : Declared) (start : State) (records : List Record) (c : Record) → IsLog (reverse (records ++ c ∷ []))
    → item_at epoch declared start (records ++ c ∷ []) (length records + 1)
    ≡ record { epoch = epoch; number = length records + 1; commit = Some c; view = record { declared = declared; state = newest declared start (reverse (records ++ c ∷ [])) } }
item_added epoch declared start records c log =
    let long : length (records ++ c ∷ []) ≡ length records + 1 = length-append records (c ∷ []) in
    let got : record_at (records ++ c ∷ []) (length records + 1) ≡ Some c = rw add-one (get_last records c) in
    let state : state_of declared start (reverse (records ++ c ∷ [])) (length records + 1) ≡ newest declared start (reverse (records ++ c ∷ [])) =
    ap (state_of declared start (reverse (records ++ c ∷ []))) (sym long) ∙ newest_at declared start (records ++ c ∷ []) log in
    ap (λ (o : Option Record). record { epoch = epoch; number = length records + 1; commit = o; view = record { declared = declared; state = state_of declared start (reverse (records ++ c ∷ [])) (length records + 1) } }) got
    ∙ ap (λ (s : State). record { epoch = epoch; number = length records + 1; commit = Some c; view = record { declared = declared; state = s } }) state

-- the tokens with that of a commit more
tokens_snoc : (shelf : Shelves) (epoch : ℕ) (declared : Declared) (start : State) (records : List Record) (tokens : List Token) (c : Record) (w : Token)
    → c.number ≡ length records + 1 → IsLog (reverse (records ++ c ∷ [])) → AreTokens shelf epoch declared start records tokens → Shows shelf w
    → w.value ≡ record { epoch = epoch; number = length records + 1; commit = Some c; view = record { declared = declared; state = newest declared start (reverse (records ++ c ∷ [])) } }
    → AreTokens shelf epoch declared start (records ++ c ∷ []) (tokens ++ w ∷ [])
tokens_snoc shelf epoch declared start records tokens c w number log old shown is = record {
  count = omega (arith, length-append tokens (w ∷ []), length-append records (c ∷ []), old.count);
  each = λ n x at. elim (get_snoc tokens w n x at) [
    | inl p ↦
        let was = old.each n x p.1 in
        record { shown = was.shown; item = was.item ∙ sym (item_kept epoch declared start records c n number (omega (arith, old.count, p.0))) }
    | inr q ↦
        let m : n ≡ length records + 1 = q.0 ∙ old.count in record {
          shown = subst (λ (y : Token). Shows shelf y) q.1 shown;
          item = sym (ap (λ (y : Token). y.value) q.1) ∙ (is ∙ (sym (item_added epoch declared start records c log) ∙ ap (item_at epoch declared start (records ++ c ∷ [])) (sym m)));
        }
  ];
}

-- the Book after a commit
pub book_committed : (shelf : Shelves) (limits : LimitsState) (b : BookState) (session : List ℕ) (t : OpenTransaction) (w : Token) → IsBook shelf limits b
    → IsLog (log_of (core_after_commit b.core session t)) → Shows shelf w → w.value ≡ item_after b.epoch b.core session t
    → IsBook shelf limits (after_commit b session t w)
book_committed shelf limits b session t w book log shown is = record {
  commits = book.commits;
  sessions = book.sessions;
  handed = book.handed;
  idle = book.idle;
  tokens = tokens_snoc shelf b.epoch b.core.declared b.core.start b.core.records b.tokens (record_of b.core session t) w refl log book.tokens shown is;
}

-- after a refused commit
pub book_refused : (shelf : Shelves) (limits : LimitsState) (b : BookState) (session : List ℕ) (t : OpenTransaction) (refusal : Refusal) → IsBook shelf limits b
    → IsBook shelf limits (after_refusal b session t refusal)
book_refused shelf limits b session t refusal book = record { commits = book.commits; sessions = book.sessions; handed = book.handed; idle = book.idle; tokens = book.tokens }

-- tokens serve for receipts
pub receipts_of : (shelf : Shelves) (limits : LimitsState) (b : BookState) → IsBook shelf limits b → AreReceipts shelf b.epoch b.tokens
receipts_of shelf limits b book = record {
  each = λ n w at.
      let p = book.tokens.each n w at in
      record { shown = p.shown; epoch_is = ap (λ (x : Item). x.epoch) p.item; number_is = ap (λ (x : Item). x.number) p.item };
}

-- no commit is among the first none
none_held : (log : List Record) → IsLog log → commits_in_snapshot 0 log ≡ []
none_held [] log = refl
none_held (c ∷ earlier) log = held_same 0 c earlier (omega (arith, log.0.numbered)) ∙ none_held earlier log.1

start_at : (declared : Declared) (start : State) (records : List Record) → IsLog (reverse records) → state_of declared start (reverse records) 0 ≡ start
start_at declared start records log = ap (state_after (put_in declared) start) (none_held (reverse records) log)

-- a Book whose first token shows some tables is over them
pub begun_over : (shelf : Shelves) (limits : LimitsState) (b : BookState) (mine loaded : Token) → IsBook shelf limits b → IsLog (log_of b.core)
    → length b.core.records ≤ b.core.limit → IsToken shelf b.epoch b.core.declared b.core.start b.core.records 0 mine → mine.value ≡ loaded.value
    → IsOver b.core loaded.value.view limits.commits
begun_over shelf limits b mine loaded book log within is same =
    let view = ap (λ (i : Item). i.view) (sym is.item ∙ same) in record {
      declared_is = ap (λ (v : ViewState). v.declared) view;
      start_is = sym (start_at b.core.declared b.core.start b.core.records log) ∙ ap (λ (v : ViewState). v.state) view;
      limit_is = book.commits;
      within = subst (λ n. length b.core.records ≤ n) book.commits within;
    }

-- a transaction that begins on some tables, with their token
pub begun_fresh : (shelf : Shelves) (id epoch number snapshot : ℕ) (read_only : Bool) (tables : ViewState) (token : Token) (t : TicketedTransaction)
    → t ≡ record { inner = transaction_at_begin number snapshot read_only tables; ticket = record { id = id; epoch = epoch; token = token } }
    → Shows shelf token → token.value.epoch ≡ epoch → token.value.number ≡ snapshot → token.value.view ≡ tables → IsFresh shelf id epoch read_only t
begun_fresh shelf id epoch number snapshot read_only tables token t is shown item_epoch item_number view =
    let made : IsFresh shelf id epoch read_only (record { inner = transaction_at_begin number snapshot read_only tables; ticket = record { id = id; epoch = epoch; token = token } }) =
    record { read_only_is = refl; empty = refl; id_is = refl; epoch_is = refl; shown = shown; epoch_of_item = item_epoch; number_of_item = item_number; view_of_item = view } in
    subst (IsFresh shelf id epoch read_only) (sym is) made
