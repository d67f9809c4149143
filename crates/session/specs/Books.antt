-- What lies under a manager's lock, and which sessions, transactions and receipts are its own.
use Rattle.std.specs.Prelude.{◌≡◌, ◌<◌, ◌≤◌, ◌+◌, ◌==◌, ◌&&◌, ◌++◌, zero, suc, ℕ, Bool, false, nat_le, nat_lt, List, [], ◌∷◌, length, reverse, slice_get, Option, Some, None, Contains, if◌then◌else◌}
use Rattle.boxcar.specs.Table.{Where, Shelves, Shows}
use Rattle.assertion.specs.Declarations.{Declared}
use Rattle.assertion.specs.Meaning.{State}
use Rattle.delta.specs.Views.{ViewState}
use Rattle.conflict.specs.declared.open_snapshots.LiveSnapshot.{LiveSnapshot}
use Rattle.conflict.specs.Held.{is_held}
use Rattle.alone.specs.declared.records.Record.{Record}
use Rattle.alone.specs.Epoch.{state_of}
use Rattle.txn.specs.Transactions.{OpenTransaction, own_view}
use Rattle.commit.specs.Cores.{CoreState, core_after_commit, newest_tables, record_of, with_begun, with_commit}
use Rattle.session.specs.declared.items.Item.{Item}
use Rattle.session.specs.Limits.{LimitsState}

-- what shows an item of a shelf
abbrev pub Token : Type 0
Token = Where Item

-- the record of the commit with a number, of commits that are numbered from 1
abbrev pub record_at : List Record → ℕ → Option Record
record_at records zero = None
record_at records (suc n) = slice_get records n

-- what stands on the shelf for a number: the record of that commit, and the tables after so many commits
abbrev pub item_at : (epoch : ℕ) → Declared → State → List Record → ℕ → Item
item_at epoch declared start records number = record {
  epoch = epoch;
  number = number;
  commit = record_at records number;
  view = record { declared = declared; state = state_of declared start (reverse records) number };
}

-- the commits, whose they are, a token for each number from 0, and how many sessions were handed out of at most so many
pub record BookState : Type 0 where
  pub core : CoreState
  pub id : ℕ
  pub epoch : ℕ
  pub tokens : List Token
  pub handed : ℕ
  pub most : ℕ

-- the token is of this shelf, and was given for the item of this number
pub record IsToken (shelf : Shelves) (epoch : ℕ) (declared : Declared) (start : State) (records : List Record)
    (number : ℕ) (token : Token) : Type 0 where
  pub shown : Shows shelf token
  pub item : token.value ≡ item_at epoch declared start records number

-- each is, and there is one for each number
pub record AreTokens (shelf : Shelves) (epoch : ℕ) (declared : Declared) (start : State) (records : List Record)
    (tokens : List Token) : Type 0 where
  pub count : length tokens ≡ length records + 1
  pub each : (number : ℕ) (token : Token) → slice_get tokens number ≡ Some token
      → IsToken shelf epoch declared start records number token

-- what holds whenever the lock is free
pub record IsBook (shelf : Shelves) (limits : LimitsState) (b : BookState) : Type 0 where
  pub commits : b.core.limit ≡ limits.commits
  pub sessions : b.most ≡ limits.sessions
  pub handed : b.handed ≤ b.most
  pub idle : b.core.prepared ≡ None
  pub tokens : AreTokens shelf b.epoch b.core.declared b.core.start b.core.records b.tokens

-- a session: whose it is, its name, and the greatest number that it has seen in begins and receipts
pub record SessionState : Type 0 where
  pub id : ℕ
  pub epoch : ℕ
  pub name : List ℕ
  pub seen : ℕ

-- a ticket: whose it is, and the token of its transaction's snapshot
pub record TicketState : Type 0 where
  pub id : ℕ
  pub epoch : ℕ
  pub token : Token

-- a transaction with its ticket
pub record TicketedTransaction : Type 0 where
  pub inner : OpenTransaction
  pub ticket : TicketState

-- the tables on which the transaction began are those of the ticket's token
abbrev pub IsTicketed : TicketedTransaction → Type 0
IsTicketed t = t.ticket.token.value.view ≡ record { declared = t.inner.declared; state = t.inner.start }

-- A transaction that has just begun, read only or not: it has run no statement, its ticket is of this id and epoch, and
-- its own view is what stands on this shelf under the number of its snapshot.
pub record IsFresh (shelf : Shelves) (id epoch : ℕ) (read_only : Bool) (t : TicketedTransaction) : Type 0 where
  pub read_only_is : t.inner.read_only ≡ read_only
  pub empty : t.inner.trace ≡ []
  pub id_is : t.ticket.id ≡ id
  pub epoch_is : t.ticket.epoch ≡ epoch
  pub shown : Shows shelf t.ticket.token
  pub epoch_of_item : t.ticket.token.value.epoch ≡ epoch
  pub number_of_item : t.ticket.token.value.number ≡ t.inner.snapshot
  pub view_of_item : t.ticket.token.value.view ≡ own_view t.inner

-- a receipt: whose it is, its number, and the token of its record
pub record ReceiptState : Type 0 where
  pub id : ℕ
  pub epoch : ℕ
  pub number : ℕ
  pub token : Token

-- the token is of this shelf, and was given for an item of this epoch and number
pub record IsReceipt (shelf : Shelves) (epoch number : ℕ) (token : Token) : Type 0 where
  pub shown : Shows shelf token
  pub epoch_is : token.value.epoch ≡ epoch
  pub number_is : token.value.number ≡ number

-- tokens that serve for receipts
pub record AreReceipts (shelf : Shelves) (epoch : ℕ) (tokens : List Token) : Type 0 where
  pub each : (number : ℕ) (token : Token) → slice_get tokens number ≡ Some token → IsReceipt shelf epoch number token

-- the Book, and what was handed out by this id and epoch, are of the manager that asks
abbrev pub is_of : BookState → (own_id own_epoch id epoch : ℕ) → Bool
is_of b own_id own_epoch id epoch =
    (b.id == id) && ((b.epoch == epoch) && ((own_id == id) && (own_epoch == epoch)))

-- what `is_of` says, part by part
pub record IsOf (b : BookState) (own_id own_epoch id epoch : ℕ) : Type 0 where
  pub book_id : b.id ≡ id
  pub book_epoch : b.epoch ≡ epoch
  pub same_id : own_id ≡ id
  pub same_epoch : own_epoch ≡ epoch

-- the session is of the manager that asks, and has seen no number above the Book's
abbrev pub knows : BookState → SessionState → (id epoch : ℕ) → Bool
knows b s id epoch = is_of b s.id s.epoch id epoch && nat_le s.seen (length b.core.records)

-- what `knows` says, part by part
pub record IsKnown (b : BookState) (s : SessionState) (id epoch : ℕ) : Type 0 where
  pub of : IsOf b s.id s.epoch id epoch
  pub seen : s.seen ≤ length b.core.records

-- the token is the one with this index
abbrev pub is_index : (index : ℕ) → Option Token → Bool
is_index index None = false
is_index index (Some token) = token.index == index

-- The ticket is of the manager that asks, the transaction that began so has not ended, and its token is the Book's own.
abbrev pub owns : BookState → TicketState → LiveSnapshot → (id epoch : ℕ) → Bool
owns b t one id epoch =
    is_of b t.id t.epoch id epoch
    && (is_held one.begin_number one.snapshot one.read_only b.core.live.snapshots
    && is_index t.token.index (slice_get b.tokens one.snapshot))

-- the Book has a token for this number, with this index
pub record IsAt (b : BookState) (number index : ℕ) : Type 0 where
  pub token : Token
  pub at : slice_get b.tokens number ≡ Some token
  pub same : token.index ≡ index

-- what `owns` says, part by part
pub record IsOwned (b : BookState) (t : TicketState) (one : LiveSnapshot) (id epoch : ℕ) : Type 0 where
  pub of : IsOf b t.id t.epoch id epoch
  pub held : Contains b.core.live.snapshots one
  pub token : IsAt b one.snapshot t.token.index

-- a transaction among the open ones
abbrev pub live_of : OpenTransaction → LiveSnapshot
live_of t = record { begin_number = t.begin_number; snapshot = t.snapshot; read_only = t.read_only }

-- the transaction with its ticket is the Book's own, and has not ended
abbrev pub owns_txn : BookState → TicketedTransaction → (id epoch : ℕ) → Bool
owns_txn b t id epoch = owns b t.ticket (live_of t.inner) id epoch

-- the Book knows the session, and the transaction is its own
abbrev pub is_own : BookState → SessionState → TicketedTransaction → (id epoch : ℕ) → Bool
is_own b s t id epoch = knows b s id epoch && owns_txn b t id epoch

-- the receipt is of the manager that asks, and its token is the Book's own
abbrev pub is_kept : BookState → ReceiptState → (id epoch : ℕ) → Bool
is_kept b r id epoch =
    is_of b r.id r.epoch id epoch
    && (nat_lt 0 r.number && is_index r.token.index (slice_get b.tokens r.number))

-- what `is_kept` says, part by part
pub record IsKept (b : BookState) (r : ReceiptState) (id epoch : ℕ) : Type 0 where
  pub of : IsOf b r.id r.epoch id epoch
  pub positive : 0 < r.number
  pub token : IsAt b r.number r.token.index

-- the Book is that of this id and epoch, and its first token is the one with this token's index
abbrev pub is_from : BookState → (id epoch : ℕ) → Token → Bool
is_from b id epoch loaded =
    (b.id == id) && ((b.epoch == epoch) && is_index loaded.index (slice_get b.tokens 0))

-- what `is_from` says, part by part
pub record IsFrom (b : BookState) (id epoch index : ℕ) : Type 0 where
  pub book_id : b.id ≡ id
  pub book_epoch : b.epoch ≡ epoch
  pub token : IsAt b 0 index

-- the commits are over what these tables declare, and over their rows, and are no more than the limit, which is this
pub record IsOver (c : CoreState) (loaded : ViewState) (limit : ℕ) : Type 0 where
  pub declared_is : c.declared ≡ loaded.declared
  pub start_is : c.start ≡ loaded.state
  pub limit_is : c.limit ≡ limit
  pub within : length c.records ≤ limit

-- The tables that an epoch leaves: the newest of its Book. Where another Book lies under the lock, which no call brings
-- about, they are those that the epoch began on.
abbrev pub tables_left : BookState → (id epoch : ℕ) → (loaded : Token) → ViewState
tables_left b id epoch loaded = if is_from b id epoch loaded then newest_tables b.core else loaded.value.view

-- the Book after a begin, a commit, a refused commit and a rollback
abbrev pub after_begin : (read_only : Bool) → BookState → BookState
after_begin read_only b = record b { core = with_begun read_only b.core }

-- the Book after a commit: its record, and the token of its item
abbrev pub after_commit : BookState → (session : List ℕ) → OpenTransaction → Token → BookState
after_commit b session t token = record b { core = core_after_commit b.core session t; tokens = b.tokens ++ token ∷ [] }

-- the item of the next commit
abbrev pub item_after : (epoch : ℕ) → CoreState → (session : List ℕ) → OpenTransaction → Item
item_after epoch c session t = record {
  epoch = epoch;
  number = length c.records + 1;
  commit = Some (record_of c session t);
  view = newest_tables (with_commit c (record_of c session t));
}
