-- What is answered where something is refused, and which receipts show why.
use Rattle.std.specs.Prelude.{◌≡◌, ◌≢◌, ◌<◌, ◌⊎◌, ℕ, Bool, true, false, List, [], ◌∷◌, length, map, slice_get, Option, Some, None, Err, Contains, IfSome, ⊤}
use Rattle.value.specs.declared.refusals.Party.{Party}
use Rattle.value.specs.declared.refusals.Party.TheVariants.{This, Number as Numbered}
use Rattle.value.specs.declared.refusals.Refusal.{Refusal}
use Rattle.value.specs.declared.refusals.Refusal.TheVariants.{NoMemory, Stranger, EpochFull, Violated, WriteConflict, Dangerous}
use Rattle.value.specs.declared.values.Value.{Value}
use Rattle.value.specs.declared.truths.Truth.{Truth}
use Rattle.value.specs.declared.truths.Truth.TheVariants.{True, False}
use Rattle.assertion.specs.declared.assertions.Assertion.{Assertion}
use Rattle.assertion.specs.declared.forms.Form.{Form}
use Rattle.assertion.specs.declared.forms.Form.TheVariants.{ByRow, ByGroup, Single}
use Rattle.table.specs.declared.rows.Change.{Change}
use Rattle.table.specs.Rows.{names_of}
use Rattle.assertion.specs.Declarations.{layouts_in}
use Rattle.delta.specs.Views.{ViewState}
use Rattle.alone.specs.Checks.{violation}
use Rattle.siread.specs.Keys.{place_of}
use Rattle.alone.specs.declared.records.Record.{Record}
use Rattle.alone.specs.Commits.{IsDangerous}
use Rattle.txn.specs.Transactions.{OpenTransaction, outcome_of}
use Rattle.definitions.specs.declared.redeclaration.NewAssertion.{NewAssertion}
use Rattle.commit.specs.Cores.{IsCommitAnswer, core_after_end, record_with, refused_to}
use Rattle.commit.specs.Epochs.{next_start}
use Rattle.session.specs.Books.{BookState, ReceiptState, TicketState, TicketedTransaction, Token}

-- a begin is refused a session that is not known, and where there is no begin number; or there was no memory
abbrev pub IsUnbegun : (known has_number : Bool) → Refusal → Type 0
IsUnbegun known has_number NoMemory = known ≡ true
IsUnbegun known has_number Stranger = known ≡ false
IsUnbegun known has_number EpochFull = (known ≡ true) × (has_number ≡ false)
IsUnbegun known has_number refusal = ⊥

-- why a begin was refused, as far as it is known without the commits
abbrev pub IsNotBegun : Refusal → Type 0
IsNotBegun NoMemory = ⊤
IsNotBegun Stranger = ⊤
IsNotBegun EpochFull = ⊤
IsNotBegun refusal = ⊥

-- a transaction is given back where it or its session is not the manager's own; or there was no memory
abbrev pub IsUntaken : (own : Bool) → Refusal → Type 0
IsUntaken own NoMemory = own ≡ true
IsUntaken own Stranger = own ≡ false
IsUntaken own refusal = ⊥

-- Of a COMMIT that was not made nobody was asked to keep anything; or it is accepted and could not be kept, and is
-- refused as for want of memory.
abbrev pub IsUnkept : {K : Type 0} → (did_keep : K → K → ℕ → List Change → Bool → Type 0) → (old new : K)
    → List Change → Refusal → Type 0
IsUnkept did_keep old new changes refusal =
    (new ≡ old) ⊎ ((refusal ≡ NoMemory) × ((number : ℕ) × did_keep old new number changes false))

-- the refusals that leave a transaction as it was
abbrev pub IsGivenBack : Refusal → Type 0
IsGivenBack NoMemory = ⊤
IsGivenBack Stranger = ⊤
IsGivenBack refusal = ⊥

-- the refusals for what other transactions did: the same one, run again, sees it
abbrev pub is_retryable : Refusal → Bool
is_retryable (WriteConflict name key by) = true
is_retryable (Dangerous reader pivot writer) = true
is_retryable refusal = false

-- the refusals of COMMIT that end its transaction
abbrev pub IsEnding : Refusal → Type 0
IsEnding (Violated name root) = ⊤
IsEnding EpochFull = ⊤
IsEnding (WriteConflict name key by) = ⊤
IsEnding (Dangerous reader pivot writer) = ⊤
IsEnding refusal = ⊥

-- the receipt of a number, if there is a token for it
abbrev pub receipt_of : (id epoch number : ℕ) → Option Token → Option ReceiptState
receipt_of id epoch number None = None
receipt_of id epoch number (Some token) = Some (record { id = id; epoch = epoch; number = number; token = token })

-- the receipt of the commit with a number, if there is a token for it
abbrev pub receipt_at : List Token → (id epoch number : ℕ) → Option ReceiptState
receipt_at tokens id epoch number = receipt_of id epoch number (slice_get tokens number)

-- the receipt of a party of a triple; the transaction that is refused has none
abbrev pub party_receipt : List Token → (id epoch : ℕ) → Party → Option ReceiptState
party_receipt tokens id epoch This = None
party_receipt tokens id epoch (Numbered number) = receipt_at tokens id epoch number

-- one receipt, or none, where a refusal may show three
abbrev pub only : Option ReceiptState → List (Option ReceiptState)
only receipt = receipt ∷ None ∷ None ∷ []

-- the receipts that a refusal shows: of the commit in its way, of the triple, and of the last commit of a full epoch
abbrev pub shown_among : List Token → (id epoch count : ℕ) → Refusal → List (Option ReceiptState)
shown_among tokens id epoch count (WriteConflict name key by) = only (receipt_at tokens id epoch by)
shown_among tokens id epoch count (Dangerous reader pivot writer) =
    party_receipt tokens id epoch reader
    ∷ party_receipt tokens id epoch pivot
    ∷ party_receipt tokens id epoch writer
    ∷ []
shown_among tokens id epoch count EpochFull = only (receipt_at tokens id epoch count)
shown_among tokens id epoch count refusal = only None

-- each that is shown is of this id and epoch
abbrev pub IsShownBy : (id epoch : ℕ) → Option ReceiptState → Type 0
IsShownBy id epoch shown = IfSome shown (λ receipt. (receipt.id ≡ id) × (receipt.epoch ≡ epoch))

-- each of some receipts that are shown is of this id and epoch
abbrev pub AreShownBy : (id epoch : ℕ) → List (Option ReceiptState) → Type 0
AreShownBy id epoch [] = ⊤
AreShownBy id epoch (one ∷ more) = IsShownBy id epoch one × AreShownBy id epoch more

-- the receipts that the Book shows for a refusal
abbrev pub shown_for : BookState → Refusal → List (Option ReceiptState)
shown_for b refusal = shown_among b.tokens b.id b.epoch (length b.core.records) refusal

-- the Book after a refused COMMIT, which has ended the transaction
abbrev pub after_refusal : BookState → (session : List ℕ) → OpenTransaction → Refusal → BookState
after_refusal b session t refusal = record b { core = refused_to b.core session t refusal }

-- the Book after a rollback
abbrev pub after_rollback : BookState → OpenTransaction → BookState
after_rollback b t = record b { core = core_after_end b.core t }

-- a transaction that is given back, with its ticket; receipts are shown where it is not
abbrev pub with_ticket : TicketState → Option OpenTransaction → Option TicketedTransaction
with_ticket ticket None = None
with_ticket ticket (Some t) = Some (record { inner = t; ticket = ticket })

-- the receipts, unless the transaction is given back
abbrev pub shown_unless : Option OpenTransaction → (shown : List (Option ReceiptState)) → List (Option ReceiptState)
shown_unless None shown = shown
shown_unless (Some t) shown = only None

-- A commit that was not made. Its transaction is given back, and all is as it was; or it is ended, as the commits
-- before it decide.
abbrev pub IsNotCommitted : BookState → (own : Bool) → (session : List ℕ) → TicketedTransaction → Refusal
    → (back : Option TicketedTransaction) → (shown : List (Option ReceiptState)) → (after : BookState) → Type 0
IsNotCommitted b own session t refusal (Some back) shown after =
    IsUntaken own refusal × (back ≡ t) × (shown ≡ only None) × (after ≡ b)
IsNotCommitted b own session t refusal None shown after =
    (own ≡ true) × IsEnding refusal × IsCommitAnswer b.core session t.inner (Err refusal)
    × (shown ≡ shown_for b refusal) × (after ≡ after_refusal b session t.inner refusal)

-- the same, as far as it is known without the commits
abbrev pub IsRefused : TicketedTransaction → Refusal → (back : Option TicketedTransaction) → Type 0
IsRefused t refusal (Some back) = IsGivenBack refusal × (back ≡ t)
IsRefused t refusal None = IsEnding refusal

-- a receipt of the commit with a number and this record
pub record IsReceiptOf (number : ℕ) (commit : Record) (shown : Option ReceiptState) : Type 0 where
  pub receipt : ReceiptState
  pub is : shown ≡ Some receipt
  pub number_is : receipt.number ≡ number
  pub holds : receipt.token.value.commit ≡ Some commit
  pub numbered : commit.number ≡ number

-- the commit in the way of a write conflict is after the snapshot, and the row that is named is in both net changes
pub record ShowsWriter (t : OpenTransaction) (name : List ℕ) (key : Value) (by : ℕ)
    (shown : List (Option ReceiptState)) : Type 0 where
  pub receipt : Option ReceiptState
  pub commit : Record
  pub table : ℕ
  pub alone : shown ≡ only receipt
  pub shows : IsReceiptOf by commit receipt
  pub above : t.snapshot < by
  pub named : slice_get (names_of t.declared.tables) table ≡ Some name
  pub own : Contains (map place_of (outcome_of t).changes) (record { table = table; key = key })
  pub theirs : Contains (map place_of commit.changes) (record { table = table; key = key })

-- a party of a triple: the transaction that is refused, with a number above the other's, or the commit that is shown
abbrev pub IsParty : (this : Record) → Party → Option ReceiptState → Record → Type 0
IsParty this This shown commit = (shown ≡ None) × (commit ≡ this)
IsParty this (Numbered number) shown commit = IsReceiptOf number commit shown × (number < this.number)

-- exactly one of a triple is the transaction that is refused: its reader, or its pivot, since its writer has committed
abbrev pub HasOneOwn : (reader pivot writer : Party) → Type 0
HasOneOwn This (Numbered pivot) (Numbered writer) = ⊤
HasOneOwn (Numbered reader) This (Numbered writer) = ⊤
HasOneOwn reader pivot writer = ⊥

-- those that are shown are a dangerous triple with the transaction
pub record ShowsTriple (session : List ℕ) (t : OpenTransaction) (reader pivot writer : Party)
    (shown : List (Option ReceiptState)) : Type 0 where
  pub number : ℕ
  pub first : Option ReceiptState
  pub second : Option ReceiptState
  pub third : Option ReceiptState
  pub three : shown ≡ first ∷ second ∷ third ∷ []
  pub reads : Record
  pub turns : Record
  pub writes : Record
  pub one : HasOneOwn reader pivot writer
  pub reader_is : IsParty (record_with number session t) reader first reads
  pub pivot_is : IsParty (record_with number session t) pivot second turns
  pub writer_is : IsParty (record_with number session t) writer third writes
  pub danger : IsDangerous reads turns writes

-- the last commit of a full epoch
pub record ShowsLast (limit : ℕ) (shown : List (Option ReceiptState)) : Type 0 where
  pub receipt : ReceiptState
  pub alone : shown ≡ only (Some receipt)
  pub number_is : receipt.number ≡ limit

-- why a commit was refused: an assertion is false on the transaction's own view, or what the receipts show
abbrev pub IsReason : (limit : ℕ) → (session : List ℕ) → OpenTransaction → Refusal
    → (shown : List (Option ReceiptState)) → Type 0
IsReason limit session t (Violated name root) shown = (outcome_of t).refused ≡ Some (Violated name root)
IsReason limit session t EpochFull shown = ShowsLast limit shown
IsReason limit session t (WriteConflict name key by) shown = ShowsWriter t name key by shown
IsReason limit session t (Dangerous reader pivot writer) shown = ShowsTriple session t reader pivot writer shown
IsReason limit session t refusal shown = ⊤

-- no assertion is false on these tables
abbrev pub IsSatisfied : ViewState → Type 0
IsSatisfied view = violation (layouts_in view.declared) view.declared.assertions view.state ≡ None

-- an assertion of a form that knows no unknown is true, and one of the other form is not false
abbrev pub IsUpheld : Form → Option Truth → Type 0
IsUpheld form None = ⊥
IsUpheld (ByRow table condition queries) (Some truth) = truth ≡ True
IsUpheld (ByGroup table restriction group having aggregates) (Some truth) = truth ≡ True
IsUpheld (Single condition queries) (Some truth) = truth ≢ False

-- how an assertion stands on committed tables, if there is one
abbrev pub IsStanding : Option Assertion → Option Truth → Type 0
IsStanding None answer = answer ≡ None
IsStanding (Some a) answer = IsUpheld a.form answer

-- a checkpoint was refused on committed tables of an epoch that began on these: under what is declared in it
pub record IsRefusedOver (loaded : ViewState) (dropped : List (List ℕ)) (created : List NewAssertion)
    (refusal : Refusal) :
    Type 0 where
  pub newest : ViewState
  pub declared_is : newest.declared ≡ loaded.declared
  pub refused : next_start dropped created newest ≡ Err refusal
