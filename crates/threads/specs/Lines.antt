-- What a line of a session is answered, as far as it is known without the commits, and which transaction is open then.
use Rattle.std.specs.Prelude.{◌≡◌, ◌≤◌, ◌<◌, ◌⊎◌, ℕ, Bool, true, false, List, [], ◌∷◌, Option, Some, None, is_some, ⊤}
use Rattle.value.specs.declared.refusals.Refusal.TheVariants.{NoMemory, NoTransaction, Stranger, TransactionOpen}
use Rattle.syntax.specs.declared.statements.Statement.{Statement}
use Rattle.syntax.specs.declared.statements.Event.{Event}
use Rattle.syntax.specs.declared.statements.ScriptLine.{ScriptLine}
use Rattle.syntax.specs.declared.statements.Event.TheVariants.{Begin, BeginReadOnly, Commit, Rollback, Run}
use Rattle.alone.specs.declared.answers.Answer.{Answer}
use Rattle.alone.specs.declared.answers.Answer.TheVariants.{Begun, Committed, Refused, RolledBack}
use Rattle.alone.specs.Resolve.{resolution_of}
use Rattle.txn.specs.Transactions.{step_of, with_statement}
use Rattle.commit.specs.Events.{answer_of}
use Rattle.session.specs.Books.{TicketedTransaction}
use Rattle.session.specs.Answers.{IsNotBegun, IsRefused}

-- outside a transaction everything but BEGIN is refused
abbrev pub IsOutside : Answer → Option TicketedTransaction → Type 0
IsOutside answer txn = (answer ≡ Refused NoTransaction) × (txn ≡ None)

-- BEGIN: a transaction of the manager that has just begun, on tables that are no older than all that the session has
-- seen. Which transactions are so is said by the manager, of those that are read only and of the others.
abbrev pub IsBegun : (IsNew : TicketedTransaction → Type 0) → (seen : ℕ) → Answer → Option TicketedTransaction → Type 0
IsBegun IsNew seen (Begun number) (Some t) = (number ≡ t.inner.snapshot) × (seen ≤ number) × IsNew t
IsBegun IsNew seen (Refused refusal) None = IsNotBegun refusal
IsBegun IsNew seen answer txn = ⊥

-- a statement is answered as alone in the transaction, whose trace then holds it; or it found no memory, and
-- nothing has changed
abbrev pub IsRun : Statement → TicketedTransaction → Answer → Option TicketedTransaction → Type 0
IsRun statement t answer txn =
    ((answer ≡ answer_of (step_of t.inner (resolution_of t.inner.declared t.inner.read_only statement)).reply)
    × (txn ≡ Some (record t {
      inner = with_statement t.inner (resolution_of t.inner.declared t.inner.read_only statement);
    })))
    ⊎ ((answer ≡ Refused NoMemory) × (txn ≡ Some t))

-- a statement of a session with this transaction open, or none
abbrev pub IsRunIn : Statement → Option TicketedTransaction → Answer → Option TicketedTransaction → Type 0
IsRunIn statement None answer txn = IsOutside answer txn
IsRunIn statement (Some t) answer txn = IsRun statement t answer txn

-- COMMIT: a number that the session has not seen, or a refusal that gives the transaction back as it was, or one
-- that ends it
abbrev pub IsCommitted : (seen : ℕ) → TicketedTransaction → Answer → Option TicketedTransaction → Type 0
IsCommitted seen t (Committed number) None = seen < number
IsCommitted seen t (Refused refusal) txn = IsRefused t refusal txn
IsCommitted seen t answer txn = ⊥

-- ROLLBACK: the transaction has ended; or the manager does not know it, and it is as it was
abbrev pub IsRolledBack : TicketedTransaction → Answer → Option TicketedTransaction → Type 0
IsRolledBack t RolledBack txn = txn ≡ None
IsRolledBack t (Refused refusal) txn = (refusal ≡ Stranger) × (txn ≡ Some t)
IsRolledBack t answer txn = ⊥

-- inside a transaction it is refused
abbrev pub IsBegunIn : (IsNew : TicketedTransaction → Type 0) → (seen : ℕ) → Option TicketedTransaction → Answer
    → Option TicketedTransaction → Type 0
IsBegunIn IsNew seen None answer txn = IsBegun IsNew seen answer txn
IsBegunIn IsNew seen (Some t) answer txn = (answer ≡ Refused TransactionOpen) × (txn ≡ Some t)

-- an event of a session that has seen this number, with this transaction open, or none
abbrev pub IsTold : (IsNew : (read_only : Bool) → TicketedTransaction → Type 0) → Event → (seen : ℕ)
    → Option TicketedTransaction → Answer
    → Option TicketedTransaction → Type 0
IsTold IsNew Begin seen t answer txn = IsBegunIn (IsNew false) seen t answer txn
IsTold IsNew BeginReadOnly seen t answer txn = IsBegunIn (IsNew true) seen t answer txn
IsTold IsNew (Run statement) seen t answer txn = IsRunIn statement t answer txn
IsTold IsNew Commit seen None answer txn = IsOutside answer txn
IsTold IsNew Commit seen (Some t) answer txn = IsCommitted seen t answer txn
IsTold IsNew Rollback seen None answer txn = IsOutside answer txn
IsTold IsNew Rollback seen (Some t) answer txn = IsRolledBack t answer txn

-- A line that is marked is a COMMIT that is accepted and could not be kept: it is refused as for want of memory.
abbrev pub IsMarked : Event → Answer → (is_unkept : Bool) → Type 0
IsMarked event answer true = (event ≡ Commit) × (answer ≡ Refused NoMemory)
IsMarked event answer false = ⊤

-- the greatest number that the session has seen then
abbrev pub seen_after : Answer → ℕ → ℕ
seen_after (Begun number) seen = number
seen_after (Committed number) seen = number
seen_after answer seen = seen

-- The lines of a session are answered in their order, each in the transaction that the one before it left open, or in
-- none. The session has seen this number before the first, and this transaction is open then, or none; and that one is
-- open behind the last.
abbrev pub AreTold : (IsNew : (read_only : Bool) → TicketedTransaction → Type 0) → List ScriptLine → (seen : ℕ)
    → Option TicketedTransaction → List Answer
    → (left : Option TicketedTransaction) → Type 0
AreTold IsNew [] seen txn [] left = left ≡ txn
AreTold IsNew [] seen txn (answer ∷ more) left = ⊥
AreTold IsNew (line ∷ rest) seen txn [] left = ⊥
AreTold IsNew (line ∷ rest) seen txn (answer ∷ more) left =
    (next : Option TicketedTransaction) × IsTold IsNew line.event seen txn answer next
    × AreTold IsNew rest (seen_after answer seen) next more left

-- A session that has seen nothing yet runs a script, from outside a transaction. What is open behind the last line is
-- rolled back, and whether something was, is said.
pub record IsScriptRun (IsNew : (read_only : Bool) → TicketedTransaction → Type 0) (lines : List ScriptLine)
    (answers : List Answer) (rolled_back : Bool)
    : Type 0 where
  pub left : Option TicketedTransaction
  pub told : AreTold IsNew lines 0 None answers left
  pub ended : rolled_back ≡ is_some left
