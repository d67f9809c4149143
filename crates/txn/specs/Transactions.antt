-- An open transaction: what it began on, and what it has run so far. Its own view and its modes are what that leaves.
use Rattle.std.specs.Prelude.{ℕ, Bool, true, false, List, [], ◌∷◌, ◌++◌, flat_map, map, if◌then◌else◌, Option, Some, None}
use Rattle.value.specs.declared.truths.Truth.{Truth}
use Rattle.value.specs.declared.truths.Truth.TheVariants.{False}
use Rattle.value.specs.Truths.{is_of}
use Rattle.assertion.specs.declared.assertions.Assertion.{Assertion}
use Rattle.assertion.specs.Declarations.{Declared, layouts_in}
use Rattle.assertion.specs.Meaning.{State, verdict_of}
use Rattle.siread.specs.declared.keys.LockKey.{LockKey}
use Rattle.alone.specs.declared.statements.ResolvedStatement.{ResolvedStatement}
use Rattle.alone.specs.Alone.{Outcome, Run, Standing, Step, run_on, step_alone, transaction, transaction_keys}
use Rattle.delta.specs.Views.{ViewState}
use Rattle.txn.specs.declared.accesses.Access.{Access}
use Rattle.txn.specs.declared.accesses.Access.TheVariants.{ReadWrite, ReadOnly}

-- whether INSERT, UPDATE and DELETE are refused
abbrev pub reads_only : Access → Bool
reads_only ReadWrite = false
reads_only ReadOnly = true

-- a transaction that has not ended
pub record OpenTransaction : Type 0 where
  pub declared : Declared
  pub begin_number : ℕ
  pub snapshot : ℕ
  -- whether it began READ ONLY
  pub read_only : Bool
  pub start : State
  pub trace : List ResolvedStatement

-- its statements, run alone on the tables that it began on
abbrev pub run_of : OpenTransaction → Run
run_of t = run_on t.declared t.trace t.start

-- its own view of the tables, and its modes
abbrev pub standing_of : OpenTransaction → Standing
standing_of t = (run_of t).final

-- the tables as it sees them
abbrev pub own_view : OpenTransaction → ViewState
own_view t = record { declared = t.declared; state = (standing_of t).view }

-- what it would answer and change as a whole, if it went to COMMIT now
abbrev pub outcome_of : OpenTransaction → Outcome
outcome_of t = transaction t.declared t.trace t.start

-- what it has read then, the check of COMMIT included
abbrev pub keys_of : OpenTransaction → List LockKey
keys_of t = transaction_keys t.declared t.trace t.start

-- one more statement
abbrev pub step_of : OpenTransaction → ResolvedStatement → Step
step_of t statement = step_alone t.declared t.start (standing_of t) statement

-- the transaction with one more statement in its trace
abbrev pub with_statement : OpenTransaction → ResolvedStatement → OpenTransaction
with_statement t statement = record t { trace = t.trace ++ statement ∷ [] }

-- a transaction that began on these tables, and has run these statements
abbrev pub transaction_after : (begin_number snapshot : ℕ) → Bool → ViewState → List ResolvedStatement → OpenTransaction
transaction_after begin_number snapshot read_only shown trace = record {
  declared = shown.declared;
  begin_number = begin_number;
  snapshot = snapshot;
  read_only = read_only;
  start = shown.state;
  trace = trace;
}

-- before its first statement
abbrev pub transaction_at_begin : (begin_number snapshot : ℕ) → Bool → ViewState → OpenTransaction
transaction_at_begin begin_number snapshot read_only shown = transaction_after begin_number snapshot read_only shown []

-- whether an assertion is false on what a view shows
abbrev pub is_false_on : ViewState → Assertion → Bool
is_false_on shown a = is_of (verdict_of (layouts_in shown.declared) a.form shown.state) False

-- the name of an assertion, if it is false there
abbrev pub name_if_false : ViewState → Assertion → List (List ℕ)
name_if_false shown a = if is_false_on shown a then a.name ∷ [] else []

-- the names of the assertions that are false there, in the order of their creation
abbrev pub false_names : ViewState → List (List ℕ)
false_names shown = flat_map (name_if_false shown) shown.declared.assertions

-- the truth of each assertion there, in the order of their creation
abbrev pub truths_on : ViewState → List Truth
truths_on shown =
    map (λ (a : Assertion). verdict_of (layouts_in shown.declared) a.form shown.state) shown.declared.assertions

-- the truth of the assertion of a name there
abbrev pub truth_of : ViewState → Option Assertion → Option Truth
truth_of shown None = None
truth_of shown (Some a) = Some (verdict_of (layouts_in shown.declared) a.form shown.state)
