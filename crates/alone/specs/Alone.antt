-- A statement alone, a transaction alone, and what they read.
use Rattle.std.specs.Prelude.{◌≡◌, ℕ, Bool, true, false, List, [], ◌∷◌, ◌++◌, Option, Some, None, Result, Ok, Err, map, slice_index_or}
use Rattle.value.specs.declared.refusals.Refusal.{Refusal}
use Rattle.value.specs.declared.refusals.Refusal.TheVariants.{UnknownName, KeyUpdate}
use Rattle.table.specs.declared.rows.Change.{Change}
use Rattle.table.specs.Rows.{Layout, key_of}
use Rattle.assertion.specs.declared.assertions.Assertion.{Assertion}
use Rattle.assertion.specs.Meaning.{State, verdict_of}
use Rattle.assertion.specs.Changes.{state_after_all}
use Rattle.siread.specs.declared.keys.LockKey.{LockKey}
use Rattle.siread.specs.declared.keys.LockKey.TheVariants.{Row as OneRow, Table as WholeTable}
use Rattle.alone.specs.Modes.{Immediates, initial_modes, is_immediate, modes_with, immediate_ones, deferred_ones, named_ones, assertion_of}
use Rattle.alone.specs.States.{IsState, net_change}
use Rattle.alone.specs.Reads.{filter_key}
use Rattle.alone.specs.Checks.{tables_in, violation, checks_read}
use Rattle.assertion.specs.Declarations.{Declared, layouts_in}
use Rattle.alone.specs.declared.statements.ResolvedStatement.{ResolvedStatement}
use Rattle.alone.specs.declared.statements.ResolvedStatement.TheVariants.{Refused as Refuse, Insert, Update, Delete, Select, SetModes, Verdict}
use Rattle.alone.specs.declared.answers.Reply.{Reply}
use Rattle.alone.specs.declared.answers.Reply.TheVariants.{Rows, ModesSet, Verdict as Truthful}
use Rattle.alone.specs.Statements.{Effect, columns_of, no_column, places_in, found_rows, insert_effect, update_effect, delete_effect, sets_key, listed_rows}

-- a transaction between two statements
pub record Standing : Type 0 where
  pub view : State
  pub modes : Immediates

-- what a statement answers, leaves and reads
pub record Step : Type 0 where
  pub reply : Result Reply Refusal
  pub after : Standing
  pub reads : List LockKey

-- a step that was refused: it leaves all as it was, and has read what it read
abbrev pub refused_step : Standing → Refusal → List LockKey → Step
refused_step now refusal reads = record { reply = Err refusal; after = now; reads = reads }

-- the reply and what it leaves, unless a check refuses it
abbrev pub unless_violated : Option Refusal → Reply → Standing → Standing → List LockKey → Step
unless_violated None reply before after reads = record { reply = Ok reply; after = after; reads = reads }
unless_violated (Some refusal) reply before after reads = refused_step before refusal reads

-- an effect on the rows, put in, and then the check of the immediate assertions over the rows that changed
abbrev pub step_of_effect : Declared → Standing → List LockKey → Result Effect Refusal → Step
step_of_effect declared now reads (Err refusal) = refused_step now refusal reads
step_of_effect declared now reads (Ok effect) =
    unless_violated (violation (layouts_in declared) (immediate_ones now.modes declared.assertions)
    (state_after_all (layouts_in declared) effect.changes now.view)) effect.reply
    now (record { view = state_after_all (layouts_in declared) effect.changes now.view; modes = now.modes })
    (reads ++ checks_read (layouts_in declared) (state_after_all (layouts_in declared) effect.changes now.view)
    (immediate_ones now.modes declared.assertions)
    (net_change (layouts_in declared) now.view (state_after_all (layouts_in declared) effect.changes now.view)))

-- VERDICT of the assertion of a name, if there is one; it reads the whole tables of the assertion
abbrev pub verdict_step : Declared → Option Assertion → List ℕ → Standing → Step
verdict_step declared None name now = refused_step now (UnknownName name) []
verdict_step declared (Some a) name now = record {
  reply = Ok (Truthful (verdict_of (layouts_in declared) a.form now.view));
  after = now;
  reads = map WholeTable (tables_in a.form);
}

-- SET CONSTRAINTS; IMMEDIATE checks what it names over the net change so far
abbrev pub modes_step : Declared → State → List (List ℕ) → Bool → Standing → Step
modes_step declared start names false now = record {
  reply = Ok ModesSet;
  after = record { view = now.view; modes = modes_with names false declared.assertions now.modes };
  reads = [];
}
modes_step declared start names true now =
    unless_violated (violation (layouts_in declared) (named_ones names declared.assertions) now.view) ModesSet
    now (record { view = now.view; modes = modes_with names true declared.assertions now.modes })
    (checks_read (layouts_in declared) now.view (named_ones names declared.assertions)
    (net_change (layouts_in declared) start now.view))

-- an UPDATE that gives the key a value is refused, and reads nothing
abbrev pub unless_key : Bool → Refusal → Standing → Step → Step
unless_key true refusal now step = refused_step now refusal []
unless_key false refusal now step = step

-- the name of a table's key column
abbrev pub key_name : List Layout → ℕ → List ℕ
key_name layouts table = (slice_index_or (columns_of table layouts) (key_of table layouts) no_column).name

-- a statement alone: from the snapshot's state, and the own view and the modes
abbrev pub step_alone : Declared → State → Standing → ResolvedStatement → Step
step_alone declared start now (Refuse refusal) = refused_step now refusal []
step_alone declared start now (Insert new) =
    step_of_effect declared now (map OneRow (places_in (layouts_in declared) new))
    (insert_effect declared.tables new now.view)
step_alone declared start now (Update u) =
    unless_key (sets_key (key_of u.table (layouts_in declared)) u.sets)
    (KeyUpdate (key_name (layouts_in declared) u.table)) now
    (step_of_effect declared now (filter_key u.table (key_of u.table (layouts_in declared)) u.filter ∷ [])
    (update_effect (columns_of u.table (layouts_in declared)) u.table (key_of u.table (layouts_in declared)) u.sets
    (found_rows now.view u.table u.filter)))
step_alone declared start now (Delete d) =
    step_of_effect declared now (filter_key d.table (key_of d.table (layouts_in declared)) d.filter ∷ [])
    (Ok (delete_effect d.table (key_of d.table (layouts_in declared)) (found_rows now.view d.table d.filter)))
step_alone declared start now (Select s) = record {
  reply = Ok (Rows (listed_rows s.listing (found_rows now.view s.table s.filter)));
  after = now;
  reads = filter_key s.table (key_of s.table (layouts_in declared)) s.filter ∷ [];
}
step_alone declared start now (SetModes names mode) = modes_step declared start names (is_immediate mode) now
step_alone declared start now (Verdict name) = verdict_step declared (assertion_of name declared.assertions) name now

-- what some statements answer one after the other, leave and read
pub record Run : Type 0 where
  pub replies : List (Result Reply Refusal)
  pub final : Standing
  pub reads : List LockKey

-- a step, and then what the statements behind it make
abbrev pub then_ran : Step → Run → Run
then_ran step more =
    record { replies = step.reply ∷ more.replies; final = more.final; reads = step.reads ++ more.reads }

-- some statements, each from what the one before it left
abbrev pub ran : Declared → State → Standing → List ResolvedStatement → Run
ran declared start now [] = record { replies = []; final = now; reads = [] }
ran declared start now (statement ∷ rest) =
    then_ran (step_alone declared start now statement)
    (ran declared start (step_alone declared start now statement).after rest)

-- one run and then another, from where it ended
abbrev pub joined_runs : Run → Run → Run
joined_runs run more =
    record { replies = run.replies ++ more.replies; final = more.final; reads = run.reads ++ more.reads }

-- a transaction's statements, run alone on a state
abbrev pub run_on : Declared → List ResolvedStatement → State → Run
run_on declared trace start =
    ran declared start (record { view = start; modes = initial_modes declared.assertions }) trace

-- what a transaction alone answers: its replies, its net change, and by which assertion its COMMIT is refused
pub record Outcome : Type 0 where
  pub replies : List (Result Reply Refusal)
  pub changes : List Change
  pub refused : Option Refusal

-- a transaction alone, from its first statement to its COMMIT, on a state
abbrev pub transaction : Declared → List ResolvedStatement → State → Outcome
transaction declared trace start = record {
  replies = (run_on declared trace start).replies;
  changes = net_change (layouts_in declared) start (run_on declared trace start).final.view;
  refused = violation (layouts_in declared) declared.assertions (run_on declared trace start).final.view;
}

-- What it reads, the check of COMMIT included. That is of all assertions; but what it would read of those that are
-- immediate then, the checks of the statements have read.
abbrev pub transaction_keys : Declared → List ResolvedStatement → State → List LockKey
transaction_keys declared trace start =
    (run_on declared trace start).reads
    ++ checks_read (layouts_in declared) (run_on declared trace start).final.view
    (deferred_ones (run_on declared trace start).final.modes declared.assertions)
    (net_change (layouts_in declared) start (run_on declared trace start).final.view)

-- the states of which the theorems speak: tables in key order, on which no assertion is false
pub record IsSound (declared : Declared) (state : State) : Type 0 where
  pub fit : IsState (layouts_in declared) state
  pub good : violation (layouts_in declared) declared.assertions state ≡ None
