-- A trace without INSERT, UPDATE and DELETE changes nothing.
use Rattle.std.proofs.Common.{◌≡◌, ℕ, Bool, true, false, not, cond, List, [], ◌∷◌, ◌++◌, Option, Some, None, Result, Ok, Err, map, length, refl, ap, ◌∙◌}
use Rattle.std.specs.Prelude.{filter, flat_map}
use Rattle.std.specs.List.{list_all, range_with_len}
use Rattle.std.proofs.lemmas.Bool.{and_from, and_parts}
use Rattle.std.proofs.lemmas.List.Folds.{list_all-append}
use Rattle.value.specs.declared.values.Value.{Value}
use Rattle.value.specs.declared.refusals.Refusal.{Refusal}
use Rattle.table.specs.declared.rows.Change.{Change}
use Rattle.table.specs.Rows.{Layout}
use Rattle.assertion.specs.declared.assertions.Assertion.{Assertion}
use Rattle.assertion.specs.Declarations.{Declared, layouts_in}
use Rattle.assertion.specs.Meaning.{State}
use Rattle.alone.specs.Modes.{is_immediate, named_ones, modes_with, assertion_of, set_names}
use Rattle.siread.specs.declared.keys.LockKey.{LockKey}
use Rattle.alone.specs.declared.answers.Reply.{Reply}
use Rattle.alone.specs.declared.answers.Reply.TheVariants.{ModesSet}
use Rattle.syntax.specs.declared.statements.Statement.{Statement as Written}
use Rattle.syntax.specs.declared.statements.Statement.TheVariants as written
use Rattle.assertcheck.specs.Selects.{select_of}
use Rattle.alone.specs.States.{is_real, change_between, keys_of_both, table_changes, net_change, row_in}
use Rattle.alone.specs.Checks.{violation, checks_read}
use Rattle.alone.specs.Alone.{Standing, unless_violated, modes_step, verdict_step, step_alone, ran, transaction}
use Rattle.alone.specs.Resolve.{statement_or_refusal, resolution_of, is_read_only}
use Rattle.alone.specs.declared.statements.ResolvedStatement.{ResolvedStatement}
use Rattle.alone.specs.declared.statements.ResolvedStatement.TheVariants.{Refused as Refuse, Insert, Update, Delete, Select, SetModes, Verdict}
use Rattle.alone.proofs.Stores.{same_there-refl}

check_leaves : (fault : Option Refusal) (reply : Reply) (before after : Standing) (reads : List LockKey) → after.view ≡ before.view
    → (unless_violated fault reply before after reads).after.view ≡ before.view
check_leaves None reply before after reads h = h
check_leaves (Some refusal) reply before after reads h = refl

modes_leave : (declared : Declared) (start : State) (names : List (List ℕ)) (immediate : Bool) (now : Standing) → (modes_step declared start names immediate now).after.view ≡ now.view
modes_leave declared start names false now = refl
modes_leave declared start names true now =
    check_leaves (violation (layouts_in declared) (named_ones names declared.assertions) now.view) ModesSet now
    (record { view = now.view; modes = modes_with names true declared.assertions now.modes })
    (checks_read (layouts_in declared) now.view (named_ones names declared.assertions) (net_change (layouts_in declared) start now.view)) refl

verdict_leaves : (declared : Declared) (found : Option Assertion) (name : List ℕ) (now : Standing) → (verdict_step declared found name now).after.view ≡ now.view
verdict_leaves declared None name now = refl
verdict_leaves declared (Some a) name now = refl

step_leaves : (declared : Declared) (start : State) (now : Standing) (s : ResolvedStatement) → is_read_only s ≡ true → (step_alone declared start now s).after.view ≡ now.view
step_leaves declared start now (Refuse refusal) h = refl
step_leaves declared start now (Insert new) h = cc
step_leaves declared start now (Update u) h = cc
step_leaves declared start now (Delete d) h = cc
step_leaves declared start now (Select s) h = refl
step_leaves declared start now (SetModes names mode) h = modes_leave declared start names (is_immediate mode) now
step_leaves declared start now (Verdict name) h = verdict_leaves declared (assertion_of name declared.assertions) name now

run_leaves : (declared : Declared) (start : State) (trace : List ResolvedStatement) (now : Standing) → list_all is_read_only trace ≡ true → (ran declared start now trace).final.view ≡ now.view
run_leaves declared start [] now h = refl
run_leaves declared start (s ∷ rest) now h =
    let p = and_parts (is_read_only s) (list_all is_read_only rest) h in
    run_leaves declared start rest (step_alone declared start now s).after p.1 ∙ step_leaves declared start now s p.0

-- what stands under the same key on both sides is no change
none_real : (layouts : List Layout) (state : State) (table : ℕ) (keys : List Value) → filter is_real (map (λ k. change_between layouts state state (record { table = table; key = k })) keys) ≡ []
none_real layouts state table [] = refl
none_real layouts state table (k ∷ keys) =
    let same : Change = change_between layouts state state (record { table = table; key = k }) in
    let rest = filter is_real (map (λ k. change_between layouts state state (record { table = table; key = k })) keys) in
    ap (λ b. cond (not b) (same ∷ rest) rest) (same_there-refl (row_in layouts state (record { table = table; key = k }))) ∙ none_real layouts state table keys

none_in : (layouts : List Layout) (state : State) (tables : List ℕ) → flat_map (table_changes layouts state state) tables ≡ []
none_in layouts state [] = refl
none_in layouts state (t ∷ tables) =
    ap (λ changes. changes ++ flat_map (table_changes layouts state state) tables) (none_real layouts state t (keys_of_both layouts state state t)) ∙ none_in layouts state tables

-- a state differs from itself nowhere
pub no_net_change : (layouts : List Layout) (state : State) → net_change layouts state state ≡ []
unfolding net_change
no_net_change layouts state = none_in layouts state (range_with_len 0 (length layouts))

pub changes_nothing : (declared : Declared) (trace : List ResolvedStatement) (state : State) → list_all is_read_only trace ≡ true → (transaction declared trace state).changes ≡ []
changes_nothing declared trace state h =
    ap (net_change (layouts_in declared) state) (run_leaves declared state trace _ h) ∙ no_net_change (layouts_in declared) state

-- what was made of a statement reads only where each form of it does, and a refusal does
made_reads : {A : Type 0} (form : A → ResolvedStatement) (found : Result A Refusal) → ((x : A) → is_read_only (form x) ≡ true) → is_read_only (statement_or_refusal form found) ≡ true
made_reads form (Ok x) h = h x
made_reads form (Err refusal) h = refl

-- whatever is written, a read-only transaction changes no rows by it
pub resolved_reads : (declared : Declared) (statement : Written) → is_read_only (resolution_of declared true statement) ≡ true
resolved_reads declared (written.Insert insert) = refl
resolved_reads declared (written.Update table sets condition) = refl
resolved_reads declared (written.Delete table condition) = refl
resolved_reads declared (written.Select select) = made_reads Select (select_of declared.tables select) (λ s. refl)
resolved_reads declared (written.SetConstraints assertions mode) = made_reads (λ names. SetModes names mode) (set_names declared.assertions assertions) (λ names. refl)
resolved_reads declared (written.Verdict name) = refl

-- such a statement behind others
pub one_more : (trace : List ResolvedStatement) (s : ResolvedStatement) → list_all is_read_only trace ≡ true → is_read_only s ≡ true
    → list_all is_read_only (trace ++ s ∷ []) ≡ true
one_more trace s before now = list_all-append is_read_only trace (s ∷ []) ∙ and_from _ _ before (and_from _ _ now refl)
