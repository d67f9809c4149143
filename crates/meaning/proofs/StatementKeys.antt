-- A statement that is taken reads under the key of its table and its WHERE as they are written.
use Rattle.std.proofs.Common.{◌≡◌, ℕ, Option, Some, None, Result, Ok, Err, List, [], ◌∷◌, refl, ap, ◌∙◌, subst}
use Rattle.value.specs.declared.refusals.Refusal.{Refusal}
use Rattle.value.specs.declared.refusals.Refusal.TheVariants.{KeyUpdate}
use Rattle.table.specs.Rows.{Tables, layouts_of, key_of}
use Rattle.table.specs.declared.conds.Cond.{Cond}
use Rattle.syntax.specs.declared.trees.Condition.{Condition}
use Rattle.assertion.specs.Declarations.{Declared, layouts_in}
use Rattle.assertion.specs.Changes.{state_after_all}
use Rattle.form_check.specs.Queries.{Source, source_of, row_filter}
use Rattle.assertcheck.specs.declared.deletes.Delete.{Delete}
use Rattle.assertcheck.specs.declared.selects.Select.{Select}
use Rattle.assertcheck.specs.declared.updates.Update.{Update}
use Rattle.siread.specs.declared.keys.LockKey.{LockKey}
use Rattle.alone.specs.declared.statements.ResolvedStatement.TheVariants as statement
use Rattle.alone.specs.Alone.{Standing, unless_violated, unless_key, key_name, step_of_effect, step_alone}
use Rattle.alone.specs.Checks.{violation, checks_read}
use Rattle.alone.specs.Modes.{immediate_ones}
use Rattle.alone.specs.Reads.{filter_key}
use Rattle.alone.specs.Resolve.{statement_or_refusal}
use Rattle.alone.specs.States.{net_change}
use Rattle.alone.specs.Statements.{Effect, columns_of, found_rows, delete_effect, update_effect}
use Rattle.alone.proofs.Keyless.{checked_keyless}
use Rattle.meaning.specs.Keys.{IsWrittenKey, SelectReads, DeleteReads, UpdateReads}
use Rattle.meaning.proofs.Whole.{key_at}
use Rattle.meaning.proofs.Keys.{WhereReads-law}
use Rattle.meaning.proofs.CheckKeys.{table_is}
use Rattle.meaning.proofs.Checked.{deletes, updates}
use Rattle.meaning.proofs.Selects.{selects}

-- the key of a resolved WHERE
key_read : (tables : Tables) (name : List ℕ) (correlation_name : Option (List ℕ)) (condition : Option Condition) (target : Source) (restriction : Cond) → source_of tables name correlation_name ≡ Some target → row_filter target.scope condition ≡ Ok restriction
    → IsWrittenKey tables name correlation_name condition (filter_key target.table (key_of target.table (layouts_of tables)) restriction)
key_read tables name correlation_name condition target restriction found is =
    (target.table, target.scope, table_is tables name correlation_name target found, ap (λ key. filter_key target.table key restriction) (key_at tables name correlation_name target found) ∙ WhereReads-law target.scope condition restriction is target.table)

-- a check that refuses has read the same
checks_read_same : (o : Option Refusal) (effect : Effect) (before after : Standing) (reads : List LockKey) → (unless_violated o effect.reply before after reads).reads ≡ reads
checks_read_same None effect before after reads = refl
checks_read_same (Some refusal) effect before after reads = refl

-- an effect on the rows reads a key first
effect_reads : (declared : Declared) (now : Standing) (read : LockKey) (effect : Result Effect Refusal) → (checks : List LockKey) × ((step_of_effect declared now (read ∷ []) effect).reads ≡ read ∷ checks)
effect_reads declared now read (Err refusal) = let none : List LockKey = [] in (none, refl)
effect_reads declared now read (Ok effect) =
    let view = state_after_all (layouts_in declared) effect.changes now.view in
    let ones = immediate_ones now.modes declared.assertions in
    let checks = checks_read (layouts_in declared) view ones (net_change (layouts_in declared) now.view view) in
    (checks, checks_read_same (violation (layouts_in declared) ones view) effect now (record { view = view; modes = now.modes }) (read ∷ checks))

pub SelectReads-law : SelectReads
SelectReads-law declared read_only start now written select e =
    let tables = declared.tables in
    let s = selects tables written select e in
    let read = filter_key select.table (key_of select.table (layouts_of tables)) select.filter in (
      read,
      subst (λ (s : Select). IsWrittenKey tables written.table written.correlation_name written.keeps (filter_key s.table (key_of s.table (layouts_of tables)) s.filter)) s.made (key_read tables written.table written.correlation_name written.keeps s.target s.restriction s.found s.keeps),
      ap (λ r. (step_alone declared start now (statement_or_refusal statement.Select r)).reads) e,
    )

pub DeleteReads-law : DeleteReads
DeleteReads-law declared start now name condition delete e =
    let tables = declared.tables in
    let layouts = layouts_in declared in
    let d = deletes tables name condition delete e in
    let read = filter_key delete.table (key_of delete.table (layouts_of tables)) delete.filter in
    let (checks, reads) = effect_reads declared now read (Ok (delete_effect delete.table (key_of delete.table layouts) (found_rows now.view delete.table delete.filter))) in (
      read,
      checks,
      subst (λ (d : Delete). IsWrittenKey tables name None condition (filter_key d.table (key_of d.table (layouts_of tables)) d.filter)) d.made (key_read tables name None condition d.target d.restriction d.found d.keeps),
      ap (λ r. (step_alone declared start now (statement_or_refusal statement.Delete r)).reads) e ∙ reads,
    )

pub UpdateReads-law : UpdateReads
UpdateReads-law declared start now name sets condition update e =
    let tables = declared.tables in
    let layouts = layouts_in declared in
    let u = updates tables name sets condition update e in
    let read = filter_key update.table (key_of update.table (layouts_of tables)) update.filter in
    let effect = update_effect (columns_of update.table layouts) update.table (key_of update.table layouts) update.sets (found_rows now.view update.table update.filter) in
    let (checks, reads) = effect_reads declared now read effect in (
      read,
      checks,
      subst (λ (u : Update). IsWrittenKey tables name None condition (filter_key u.table (key_of u.table (layouts_of tables)) u.filter)) u.made (key_read tables name None condition u.target u.restriction u.found u.keeps),
      ap (λ r. (step_alone declared start now (statement_or_refusal statement.Update r)).reads) e
          ∙ ap (λ b. (unless_key b (KeyUpdate (key_name layouts update.table)) now (step_of_effect declared now (read ∷ []) effect)).reads) (checked_keyless tables name sets condition update e)
          ∙ reads,
    )
