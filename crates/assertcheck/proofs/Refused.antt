-- The last step of an UPDATE refuses what the whole refuses.
use Rattle.std.proofs.Common.{◌≡◌, ℕ, List, Option, Result, Ok, Err, sym, ap, ◌∙◌}
use Rattle.std.specs.Prelude.{◌≢◌, IfErr}
use Rattle.value.specs.declared.refusals.Refusal.{Refusal}
use Rattle.value.specs.declared.refusals.Refusal.TheVariants.{NoMemory}
use Rattle.table.specs.declared.schemas.Column.{Column}
use Rattle.syntax.specs.declared.trees.Condition.{Condition}
use Rattle.syntax.specs.declared.statements.Assignment.{Assignment}
use Rattle.table.specs.declared.conds.Cond.{Cond}
use Rattle.value.specs.Results.{and_then}
use Rattle.form_check.specs.Queries.{Source, row_filter}
use Rattle.assertcheck.specs.declared.updates.Setting.{Setting}
use Rattle.assertcheck.specs.declared.updates.Update.{Update}
use Rattle.assertcheck.specs.Updates.{settings_of, sound_update, update_over}

pub by_last : (target : Source) (places : List ℕ) (sets : List Assignment) (condition : Option Condition) (settings items : List Setting) (restriction : Cond) (columns : List Column) (result : Result Update Refusal)
    → settings_of target.scope places sets ≡ Ok settings → row_filter target.scope condition ≡ Ok restriction
    → result ≡ sound_update columns (record { table = target.table; sets = items; filter = restriction })
    → columns ≡ target.scope.layout.columns → items ≡ settings
    → IfErr result (λ refusal. refusal ≢ NoMemory → update_over target places sets condition ≡ Err refusal)
by_last target places sets condition settings items restriction columns (Ok update) a b e f g = _
by_last target places sets condition settings items restriction columns (Err refusal) a b e f g = λ _.
    ap (λ s. and_then s (λ settings. and_then (row_filter target.scope condition) (λ restriction. sound_update target.scope.layout.columns (record { table = target.table; sets = settings; filter = restriction })))) a
    ∙ ap (λ k. and_then k (λ restriction. sound_update target.scope.layout.columns (record { table = target.table; sets = settings; filter = restriction }))) b
    ∙ sym (e ∙ ap (λ columns. sound_update columns (record { table = target.table; sets = items; filter = restriction })) f
    ∙ ap (λ items. sound_update target.scope.layout.columns (record { table = target.table; sets = items; filter = restriction })) g)
