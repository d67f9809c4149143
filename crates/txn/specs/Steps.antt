-- What a step of the code leaves, beside the step that it has to be.
use Rattle.std.specs.Prelude.{◌≡◌, ◌≢◌, IfErr, List, [], ◌∷◌, length, map, Option, Some, None, Ok, Err, unwrap_or}
use Rattle.value.specs.declared.refusals.Refusal.{Refusal}
use Rattle.value.specs.declared.refusals.Refusal.TheVariants.{NoMemory}
use Rattle.value.specs.Ordered.{HoldsOf}
use Rattle.table.specs.declared.rows.Change.{Change}
use Rattle.assertion.specs.Changes.{state_after_all}
use Rattle.assertion.specs.Declarations.{Declared, layouts_in}
use Rattle.assertion.specs.Meaning.{State}
use Rattle.table.specs.Rows.{key_of}
use Rattle.alone.specs.Modes.{Immediates}
use Rattle.alone.specs.declared.answers.Reply.{Reply}
use Rattle.assertcheck.specs.declared.deletes.Delete.{Delete}
use Rattle.assertcheck.specs.declared.inserts.NewRows.{NewRows}
use Rattle.assertcheck.specs.declared.updates.Update.{Update}
use Rattle.siread.specs.declared.keys.LockKey.TheVariants.{Row as OneRow}
use Rattle.alone.specs.Alone.{Standing, Step, step_of_effect}
use Rattle.alone.specs.Reads.{filter_key}
use Rattle.alone.specs.States.{net_change}
use Rattle.alone.specs.Statements.{Effect, insert_effect, places_in}
use Rattle.delta.specs.Views.{ViewState}
use Rattle.txn.specs.declared.applied.AppliedEffect.{AppliedEffect}
use Rattle.txn.specs.declared.effects.Effect.{Effect as Made}
use Rattle.txn.specs.declared.steps.StepResult.{StepResult}
use Rattle.txn.specs.Effects.{delete_of, filter_on, update_of}

-- a view of the tables, and modes
abbrev pub standing_with : ViewState → Immediates → Standing
standing_with own modes = record { view = own.state; modes = modes }

-- the rows that are left
abbrev pub rows_left : State → Option ViewState → State
rows_left before None = before
rows_left before (Some after) = after.state

-- what is left
abbrev pub left_by : Standing → StepResult → Standing
left_by now done = record { view = rows_left now.view done.view; modes = unwrap_or done.modes now.modes }

-- it was answered as the step, leaves what the step leaves, and read what it reads
pub record IsDone (now : Standing) (step : Step) (done : StepResult) : Type 0 where
  pub reply : step.reply ≡ done.reply
  pub after : step.after ≡ left_by now done
  pub reads : step.reads ≡ done.reads.items

-- where it was refused, that was for another reason than memory
abbrev pub IsKnown : StepResult → Type 0
IsKnown done = IfErr done.reply (λ refusal. refusal ≢ NoMemory)

-- what it leaves is of the same declarations
pub record IsOf (declared : Declared) (done : StepResult) : Type 0 where
  pub view : HoldsOf (λ after. after.declared ≡ declared) done.view
  pub modes : HoldsOf (λ after. length after ≡ length declared.assertions) done.modes

-- an answer and what it leaves, unless an assertion is violated
abbrev pub IsLeft : Option Refusal → Reply → Option ViewState → Option Immediates → StepResult → Type 0
IsLeft None reply view modes done = (done.reply ≡ Ok reply) × (done.view ≡ view) × (done.modes ≡ modes)
IsLeft (Some refusal) reply view modes done = (done.reply ≡ Err refusal) × (done.view ≡ None) × (done.modes ≡ None)

-- the changes that were put in, unless it is
abbrev pub ArePut : Option Refusal → List Change → List Change → Type 0
ArePut None changes put = put ≡ changes
ArePut (Some refusal) changes put = put ≡ []

-- an effect as the definitions see it
abbrev pub shown_effect : Made → Effect
shown_effect made = record { reply = made.reply; changes = made.changes.items }

-- an effect has been put into a view, and its changes are the rows in which that differs from the view before
pub record HasApplied (own : ViewState) (effect : Effect) (applied : AppliedEffect) : Type 0 where
  pub reply : applied.reply ≡ effect.reply
  pub view : applied.view
      ≡ record own { state = state_after_all (layouts_in own.declared) effect.changes own.state }
  pub changes : applied.changes.items ≡ net_change (layouts_in own.declared) own.state applied.view.state

-- the effect of an INSERT has been put into a view
pub record HasInserted (own : ViewState) (new : NewRows) (applied : AppliedEffect) : Type 0 where
  pub effect : Effect
  pub made : insert_effect own.declared.tables new own.state ≡ Ok effect
  pub is : HasApplied own effect applied

-- the steps of the statements that change rows
abbrev pub insert_step : ViewState → Immediates → NewRows → Step
insert_step own modes new =
    step_of_effect own.declared (standing_with own modes) (map OneRow (places_in (layouts_in own.declared) new))
    (insert_effect own.declared.tables new own.state)

-- UPDATE of the rows that its condition keeps, as a step
abbrev pub update_step : ViewState → Immediates → Update → Step
update_step own modes u =
    step_of_effect own.declared (standing_with own modes)
    (filter_key u.table (key_of u.table (layouts_in own.declared)) u.filter ∷ [])
    (update_of own u.sets (filter_on own u.table u.filter))

-- DELETE of the rows that its condition keeps, as a step
abbrev pub delete_step : ViewState → Immediates → Delete → Step
delete_step own modes d =
    step_of_effect own.declared (standing_with own modes)
    (filter_key d.table (key_of d.table (layouts_in own.declared)) d.filter ∷ [])
    (Ok (delete_of own (filter_on own d.table d.filter)))
