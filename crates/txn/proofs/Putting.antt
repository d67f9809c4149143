-- What changes that are put in leave of a state.
use Rattle.std.proofs.Common.{◌≡◌, ◌++◌, ℕ, true, List, [], Option, Some, None, Ok, refl, sym, ap, ◌∙◌, subst, inl, inr}
use Rattle.std.specs.Prelude.{unwrap_or}
use Rattle.value.specs.declared.refusals.Refusal.{Refusal}
use Rattle.table.specs.declared.rows.Change.{Change}
use Rattle.table.specs.Rows.{Layout}
use Rattle.assertion.specs.declared.assertions.Assertion.{Assertion}
use Rattle.assertion.specs.Declarations.{layouts_in}
use Rattle.assertion.specs.Meaning.{State}
use Rattle.assertion.specs.Changes.{state_after_all}
use Rattle.siread.specs.declared.keys.LockKey.{LockKey}
use Rattle.siread.specs.Keys.{place_of}
use Rattle.alone.specs.Modes.{Immediates, immediate_ones, modes_with, named_ones}
use Rattle.alone.specs.declared.answers.Reply.{Reply}
use Rattle.alone.specs.declared.answers.Reply.TheVariants.{ModesSet}
use Rattle.alone.specs.Alone.{Standing, step_of_effect, modes_step, unless_violated}
use Rattle.alone.specs.Checks.{checks_read, violation}
use Rattle.alone.specs.States.{change_between, net_change, IsState}
use Rattle.alone.specs.Statements.{Effect}
use Rattle.alone.proofs.Members.{in_map}
use Rattle.alone.proofs.Nets.{net_all, net_exact}
use Rattle.siread.proofs.Members.{not_in_nil}
use Rattle.delta.specs.Views.{ViewState}
use Rattle.changes.specs.Nets.{AreChangesBetween}
use Rattle.txn.specs.declared.steps.StepResult.{StepResult}
use Rattle.txn.specs.Steps.{ArePut, IsDone, IsLeft, left_by, rows_left, standing_with}

module _ (layouts : List Layout) where
  -- the net change of two states is the changes between them
  pub between_net : (before after : State) → IsState layouts before → IsState layouts after → AreChangesBetween layouts before after (net_change layouts before after)
  between_net before after f g = record {
    exact = λ change m. (net_exact layouts before after change m).0;
    elsewhere = λ place. elim (net_all layouts before after f g place) [
      | inl same ↦ inl same
      | inr listed ↦ inr (in_map place_of (net_change layouts before after) (change_between layouts before after place) listed)
    ];
  }

  -- where nothing changed there are none
  pub between_none : (state : State) → AreChangesBetween layouts state state []
  between_none state = record { exact = λ change m. absurd (not_in_nil change m); elsewhere = λ place. inl refl }

-- what is left where nothing has changed, and where rows have
left_none : (own : ViewState) (modes : Immediates) (done : StepResult) → done.view ≡ None → done.modes ≡ None → standing_with own modes ≡ left_by (standing_with own modes) done
left_none own modes done v m = λ i. record { view = sym (ap (rows_left own.state) v) i; modes = sym (ap (λ o. unwrap_or o modes) m) i }

left_so : (own : ViewState) (modes : Immediates) {after : ViewState} (new : State) (done : StepResult) → done.view ≡ Some after → done.modes ≡ None → after.state ≡ new
    → record { view = new; modes = modes } ≡ left_by (standing_with own modes) done
left_so own modes new done v m e = λ i. record { view = sym (ap (rows_left own.state) v ∙ e) i; modes = sym (ap (λ o. unwrap_or o modes) m) i }

module _ (own : ViewState) (modes : Immediates) where
  abbrev layouts : List Layout
  layouts = layouts_in own.declared

  abbrev checked : List Assertion
  checked = immediate_ones modes own.declared.assertions

  -- rows that are left unless an assertion is violated are those of the step
  pub rows_done : (found_under : List LockKey) (effect : Effect) (after : ViewState) (found violated : Option Refusal) (done : StepResult) → after.state ≡ state_after_all layouts effect.changes own.state
      → found ≡ violation layouts checked (state_after_all layouts effect.changes own.state) → violated ≡ found
      → done.reads.items ≡ found_under ++ checks_read layouts (state_after_all layouts effect.changes own.state) checked (net_change layouts own.state (state_after_all layouts effect.changes own.state))
      → IsLeft violated effect.reply (Some after) None done
      → IsDone (standing_with own modes) (step_of_effect own.declared (standing_with own modes) found_under (Ok effect)) done
  rows_done found_under effect after found None done e f g r left =
      subst (λ o. IsDone (standing_with own modes) (unless_violated o effect.reply (standing_with own modes) new reads) done) (g ∙ f) (record {
        reply = sym left.0;
        after = left_so own modes _ done left.1 left.2 e;
        reads = sym r;
      })
    where
      new : Standing
      new = record { view = state_after_all (layouts_in own.declared) effect.changes own.state; modes = modes }

      reads : List LockKey
      reads = found_under ++ checks_read (layouts_in own.declared) (state_after_all (layouts_in own.declared) effect.changes own.state) (immediate_ones modes own.declared.assertions) (net_change (layouts_in own.declared) own.state (state_after_all (layouts_in own.declared) effect.changes own.state))
  rows_done found_under effect after found (Some refusal) done e f g r left =
      subst (λ o. IsDone (standing_with own modes) (unless_violated o effect.reply (standing_with own modes) new reads) done) (g ∙ f) (record {
        reply = sym left.0;
        after = left_none own modes done left.1 left.2;
        reads = sym r;
      })
    where
      new : Standing
      new = record { view = state_after_all (layouts_in own.declared) effect.changes own.state; modes = modes }

      reads : List LockKey
      reads = found_under ++ checks_read (layouts_in own.declared) (state_after_all (layouts_in own.declared) effect.changes own.state) (immediate_ones modes own.declared.assertions) (net_change (layouts_in own.declared) own.state (state_after_all (layouts_in own.declared) effect.changes own.state))

  -- and these are the changes to them
  pub rows_between : (real put : List Change) (after : ViewState) (reply : Reply) (violated : Option Refusal) (done : StepResult)
      → AreChangesBetween layouts own.state after.state real
      → IsLeft violated reply (Some after) None done → ArePut violated real put
      → AreChangesBetween layouts own.state (left_by (standing_with own modes) done).view put
  rows_between real put after reply None done between left same =
      subst (λ all. AreChangesBetween layouts own.state (rows_left own.state done.view) all) (sym same) (subst (λ u. AreChangesBetween layouts own.state (rows_left own.state u) real) (sym left.1) between)
  rows_between real put after reply (Some refusal) done between left same =
      subst (λ all. AreChangesBetween layouts own.state (rows_left own.state done.view) all) (sym same) (subst (λ u. AreChangesBetween layouts own.state (rows_left own.state u) []) (sym left.1) (between_none layouts own.state))

  -- modes that are set unless an assertion is violated are those of the step
  pub modes_done : (start : State) (names : List (List ℕ)) (new : Immediates) (net : List Change) (found violated : Option Refusal) (done : StepResult)
      → net ≡ net_change layouts start own.state → new ≡ modes_with names true own.declared.assertions modes
      → found ≡ violation layouts (named_ones names own.declared.assertions) own.state → violated ≡ found
      → done.reads.items ≡ checks_read layouts own.state (named_ones names own.declared.assertions) net
      → IsLeft violated ModesSet None (Some new) done
      → IsDone (standing_with own modes) (modes_step own.declared start names true (standing_with own modes)) done
  modes_done start names new net found None done n e f g r left =
      subst (λ o. IsDone (standing_with own modes) (unless_violated o ModesSet (standing_with own modes) (record { view = own.state; modes = modes_with names true own.declared.assertions modes }) (checks_read (layouts_in own.declared) own.state (named_ones names own.declared.assertions) (net_change (layouts_in own.declared) start own.state))) done) (g ∙ f) (record {
        reply = sym left.0;
        after = λ i. record { view = sym (ap (rows_left own.state) left.1) i; modes = sym (ap (λ o. unwrap_or o modes) left.2 ∙ e) i };
        reads = sym (r ∙ ap (checks_read (layouts_in own.declared) own.state (named_ones names own.declared.assertions)) n);
      })
  modes_done start names new net found (Some refusal) done n e f g r left =
      subst (λ o. IsDone (standing_with own modes) (unless_violated o ModesSet (standing_with own modes) (record { view = own.state; modes = modes_with names true own.declared.assertions modes }) (checks_read (layouts_in own.declared) own.state (named_ones names own.declared.assertions) (net_change (layouts_in own.declared) start own.state))) done) (g ∙ f) (record {
        reply = sym left.0;
        after = left_none own modes done left.1 left.2;
        reads = sym (r ∙ ap (checks_read (layouts_in own.declared) own.state (named_ones names own.declared.assertions)) n);
      })
