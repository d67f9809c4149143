-- A statement more, and what is held is again what the trace leaves.
use Rattle.std.proofs.Common.{◌≡◌, true, List, [], ◌∷◌, ◌++◌, Option, Some, None, Result, Ok, Err, length, refl, sym, ap, ◌∙◌, subst, append-nil}
use Rattle.std.specs.Prelude.{unwrap_or, IfOk, IfErr, ◌≢◌}
use Rattle.value.specs.declared.refusals.Refusal.{Refusal}
use Rattle.value.specs.declared.refusals.Refusal.TheVariants.{NoMemory}
use Rattle.value.specs.Ordered.{HoldsOf}
use Rattle.alone.specs.declared.answers.Reply.{Reply}
use Rattle.assertion.specs.Declarations.{Declared, layouts_in}
use Rattle.assertion.specs.Meaning.{State}
use Rattle.siread.specs.declared.keys.LockKey.{LockKey}
use Rattle.table.specs.Rows.{Layout}
use Rattle.alone.specs.States.{IsState}
use Rattle.alone.specs.Modes.{Immediates}
use Rattle.alone.specs.declared.statements.ResolvedStatement.{ResolvedStatement}
use Rattle.alone.proofs.ReadOnly.{one_more}
use Rattle.alone.specs.Alone.{Run, Standing, Step, joined_runs, ran, step_alone}
use Rattle.alone.specs.Resolve.{is_read_only}
use Rattle.delta.specs.Views.{ViewState}
use Rattle.changes.specs.Nets.{AreChangesBetween, AreNoted, Noted}
use Rattle.txn.specs.declared.steps.StepResult.{StepResult}
use Rattle.txn.specs.Held.{IsHeld}
use Rattle.txn.specs.Steps.{IsDone, IsOf, left_by, rows_left, standing_with}
use Rattle.txn.specs.Transactions.{OpenTransaction, run_of, standing_of, step_of, with_statement}

-- runs may be run in two parts
abbrev pub InParts : Type 0
InParts = (declared : Declared) (start : State) (now : Standing) (first rest : List ResolvedStatement)
    → ran declared start now (first ++ rest) ≡ joined_runs (ran declared start now first) (ran declared start (ran declared start now first).final rest)

module _ (t : OpenTransaction) (own : ViewState) (modes : Immediates) (s : ResolvedStatement) where
  -- the step on what is held is that of the transaction
  pub step_is : {touched : Noted} {reads : List LockKey} → IsHeld t own modes touched reads → step_alone own.declared t.start (standing_with own modes) s ≡ step_of t s
  step_is h = λ i. step_alone (h.own_is i).declared t.start (record { view = (h.own_is i).state; modes = h.modes_are i }) s

  module _ (parts : InParts) where
    -- the run with one statement more
    pub run_with : run_of (with_statement t s) ≡ joined_runs (run_of t) (ran t.declared t.start (standing_of t) (s ∷ []))
    run_with = parts t.declared t.start _ t.trace (s ∷ [])

    pub final_with : standing_of (with_statement t s) ≡ (step_of t s).after
    final_with = ap (λ (r : Run). r.final) run_with

    pub reads_with : (run_of (with_statement t s)).reads ≡ (run_of t).reads ++ (step_of t s).reads
    reads_with = ap (λ (r : Run). r.reads) run_with ∙ ap (λ ks. (run_of t).reads ++ ks) (append-nil (step_of t s).reads)

view_left : (own : ViewState) (view : Option ViewState) → (unwrap_or view own).state ≡ rows_left own.state view
view_left own None = refl
view_left own (Some after) = refl

declared_left : (own : ViewState) (view : Option ViewState) → HoldsOf (λ (after : ViewState). after.declared ≡ own.declared) view → (unwrap_or view own).declared ≡ own.declared
declared_left own None h = refl
declared_left own (Some after) h = h

long_left : (modes : Immediates) (new : Option Immediates) (declared : Declared) → length modes ≡ length declared.assertions
    → HoldsOf (λ (after : Immediates). length after ≡ length declared.assertions) new → length (unwrap_or new modes) ≡ length declared.assertions
long_left modes None declared e h = e
long_left modes (Some after) declared e h = h

-- it was done as the step from any start whose difference is noted
abbrev IsDoneFrom : ViewState → Immediates → Noted → ResolvedStatement → StepResult → Type 0
IsDoneFrom own modes touched s d = (start : State) → IsState (layouts_in own.declared) start → AreNoted (layouts_in own.declared) start own.state touched
    → IsDone (standing_with own modes) (step_alone own.declared start (standing_with own modes) s) d

module _ (t : OpenTransaction) (own : ViewState) (modes : Immediates) (s : ResolvedStatement) (d : StepResult) {touched : Noted} {reads : List LockKey}
    (h : IsHeld t own modes touched reads) (fit : IsState (layouts_in t.declared) t.start) (does : IsDoneFrom own modes touched s d) where
  -- so as that from the transaction's
  done_from : IsDone (standing_with own modes) (step_alone own.declared t.start (standing_with own modes) s) d
  done_from =
      let same : t.declared ≡ own.declared = sym (ap (λ (o : ViewState). o.declared) h.own_is) in
      does t.start (subst (λ (declared : Declared). IsState (layouts_in declared) t.start) same fit)
      (subst (λ (declared : Declared). AreNoted (layouts_in declared) t.start own.state touched) same h.noted)

  pub reply_from : (step_of t s).reply ≡ d.reply
  reply_from = sym (ap (λ (p : Step). p.reply) (step_is t own modes s h)) ∙ done_from.reply

pub held_after : (t : OpenTransaction) (own : ViewState) (modes : Immediates) (touched more : Noted) (reads all : List LockKey) (s : ResolvedStatement) (d : StepResult) → InParts
    → IsHeld t own modes touched reads → IsState (layouts_in t.declared) t.start
    → IsDoneFrom own modes touched s d → IsOf own.declared d
    → AreChangesBetween (layouts_in own.declared) own.state (left_by (standing_with own modes) d).view d.changes.items
    → ((layouts : List Layout) (start before after : State) → AreNoted layouts start before touched → AreChangesBetween layouts before after d.changes.items → AreNoted layouts start after more)
    → all ≡ reads ++ d.reads.items
    → (t.read_only ≡ true → is_read_only s ≡ true)
    → IsHeld (with_statement t s) (unwrap_or d.view own) (unwrap_or d.modes modes) more all
held_after t own modes touched more reads all s d parts h fit does of between put read may =
    let done : IsDone (standing_with own modes) (step_alone own.declared t.start (standing_with own modes) s) d = done_from t own modes s d h fit does in
    let step : step_alone own.declared t.start (standing_with own modes) s ≡ step_of t s = step_is t own modes s h in
    let after : standing_of (with_statement t s) ≡ left_by (standing_with own modes) d = final_with t own modes s parts ∙ sym (ap (λ (p : Step). p.after) step) ∙ done.after in
    let declared : (unwrap_or d.view own).declared ≡ t.declared = declared_left own d.view of.view ∙ ap (λ (o : ViewState). o.declared) h.own_is in
    let state : (unwrap_or d.view own).state ≡ (standing_of (with_statement t s)).view = view_left own d.view ∙ sym (ap (λ (p : Standing). p.view) after) in
    record {
      own_is = λ i. record { declared = declared i; state = state i };
      modes_are = sym (ap (λ (p : Standing). p.modes) after);
      long = long_left modes d.modes t.declared h.long (subst (λ (declared : Declared). HoldsOf (λ (after : Immediates). length after ≡ length declared.assertions) d.modes) (ap (λ (o : ViewState). o.declared) h.own_is) of.modes);
      noted = subst (λ (state : State). AreNoted (layouts_in t.declared) t.start state more) (sym (view_left own d.view))
          (put (layouts_in t.declared) t.start own.state (rows_left own.state d.view) h.noted
          (subst (λ (declared : Declared). AreChangesBetween (layouts_in declared) own.state (rows_left own.state d.view) d.changes.items) (ap (λ (o : ViewState). o.declared) h.own_is) between));
      reads_are = read ∙ ap (λ ks. ks ++ d.reads.items) h.reads_are ∙ ap (λ ks. (run_of t).reads ++ ks) (sym done.reads ∙ ap (λ (p : Step). p.reads) step) ∙ sym (reads_with t own modes s parts);
      no_changes = λ only. one_more t.trace s (h.no_changes only) (may only);
    }

pub reply_ok : (r : Result Reply Refusal) (step : Step) → step.reply ≡ r → IfOk r (λ reply. step.reply ≡ Ok reply)
reply_ok (Ok reply) step e = e
reply_ok (Err refusal) step e = tt

pub reply_err : (r : Result Reply Refusal) (step : Step) → step.reply ≡ r → IfErr r (λ refusal. refusal ≢ NoMemory → step.reply ≡ Err refusal)
reply_err (Ok reply) step e = tt
reply_err (Err refusal) step e = λ known. e

pub never : (P : Type 0) (r : Result Reply Refusal) → IfErr r (λ refusal. refusal ≢ NoMemory) → IfErr r (λ refusal. refusal ≡ NoMemory → P)
never P (Ok reply) h = tt
never P (Err refusal) h = λ e. absurd (h e)
