-- What is opened, and what is then written, is the report that the contract has.
use Rattle.std.proofs.Common.{◌≡◌, length, ℕ, Bool, true, false, List, Option, Some, None, Result, Ok, Err, ap, refl, sym, ◌∙◌, subst, inl, inr}
use Rattle.std.specs.Prelude.{◌≢◌, ◌⊎◌, OnOk, IfErr, is_some}
use Rattle.std.specs.Io.KnownBytes.{Appends}
use Rattle.value.specs.declared.refusals.Refusal.{Refusal}
use Rattle.value.specs.declared.refusals.Refusal.TheVariants.{NoMemory, TooManySessions}
use Rattle.syntax.specs.declared.statements.ScriptLine.{ScriptLine}
use Rattle.delta.specs.Views.{ViewState}
use Rattle.commit.specs.Admission.{tables_if_satisfied}
use Rattle.commit.specs.Cores.{CoreState, IsSerializable}
use Rattle.session.specs.Books.{IsOver}
use Rattle.threads.specs.declared.scripts.Script.{Script}
use Rattle.threads.specs.declared.scripts.ScriptAnswers.{ScriptAnswers}
use Rattle.threads.specs.Scripts.{AreAnswered}
use Rattle.replay.specs.declared.faults.ProgramFault.{ProgramFault}
use Rattle.replay.specs.declared.faults.ProgramFault.TheVariants.{Defs, NoThread, Output, Stopped, Script as ScriptFault}
use Rattle.syntax.specs.SchemaGrammar.{IsScript}
use Rattle.replay.specs.Texts.{HasFewSessions, HasManySessions, HasTooManySessions, IsFirstFault, IsInTheRun, IsNoScript, IsRun, IsUnread, is_before_the_run}
use Rattle.replay.specs.Takings.{AreTaken}
use Rattle.replay.proofs.Late.{late_fault}
use Rattle.replay.proofs.Taking.{admitted}
use Rattle.threads.specs.Grouping.{scripts_of}
use Rattle.threads.specs.Kept.{WritesKept}
use Rattle.threads.specs.Grouped.{AreAsMany, AreOpened, PrintsGrouped, WritesGrouped, all_ran, grouped_report}

-- what is opened over the definitions that were taken in has their tables
pub are_opened : (defs script : List ℕ) (made : ViewState) (lines : List ScriptLine) (scripts : List Script)
    → AreTaken defs script made lines → tables_if_satisfied made ≡ Ok made → (shown : ViewState) → shown ≡ made → HasFewSessions lines → scripts ≡ scripts_of lines
    → AreOpened defs script shown scripts
are_opened defs script made lines scripts read holds shown same few are = record {
  lines = lines;
  ready = record { admitted = admitted defs script made lines read shown same (holds ∙ ap Ok (sym same)); few = few };
  are = are;
}

-- a script that can't be run, where the definitions are admitted: it has too many sessions, or there was no memory
pub scripts_refused : (defs script : List ℕ) (made : ViewState) (lines : List ScriptLine) → AreTaken defs script made lines
    → tables_if_satisfied made ≡ Ok made → (refusal : Refusal) → (refusal ≡ NoMemory) ⊎ (HasManySessions lines × (refusal ≡ TooManySessions))
    → IsNoScript defs script refusal ⊎ HasTooManySessions defs script refusal
scripts_refused defs script made lines read holds refusal (inl none) =
    inl (record { definitions = read.definitions; defs_read = read.read.defs_read; refused = subst (IsUnread IsScript script) (sym none) tt })
scripts_refused defs script made lines read holds refusal (inr many) = inr (record {
  shown = made;
  lines = lines;
  taken = admitted defs script made lines read made refl holds;
  many = many.0;
  refused = many.1;
})

pub prints : (scripts : List Script) (found : List ScriptAnswers) (core : CoreState) (loaded : ViewState) (limit : ℕ) (next : Option ℕ) (all : Bool) (old new : Option (List ℕ))
    → IsOver core loaded limit → IsSerializable core → AreAsMany (length core.records) next → all_ran found ≡ all
    → Appends old new (grouped_report (is_some next) scripts found core) → PrintsGrouped scripts found loaded limit next all old new
prints scripts found core loaded limit next all old new over serializable as_many ran written =
    record { core = core; over = over; serializable = serializable; as_many = as_many; ran = ran; written = written }

module _ (defs script : List ℕ) (shown : ViewState) (limit : ℕ) (scripts : List Script) (o : AreOpened defs script shown scripts) where
  pub no_room : IsFirstFault defs script (ScriptFault NoMemory)
  no_room = inl (record { definitions = o.ready.admitted.definitions; defs_read = o.ready.admitted.read.defs_read; refused = tt })

  run : IsRun defs script
  run = record { shown = shown; lines = o.lines; ready = o.ready }

  reported : (found : List ScriptAnswers) (all : Bool) (old new : Option (List ℕ)) → AreAnswered scripts found → PrintsGrouped scripts found shown limit None all old new
      → WritesGrouped defs script limit all old new
  reported found all old new answered p = record {
    bytes = grouped_report false scripts found p.core;
    is = record {
      shown = shown;
      lines = o.lines;
      found = found;
      core = p.core;
      ready = o.ready;
      answered = subst (λ s. AreAnswered s found) o.are answered;
      ran = p.ran;
      over = p.over;
      serializable = p.serializable;
      prints = ap (λ s. grouped_report false s found p.core) o.are;
    };
    written = p.written;
  }

  pub reports : {A : Type 0} (printed : Result A ProgramFault) (found : List ScriptAnswers) (old new : Option (List ℕ)) → AreAnswered scripts found
      → OnOk printed (PrintsGrouped scripts found shown limit None true old new) → OnOk printed (WritesGrouped defs script limit true old new)
  reports (Ok done) found old new answered p = reported found true old new answered p
  reports (Err fault) found old new answered p = tt

  pub reports_unrun : {A : Type 0} (printed : Result A ProgramFault) (found : List ScriptAnswers) (old new : Option (List ℕ)) → AreAnswered scripts found
      → IfErr printed (λ fault. fault ≡ NoThread → PrintsGrouped scripts found shown limit None false old new)
      → IfErr printed (λ fault. fault ≡ NoThread → WritesGrouped defs script limit false old new)
  reports_unrun (Ok done) found old new answered p = tt
  reports_unrun (Err fault) found old new answered p = λ e. reported found false old new answered (p e)

  pub first_fault : {A : Type 0} (printed : Result A ProgramFault) → IfErr printed (λ fault. fault ≢ NoThread → IsInTheRun fault)
      → IfErr printed (λ fault. fault ≢ NoThread → IsFirstFault defs script fault)
  first_fault (Ok done) h = tt
  first_fault (Err fault) h = λ n. late_fault defs script run fault (h n)

not_before : (P : Type 0) (fault : ProgramFault) → (fault ≢ NoThread → IsInTheRun fault) → is_before_the_run fault ≡ true → P
not_before P (Defs refusal) h e = absurd (h (λ same. let no : ⊥ = cc in no))
not_before P (ScriptFault refusal) h e = absurd (h (λ same. let no : ⊥ = cc in no))
not_before P Stopped h e = let no : ⊥ = cc in absurd no
not_before P Output h e = let no : ⊥ = cc in absurd no
not_before P NoThread h e = let no : ⊥ = cc in absurd no

pub nothing_before : {A : Type 0} (P : Type 0) (printed : Result A ProgramFault) → IfErr printed (λ fault. fault ≢ NoThread → IsInTheRun fault)
    → IfErr printed (λ fault. is_before_the_run fault ≡ true → P)
nothing_before P (Ok done) h = tt
nothing_before P (Err fault) h = not_before P fault h

no_unrun : (P : Type 0) (fault : ProgramFault) → is_before_the_run fault ≡ true → fault ≡ NoThread → P
no_unrun P (Defs refusal) before e = let no : ⊥ = cc in absurd no
no_unrun P (ScriptFault refusal) before e = let no : ⊥ = cc in absurd no
no_unrun P Stopped before e = let no : ⊥ = cc in absurd no
no_unrun P Output before e = let no : ⊥ = cc in absurd no
no_unrun P NoThread before e = let no : ⊥ = cc in absurd no

-- a session without a thread is met in the run alone
pub not_unrun : {A : Type 0} (P : Type 0) (opened : Result A ProgramFault)
    → IfErr opened (λ fault. is_before_the_run fault ≡ true) → IfErr opened (λ fault. fault ≡ NoThread → P)
not_unrun P (Ok made) before = tt
not_unrun P (Err fault) before = no_unrun P fault before

-- the report of a run on a journal, of what was answered
pub reports_kept : {A : Type 0} (printed : Result A ProgramFault) (scripts : List Script) (found : List ScriptAnswers) (loaded : ViewState) (limit next : ℕ) (old new : Option (List ℕ))
    → AreAnswered scripts found → OnOk printed (PrintsGrouped scripts found loaded limit (Some next) true old new) → OnOk printed (WritesKept scripts loaded limit true old new)
reports_kept (Ok done) scripts found loaded limit next old new answered p = record { found = found; next = next; answered = answered; prints = p }
reports_kept (Err fault) scripts found loaded limit next old new answered p = tt

pub reports_kept_unrun : {A : Type 0} (printed : Result A ProgramFault) (scripts : List Script) (found : List ScriptAnswers) (loaded : ViewState) (limit next : ℕ)
    (old new : Option (List ℕ)) → AreAnswered scripts found
    → IfErr printed (λ fault. fault ≡ NoThread → PrintsGrouped scripts found loaded limit (Some next) false old new)
    → IfErr printed (λ fault. fault ≡ NoThread → WritesKept scripts loaded limit false old new)
reports_kept_unrun (Ok done) scripts found loaded limit next old new answered p = tt
reports_kept_unrun (Err fault) scripts found loaded limit next old new answered p =
    λ e. record { found = found; next = next; answered = answered; prints = p e }
