-- What is printed of a run from the beginning of a script is its report.
use Rattle.std.proofs.Common.{◌≡◌, ℕ, List, Option, Result, Ok, Err, refl, subst}
use Rattle.std.specs.Prelude.{OnOk, IfErr}
use Rattle.std.specs.Io.KnownBytes.{Appends}
use Rattle.syntax.specs.declared.statements.ScriptLine.{ScriptLine}
use Rattle.commit.specs.Events.{EngineState}
use Rattle.commit.specs.Cores.{IsSerializable}
use Rattle.commit.specs.Runs.{AreAnswers, InEachRun, beginning, led_to}
use Rattle.commit.specs.Told.{WereToldAlone}
use Rattle.replay.specs.declared.faults.ProgramFault.{ProgramFault}
use Rattle.replay.specs.Lines.{report}
use Rattle.replay.specs.Texts.{IsFirstFault, IsInTheRun, IsRun}
use Rattle.replay.proofs.Late.{late_faults}
use Rattle.replay.specs.Replay.{IsBeginning, WritesReport}
use Rattle.replay.specs.Writing.{PrintsRun}

module _ (defs script : List ℕ) (limit : ℕ) (engine : EngineState) (lines : List ScriptLine) (begun : IsBeginning defs script limit engine lines) where
  reported : InEachRun (λ loaded lines answers left. IsSerializable left.core) → InEachRun (λ loaded lines answers left. WereToldAlone left.core lines answers)
      → (old new : Option (List ℕ)) → PrintsRun engine lines old new → WritesReport defs script limit old new
  reported serializable told old new p =
      let answered : AreAnswers (beginning limit begun.shown lines) lines p.answers = subst (λ e. AreAnswers e lines p.answers) begun.is p.answered in record {
        bytes = report lines p.answers (led_to (beginning limit begun.shown lines) lines p.answers);
        is = record {
          shown = begun.shown;
          lines = lines;
          answers = p.answers;
          ready = begun.ready;
          answered = answered;
          serializable = serializable limit begun.shown lines lines p.answers begun.sound answered;
          told = told limit begun.shown lines lines p.answers begun.sound answered;
          prints = refl;
        };
        written = subst (λ e. Appends old new (report lines p.answers (led_to e lines p.answers))) begun.is p.written;
      }

  pub reports : InEachRun (λ loaded lines answers left. IsSerializable left.core) → InEachRun (λ loaded lines answers left. WereToldAlone left.core lines answers)
      → {A : Type 0} (printed : Result A ProgramFault) (old new : Option (List ℕ)) → OnOk printed (PrintsRun engine lines old new) → OnOk printed (WritesReport defs script limit old new)
  reports serializable told (Ok done) old new p = reported serializable told old new p
  reports serializable told (Err fault) old new p = tt

  run : IsRun defs script
  run = record { shown = begun.shown; lines = lines; ready = begun.ready }

  pub first_fault : {A : Type 0} (printed : Result A ProgramFault) → IfErr printed IsInTheRun → IfErr printed (IsFirstFault defs script)
  first_fault printed h = late_faults defs script run printed h
