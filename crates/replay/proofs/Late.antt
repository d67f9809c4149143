-- Faults of a run that was begun.
use Rattle.std.proofs.Common.{◌≡◌, ℕ, true, List, Result, Ok, Err}
use Rattle.std.specs.Prelude.{◌≢◌, IfErr}
use Rattle.replay.specs.declared.faults.ProgramFault.{ProgramFault}
use Rattle.replay.specs.declared.faults.ProgramFault.TheVariants.{Defs, Script, Stopped, Output, NoThread}
use Rattle.replay.specs.Texts.{IsFirstFault, IsInTheRun, IsRun, is_before_the_run}

-- memory or the writer ends it
pub late_fault : (defs script : List ℕ) → IsRun defs script → (fault : ProgramFault) → IsInTheRun fault → IsFirstFault defs script fault
late_fault defs script run (Defs refusal) h = absurd h
late_fault defs script run (Script refusal) h = absurd h
late_fault defs script run Stopped h = run
late_fault defs script run Output h = run
late_fault defs script run NoThread h = absurd h

pub late_faults : {A : Type 0} (defs script : List ℕ) → IsRun defs script → (printed : Result A ProgramFault)
    → IfErr printed IsInTheRun → IfErr printed (IsFirstFault defs script)
late_faults defs script run (Ok done) h = tt
late_faults defs script run (Err fault) h = late_fault defs script run fault h

not_before : (P : Type 0) (fault : ProgramFault) → IsInTheRun fault → is_before_the_run fault ≡ true → P
not_before P (Defs refusal) h e = absurd h
not_before P (Script refusal) h e = absurd h
not_before P Stopped h e = let no : ⊥ = cc in absurd no
not_before P Output h e = let no : ⊥ = cc in absurd no
not_before P NoThread h e = absurd h

-- and then it was begun
pub nothing_before : {A : Type 0} (P : Type 0) (printed : Result A ProgramFault) → IfErr printed IsInTheRun → IfErr printed (λ fault. is_before_the_run fault ≡ true → P)
nothing_before P (Ok done) h = tt
nothing_before P (Err fault) h = not_before P fault h

-- a run that has begun is not ended by memory
begun_runs : (fault : ProgramFault) → is_before_the_run fault ≡ true → fault ≢ Stopped
begun_runs (Defs refusal) h e = cc
begun_runs (Script refusal) h e = cc
begun_runs Stopped h e = cc
begun_runs Output h e = cc
begun_runs NoThread h e = cc

pub runs_on : (fault : ProgramFault) → is_before_the_run fault ≡ true → fault ≢ Stopped
runs_on fault h = begun_runs fault h
