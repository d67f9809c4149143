-- Faults that come once something was written.
use Rattle.std.proofs.Common.{◌≡◌, true, false, Result, Ok, Err}
use Rattle.std.specs.Prelude.{IfErr}
use Rattle.sqlite_text.specs.declared.faults.PrintFault.{PrintFault}
use Rattle.sqlite_text.specs.declared.faults.PrintFault.TheVariants.{ManyColumns, NoMemory, Output, ReservedName}
use Rattle.sqlite_text.specs.Faults.{is_before_writing}

not_before : (P : Type 0) (fault : PrintFault) → is_before_writing fault ≡ false → is_before_writing fault ≡ true → P
not_before P (ReservedName name) h e = let no : ⊥ = cc in absurd no
not_before P (ManyColumns name) h e = let no : ⊥ = cc in absurd no
not_before P NoMemory h e = let no : ⊥ = cc in absurd no
not_before P Output h e = let no : ⊥ = cc in absurd no

pub nothing_before : {A : Type 0} (P : Type 0) (printed : Result A PrintFault)
    → IfErr printed (λ fault. is_before_writing fault ≡ false)
    → IfErr printed (λ fault. is_before_writing fault ≡ true → P)
nothing_before P (Ok done) h = tt
nothing_before P (Err fault) h = not_before P fault h
