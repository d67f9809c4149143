-- What is known of the writer after a fault.
use Rattle.std.specs.Prelude.{Bool, true, false}
use Rattle.sqlite_text.specs.declared.faults.PrintFault.{PrintFault}
use Rattle.sqlite_text.specs.declared.faults.PrintFault.TheVariants.{ManyColumns, NoMemory, Output, ReservedName}

-- whether the fault was found before anything was written
abbrev pub is_before_writing : PrintFault → Bool
is_before_writing (ReservedName name) = true
is_before_writing (ManyColumns name) = true
is_before_writing NoMemory = false
is_before_writing Output = false
