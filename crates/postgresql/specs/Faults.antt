-- What is known of the writer after a fault.
use Rattle.std.specs.Prelude.{Bool, true, false}
use Rattle.postgresql.specs.declared.faults.PrintFault.{PrintFault}
use Rattle.postgresql.specs.declared.faults.PrintFault.TheVariants.{LongName, NoMemory, Output}

-- whether the fault was found before anything was written
abbrev pub is_before_writing : PrintFault → Bool
is_before_writing (LongName name) = true
is_before_writing NoMemory = false
is_before_writing Output = false
