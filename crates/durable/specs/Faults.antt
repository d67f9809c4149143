-- What a fault below is where a journal is opened.
use Rattle.std.specs.Prelude.{◌≡◌, ◌≢◌, ◌⊎◌, ⊤}
use Rattle.value.specs.declared.refusals.Refusal.{Refusal}
use Rattle.value.specs.declared.refusals.Refusal.TheVariants as refusal
use Rattle.journal.specs.declared.device.DeviceFault.{DeviceFault}
use Rattle.journal.specs.declared.device.DeviceFault.TheVariants as device
use Rattle.journal.specs.declared.faults.JournalFault.{JournalFault}
use Rattle.journal.specs.declared.faults.JournalFault.TheVariants as journal
use Rattle.durable.specs.declared.faults.OpenFault.{OpenFault}
use Rattle.durable.specs.declared.faults.OpenFault.TheVariants as fault
use Rattle.durable.specs.declared.faults.RestoreFault.{RestoreFault}
use Rattle.durable.specs.declared.faults.RestoreFault.TheVariants as restore

abbrev pub of_journal : JournalFault → OpenFault
of_journal journal.NoMemory = fault.NoMemory
of_journal (journal.Damaged number at) = fault.Damaged number at

abbrev pub of_restoring : RestoreFault → OpenFault
of_restoring restore.NoMemory = fault.NoMemory
of_restoring (restore.NotDue number) = fault.NotDue number

abbrev pub of_device : DeviceFault → OpenFault
of_device device.NoMemory = fault.NoMemory
of_device device.Failed = fault.Disk

-- a refusal is that an assertion is false, unless there was no memory
abbrev pub IsOfRefusal : Refusal → OpenFault → Type 0
IsOfRefusal why is = (is ≡ fault.NoMemory) ⊎ ((why ≢ refusal.NoMemory) × (is ≡ fault.False why))

-- the disk failed, or there was no memory
abbrev pub IsOfDevice : OpenFault → Type 0
IsOfDevice fault.NoMemory = ⊤
IsOfDevice fault.Disk = ⊤
IsOfDevice other = ⊥
