-- Why a journal is not opened.
use Rattle.std.proofs.Common.{◌≡◌, ◌≢◌, ℕ, List, Option, Some, None, Err, length, sym, subst, inl, inr, ◌⊎◌}
use Rattle.value.specs.declared.refusals.Refusal.{Refusal}
use Rattle.value.specs.declared.refusals.Refusal.TheVariants as refusal
use Rattle.assertion.specs.Declarations.{layouts_in}
use Rattle.delta.specs.Views.{ViewState}
use Rattle.commit.specs.Admission.{tables_if_satisfied}
use Rattle.journal.specs.declared.entries.Entry.{Entry}
use Rattle.journal.specs.declared.device.DeviceFault.{DeviceFault}
use Rattle.journal.specs.declared.device.DeviceFault.TheVariants as device
use Rattle.journal.specs.declared.faults.JournalFault.{JournalFault}
use Rattle.journal.specs.declared.faults.JournalFault.TheVariants as journal
use Rattle.durable.specs.declared.faults.OpenFault.{OpenFault}
use Rattle.durable.specs.declared.faults.OpenFault.TheVariants as fault
use Rattle.durable.specs.declared.faults.RestoreFault.{RestoreFault}
use Rattle.durable.specs.declared.faults.RestoreFault.TheVariants as restore
use Rattle.durable.specs.Faults.{IsOfDevice, IsOfRefusal, of_device, of_journal, of_restoring}
use Rattle.durable.specs.Opening.{HasNoNext, IsDamage, IsNotTaken, IsRestored, IsUnopened, IsUnrestored, blank_of}
use Rattle.durable.specs.Restoring.{restored}

pub by_recovery : (declared : ViewState) (first : ℕ) (o : Option (List Entry)) (f : JournalFault) → (f ≢ journal.NoMemory → o ≡ None)
    → IsUnopened declared first o (of_journal f)
by_recovery declared first None journal.NoMemory none = tt
by_recovery declared first (Some entries) journal.NoMemory none = tt
by_recovery declared first None (journal.Damaged number at) none = tt
by_recovery declared first (Some entries) (journal.Damaged number at) none =
    let no : Some entries ≡ None = none (λ e. cc) in let never : ⊥ = cc in absurd never

pub by_restoring : (declared blank : ViewState) (entries : List Entry) (f : RestoreFault) → blank ≡ blank_of declared
    → (f ≢ restore.NoMemory → restored (layouts_in blank.declared) entries blank.state ≡ None) → IsUnrestored declared entries (of_restoring f)
by_restoring declared blank entries restore.NoMemory is none = tt
by_restoring declared blank entries (restore.NotDue number) is none =
    subst (λ (v : ViewState). restored (layouts_in v.declared) entries v.state ≡ None) is (none (λ e. cc))

pub by_assertions : (declared view : ViewState) (entries : List Entry) (why : Refusal) (f : OpenFault) → IsRestored declared entries view
    → IsOfRefusal why f → (why ≢ refusal.NoMemory → tables_if_satisfied view ≡ Err why) → IsUnrestored declared entries f
by_assertions declared view entries why f restored_is (inl none) refused = subst (IsUnrestored declared entries) (sym none) tt
by_assertions declared view entries why f restored_is (inr is) refused =
    subst (IsUnrestored declared entries) (sym is.1) (record { view = view; restored_is = restored_is; refused = refused is.0 })

-- ---- behind what a file says

taken : (declared : ViewState) (first : ℕ) (entries : List Entry) (f : OpenFault) → IsUnrestored declared entries f → IsNotTaken declared first entries f
taken declared first entries fault.NoMemory why = tt
taken declared first entries (fault.Damaged number at) why = absurd why
taken declared first entries (fault.NotDue number) why = why
taken declared first entries (fault.False r) why = why
taken declared first entries fault.Disk why = tt

pub by_tables : (declared : ViewState) (first : ℕ) (o : Option (List Entry)) (entries : List Entry) (f : OpenFault) → o ≡ Some entries
    → IsUnrestored declared entries f → IsUnopened declared first o f
by_tables declared first o entries f said why =
    subst (λ (p : Option (List Entry)). IsUnopened declared first p f) (sym said) (taken declared first entries f why)

numbered : (declared : ViewState) (first : ℕ) (entries : List Entry) (f : OpenFault) → IsDamage f → HasNoNext first (length entries) → IsNotTaken declared first entries f
numbered declared first entries fault.NoMemory damage none = tt
numbered declared first entries (fault.Damaged number at) damage none = none
numbered declared first entries (fault.NotDue number) damage none = absurd damage
numbered declared first entries (fault.False r) damage none = absurd damage
numbered declared first entries fault.Disk damage none = absurd damage

pub by_number : (declared : ViewState) (first : ℕ) (o : Option (List Entry)) (entries : List Entry) (f : OpenFault) → o ≡ Some entries
    → IsDamage f → HasNoNext first (length entries) → IsUnopened declared first o f
by_number declared first o entries f said damage none =
    subst (λ (p : Option (List Entry)). IsUnopened declared first p f) (sym said) (numbered declared first entries f damage none)

unwritten : (declared : ViewState) (first : ℕ) (entries : List Entry) (f : OpenFault) → IsOfDevice f → IsNotTaken declared first entries f
unwritten declared first entries fault.NoMemory device = tt
unwritten declared first entries fault.Disk device = tt
unwritten declared first entries (fault.Damaged number at) device = absurd device
unwritten declared first entries (fault.NotDue number) device = absurd device
unwritten declared first entries (fault.False r) device = absurd device

pub by_device : (declared : ViewState) (first : ℕ) (o : Option (List Entry)) (entries : List Entry) (f : OpenFault) → o ≡ Some entries
    → IsOfDevice f → IsUnopened declared first o f
by_device declared first o entries f said device =
    subst (λ (p : Option (List Entry)). IsUnopened declared first p f) (sym said) (unwritten declared first entries f device)

pub of_device_is : (f : DeviceFault) → IsOfDevice (of_device f)
of_device_is device.NoMemory = tt
of_device_is device.Failed = tt

pub by_memory : (declared : ViewState) (first : ℕ) (o : Option (List Entry)) → IsUnopened declared first o fault.NoMemory
by_memory declared first None = tt
by_memory declared first (Some entries) = tt
