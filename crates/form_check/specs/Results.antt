-- Steps that end where a shape is outside the class.
use Rattle.std.specs.Prelude.{Bool, true, false, Option, Some, None, Result, Err}
use Rattle.value.specs.declared.refusals.Refusal.{Refusal}
use Rattle.value.specs.declared.refusals.Refusal.TheVariants.{OutsideClass}

-- goes on with what is there; where nothing is, the shape is outside the class
abbrev pub in_class : {A B : Type 0} → Option A → (A → Result B Refusal) → Result B Refusal
in_class None next = Err OutsideClass
in_class (Some a) next = next a

-- goes on where it holds; else the shape is outside the class
abbrev pub only_if : {A : Type 0} → Bool → Result A Refusal → Result A Refusal
only_if true next = next
only_if false next = Err OutsideClass
