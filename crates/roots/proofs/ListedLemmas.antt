-- Roots that stand under their values follow a change as the plain list of them does.
use Rattle.std.proofs.Common.{◌≡◌, Bool, true, false, List, [], ◌∷◌, ◌++◌, map, Option, Some, None, refl, sym, ◌∙◌, ap, option_map}
use Rattle.std.specs.Prelude.{is_some, option_to_list, if◌then◌else◌}
use Rattle.std.specs.declared.cmp.Ordering.{Ordering}
use Rattle.std.specs.declared.cmp.Ordering.TheVariants.{Less, Equal, Greater}
use Rattle.std.proofs.Math.Bool.{beq}
use Rattle.value.specs.declared.values.Value.{Value}
use Rattle.value.specs.declared.values.Root.{Root}
use Rattle.value.specs.declared.values.Root.TheVariants.{All, Of}
use Rattle.value.specs.ValueOrder.{value_cmp, root_cmp}
use Rattle.value.specs.Ordered.{by_order, at, put, HoldsOf}
use Rattle.value.proofs.ValueOrders.{value_exact}
use Rattle.pages.specs.Reach.{key_of, value_of, entry_of}
use Rattle.roots.specs.Bad.{put_root}
use Rattle.roots.specs.Listed.{roots_in, AreUnder, AreInPlace}

-- the root that comes to stand there
abbrev pub root_there : Value → Bool → Option Root
root_there v b = if b then Some (Of v) else None

-- what stands after the root of a value goes in or out
abbrev pub put_there : Value → Bool → List (Value × Root) → List (Value × Root)
put_there v b es = put value_cmp key_of v (entry_of v (root_there v b)) es

-- a root that is in already, or out already
pub same-in : (v : Value) (es : List (Value × Root)) → AreUnder es → is_some (at value_cmp key_of v es) ≡ true → put_there v true es ≡ es
same-in v [] a h = cc
same-in v (e ∷ es) a h =
    let case : (c : Ordering) → value_cmp v e.0 ≡ c → is_some (by_order c None (Some e) (at value_cmp key_of v es)) ≡ true → by_order c ((v, Of v) ∷ e ∷ es) ((v, Of v) ∷ es) (e ∷ put_there v true es) ≡ e ∷ es
    = λ c. elim c as (λ c. value_cmp v e.0 ≡ c → is_some (by_order c None (Some e) (at value_cmp key_of v es)) ≡ true → by_order c ((v, Of v) ∷ e ∷ es) ((v, Of v) ∷ es) (e ∷ put_there v true es) ≡ e ∷ es) [
      | Less ↦ λ q h. cc
      | Equal ↦ λ q h. ap (λ (w : Value). (w, Of w) ∷ es) (value_exact v e.0 q) ∙ ap (λ (r : Root). (e.0, r) ∷ es) (sym a.0)
      | Greater ↦ λ q h. ap (λ fs. e ∷ fs) (same-in v es a.1 h)
    ]
    in case (value_cmp v e.0) refl h

pub same-out : (v : Value) (es : List (Value × Root)) → is_some (at value_cmp key_of v es) ≡ false → put_there v false es ≡ es
same-out v [] h = refl
same-out v (e ∷ es) h =
    let case : (c : Ordering) → is_some (by_order c None (Some e) (at value_cmp key_of v es)) ≡ false → by_order c (e ∷ es) es (e ∷ put_there v false es) ≡ e ∷ es
    = λ c. elim c as (λ c. is_some (by_order c None (Some e) (at value_cmp key_of v es)) ≡ false → by_order c (e ∷ es) es (e ∷ put_there v false es) ≡ e ∷ es) [
      | Less ↦ λ h. refl
      | Equal ↦ λ h. cc
      | Greater ↦ λ h. ap (λ fs. e ∷ fs) (same-out v es h)
    ]
    in case (value_cmp v e.0) h

pub same-there : (v : Value) (b : Bool) (es : List (Value × Root)) → AreUnder es → is_some (at value_cmp key_of v es) ≡ b → es ≡ put_there v b es
same-there v true es a h = sym (same-in v es a h)
same-there v false es a h = sym (same-out v es h)

-- two tests that agree, and what a test finds of an option
pub agreed : (a b : Bool) → beq a b ≡ true → a ≡ b
agreed true true h = refl
agreed true false h = cc
agreed false true h = cc
agreed false false h = refl

pub some-mapped : {X Y : Type 0} (f : X → Y) (o : Option X) → is_some (option_map f o) ≡ is_some o
some-mapped f None = refl
some-mapped f (Some x) = refl

pub same-found : (v : Value) (b : Bool) (es : List (Value × Root)) → AreUnder es → is_some (option_map value_of (at value_cmp key_of v es)) ≡ b → es ≡ put_there v b es
same-found v b es a h = same-there v b es a (sym (some-mapped value_of (at value_cmp key_of v es)) ∙ h)

-- each root stays under its value
under-front : (v : Value) (b : Bool) (es : List (Value × Root)) → AreUnder es → AreUnder (option_to_list (entry_of v (root_there v b)) ++ es)
under-front v true es a = (refl, a)
under-front v false es a = a

pub under-put : (v : Value) (b : Bool) (es : List (Value × Root)) → AreUnder es → AreUnder (put_there v b es)
under-put v true [] a = (refl, tt)
under-put v false [] a = tt
under-put v b (e ∷ es) a = elim (value_cmp v e.0) as (λ c. AreUnder (by_order c (option_to_list (entry_of v (root_there v b)) ++ e ∷ es) (option_to_list (entry_of v (root_there v b)) ++ es) (e ∷ put_there v b es))) [
  | Less ↦ under-front v b (e ∷ es) a
  | Equal ↦ under-front v b es a.1
  | Greater ↦ (a.0, under-put v b es a.1)
]

-- the roots of what stands after a change
roots-front : (v : Value) (b : Bool) (es : List (Value × Root)) → map value_of (option_to_list (entry_of v (root_there v b)) ++ es) ≡ option_to_list (root_there v b) ++ map value_of es
roots-front v true es = refl
roots-front v false es = refl

roots-put : (v : Value) (b : Bool) (es : List (Value × Root)) → AreUnder es → map value_of (put_there v b es) ≡ put_root (Of v) b (map value_of es)
roots-put v true [] a = refl
roots-put v false [] a = refl
roots-put v b (e ∷ es) a =
    let old : List (Value × Root) = option_to_list (entry_of v (root_there v b)) in
    let new : List Root = option_to_list (root_there v b) in
    let rest : List Root = put_root (Of v) b (map value_of es) in
    let case : (c : Ordering) → map value_of (by_order c (old ++ e ∷ es) (old ++ es) (e ∷ put_there v b es)) ≡ by_order c (new ++ e.1 ∷ map value_of es) (new ++ map value_of es) (e.1 ∷ rest)
    = λ c. elim c as (λ c. map value_of (by_order c (old ++ e ∷ es) (old ++ es) (e ∷ put_there v b es)) ≡ by_order c (new ++ e.1 ∷ map value_of es) (new ++ map value_of es) (e.1 ∷ rest)) [
      | Less ↦ roots-front v b (e ∷ es)
      | Equal ↦ roots-front v b es
      | Greater ↦ ap (λ rs. e.1 ∷ rs) (roots-put v b es a.1)
    ]
    in case (value_cmp v e.0) ∙ ap (λ (r : Root). by_order (root_cmp (Of v) r) (new ++ e.1 ∷ map value_of es) (new ++ map value_of es) (e.1 ∷ rest)) (sym a.0)

-- the root of a value goes in or out
pub value-put : (whole : Option Root) (v : Value) (b : Bool) (es : List (Value × Root)) → AreInPlace whole es → roots_in whole (put_there v b es) ≡ put_root (Of v) b (roots_in whole es)
value-put None v b es a = roots-put v b es a.under
value-put (Some r) v b es a = rw a.by_itself (ap (λ rs. All ∷ rs) (roots-put v b es a.under))

-- the whole goes in or out
abbrev pub the_whole : Bool → Option Root
the_whole b = if b then Some All else None

alone : (b : Bool) → roots_in (the_whole b) [] ≡ put_root All b []
alone true = refl
alone false = refl

pub whole-put : (whole : Option Root) (b : Bool) (es : List (Value × Root)) → AreInPlace whole es → roots_in (the_whole b) es ≡ put_root All b (roots_in whole es)
whole-put None b [] a = alone b
whole-put None b (e ∷ es) a = rw a.under.0 refl
whole-put (Some r) b es a = rw a.by_itself refl

pub whole-there : (b : Bool) → HoldsOf (λ root. root ≡ All) (the_whole b)
whole-there true = refl
whole-there false = tt
