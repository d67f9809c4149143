-- The order of values is total, and tells all values apart.
use Rattle.std.proofs.Common.{◌≡◌, ◌↔◌, refl, sym, ◌∙◌, ap}
use Rattle.std.proofs.lemmas.Cmp.{tied_itself}
use Rattle.std.specs.Ordering.{ordering_reverse}
use Rattle.std.specs.Cmp.{IsTotalOrder}
use Rattle.std.specs.declared.cmp.Ordering.{Ordering}
use Rattle.std.specs.declared.cmp.Ordering.TheVariants.{Equal}
use Rattle.std.proofs.lemmas.Map.Lookups.{CmpEqualImpliesEq, exact_signed, exact_bytes}
use Rattle.value.specs.ValueOrder.{value_cmp, root_cmp}
use Rattle.value.specs.declared.values.Value.{Value}
use Rattle.value.specs.declared.values.Value.TheVariants.{Null, Int, Text}
use Rattle.value.specs.declared.values.Root.{Root}
use Rattle.value.specs.declared.values.Root.TheVariants.{All, Of}
use Rattle.value.specs.contracts.values.ValueOrd.TheImpl.{cmp-value}
use Rattle.value.specs.contracts.values.ValueOrd.TheImpl.Laws.{total-law}
use Rattle.value.specs.contracts.values.RootOrd.TheImpl.{cmp-value as root_cmp-value}
use Rattle.value.specs.contracts.values.RootOrd.TheImpl.Laws.{total-law as root_total-law}

-- an order that answers as a total order does is total
pub total_along : {K : Type 0} (R S : K → K → Ordering) → ((x y : K) → R x y ≡ S x y) → IsTotalOrder R → IsTotalOrder S
total_along R S e t = record {
  antisymm = λ x y. sym (e x y) ∙ t.antisymm x y ∙ ap ordering_reverse (e y x);
  trans = λ x y z p q. sym (e x z) ∙ t.trans x y z (e x y ∙ p) (e y z ∙ q);
  congr = λ x y z p. sym (e x z) ∙ t.congr x y z (e x y ∙ p) ∙ e y z;
}

pub derived-value_cmp : (x y : Value) → cmp-value.it x y ≡ value_cmp x y
derived-value_cmp Null Null = refl
derived-value_cmp Null (Int n) = refl
derived-value_cmp Null (Text t) = refl
derived-value_cmp (Int m) Null = refl
derived-value_cmp (Int m) (Int n) = refl
derived-value_cmp (Int m) (Text t) = refl
derived-value_cmp (Text s) Null = refl
derived-value_cmp (Text s) (Int n) = refl
derived-value_cmp (Text s) (Text t) = refl

pub value_cmp_total : IsTotalOrder value_cmp
value_cmp_total = total_along cmp-value.it value_cmp derived-value_cmp total-law

pub derived-root_cmp : (x y : Root) → root_cmp-value.it x y ≡ root_cmp x y
derived-root_cmp All All = refl
derived-root_cmp All (Of w) = refl
derived-root_cmp (Of v) All = refl
derived-root_cmp (Of v) (Of w) = derived-value_cmp v w

pub root_cmp_total : IsTotalOrder root_cmp
root_cmp_total = total_along root_cmp-value.it root_cmp derived-root_cmp root_total-law

-- values that compare alike are one
pub value_exact : CmpEqualImpliesEq value_cmp
value_exact Null Null e = refl
value_exact Null (Int n) e = cc
value_exact Null (Text t) e = cc
value_exact (Int m) Null e = cc
value_exact (Int m) (Int n) e = ap Int (exact_signed m n e)
value_exact (Int m) (Text t) e = cc
value_exact (Text s) Null e = cc
value_exact (Text s) (Int n) e = cc
value_exact (Text s) (Text t) e = ap Text (exact_bytes s t e)

pub root_exact : CmpEqualImpliesEq root_cmp
root_exact All All e = refl
root_exact All (Of w) e = cc
root_exact (Of v) All e = cc
root_exact (Of v) (Of w) e = ap Of (value_exact v w e)

-- values compare alike exactly where they are one, and so do roots
pub value_cmp-equal : (v w : Value) → (value_cmp v w ≡ Equal) ↔ (v ≡ w)
value_cmp-equal v w = (value_exact v w, λ e. ap (value_cmp v) (sym e) ∙ tied_itself value_cmp_total v)

pub root_cmp-equal : (q r : Root) → (root_cmp q r ≡ Equal) ↔ (q ≡ r)
root_cmp-equal q r = (root_exact q r, λ e. ap (root_cmp q) (sym e) ∙ tied_itself root_cmp_total q)
