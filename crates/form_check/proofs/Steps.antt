-- What a step that went on says of those before it.
use Rattle.std.proofs.Common.{◌≡◌, Result, Ok, Err, [], ◌∷◌, Option, Some, None, refl, ap}
use Rattle.value.specs.declared.refusals.Refusal.{Refusal}
pub use Rattle.value.proofs.Results.{ok_same, and_then_ok}
use Rattle.form_check.specs.Results.{in_class, only_if}
use Rattle.form_check.specs.Leaves.{Leaves, then_made}
use Rattle.form_check.specs.Queries.{alone}
use Rattle.std.specs.Prelude.{Bool, true, false, option_map}
use Rattle.std.proofs.lemmas.Option.{same_Some}

-- both parts of a pair
pub ok_pair : {A B : Type 0} (a c : A) (b d : B) → ◌≡◌ {A = Result (A × B) Refusal} (Ok (a, b)) (Ok (c, d)) → (a ≡ c) × (b ≡ d)
ok_pair {A = A} {B = B} a c b d e =
    let first : A × B → A = λ p. p.0 in
    let second : A × B → B = λ p. p.1 in
    let x : A × B = (a, b) in
    let y : A × B = (c, d) in
    let same : x ≡ y = ok_same x y e in
    (ap first same, ap second same)

pub in_class_ok : {A B : Type 0} (o : Option A) (next : A → Result B Refusal) (b : B) → in_class o next ≡ Ok b → (a : A) × ((o ≡ Some a) × (next a ≡ Ok b))
in_class_ok (Some a) next b e = (a, (refl, e))
in_class_ok None next b e = cc

pub only_if_ok : {A : Type 0} (c : Bool) (r : Result A Refusal) (a : A) → only_if c r ≡ Ok a → (c ≡ true) × (r ≡ Ok a)
only_if_ok true r a e = (refl, e)
only_if_ok false r a e = cc

pub then_ok : {A B : Type 0} (make : A → B) (r : Result (A × Leaves) Refusal) (made : B) (after : Leaves) → then_made make r ≡ Ok (made, after) → (a : A) × ((r ≡ Ok (a, after)) × (make a ≡ made))
then_ok {A = A} make (Ok m) made after e =
    let same = ok_pair (make m.0) made m.1 after e in
    (m.0, (ap (λ (l : Leaves). let r : Result (A × Leaves) Refusal = Ok (m.0, l) in r) same.1, same.0))
then_ok make (Err refusal) made after e = cc

-- what an Option was mapped of
pub mapped_some : {A B : Type 0} (f : A → B) (o : Option A) (b : B) → option_map f o ≡ Some b → (a : A) × ((o ≡ Some a) × (f a ≡ b))
mapped_some f None b e = cc
mapped_some f (Some a) b e = (a, (refl, same_Some (f a) b e))

-- nothing stood there but the row's columns
pub alone_ok : {A : Type 0} (made : A) (leaves : Leaves) (a : A) → alone made leaves ≡ Ok a → (made ≡ a) × (leaves ≡ [])
alone_ok {A = A} made [] a e = (ap (λ (r : Result A Refusal). elim r [ Ok x ↦ x | Err f ↦ made ]) e, refl)
alone_ok made (leaf ∷ rest) a e = cc
