-- Reading fields of a kind one after the other, as a loop does.
use Rattle.std.proofs.Common.{◌≡◌, ℕ, suc, ◌-◌, ◌+◌, ◌≤◌, ◌<◌, List, [], ◌∷◌, ◌++◌, Option, Some, None, refl, sym, ap, ◌∙◌, append_assoc, arith}
use Rattle.std.proofs.lemmas.List.{append-nil}
use Rattle.messages.specs.declared.faults.FieldFault.{FieldFault}
use Rattle.messages.specs.declared.faults.FieldFault.TheVariants.{NoMemory, Malformed}
use Rattle.messages.specs.Reading.{◌>>=◌, Fails, many_in}

-- what was read before, and what is still read
abbrev pub with_front : {A : Type 0} → List A → Option (List A × List ℕ) → Option (List A × List ℕ)
with_front front read = read >>= λ x. Some (front ++ x.0, x.1)

regroup : {A : Type 0} (front : List A) (v : A) (read : Option (List A × List ℕ)) → with_front front (read >>= λ x. Some (v ∷ x.0, x.1)) ≡ with_front (front ++ v ∷ []) read
regroup {A} front v (Some x) = ap (λ (vs : List A). Some (vs, x.1)) (simp append_assoc)
regroup front v None = refl

pub goes_on : {A : Type 0} (field_at : List ℕ → Option (A × List ℕ)) (front : List A) (count i : ℕ) (bytes : List ℕ) (v : A) (after : List ℕ) (total : Option (List A × List ℕ)) → i < count → field_at bytes ≡ Some (v, after)
    → with_front front (many_in field_at (count - i) bytes) ≡ total → with_front (front ++ v ∷ []) (many_in field_at (count - (i + 1)) after) ≡ total
unfolding many_in
goes_on field_at front count i bytes v after total lt h so_far =
    let k : count - i ≡ suc (count - (i + 1)) = omega arith in
    let one : with_front front (many_in field_at (count - i) bytes) ≡ with_front (front ++ v ∷ []) (many_in field_at (count - (i + 1)) after) = rw (k, h) (regroup front v (many_in field_at (count - (i + 1)) after)) in
    sym one ∙ so_far

pub ends : {A : Type 0} (field_at : List ℕ → Option (A × List ℕ)) (fault : FieldFault) (front : List A) (count i : ℕ) (bytes : List ℕ) (total : Option (List A × List ℕ)) → i < count → Fails fault (field_at bytes)
    → with_front front (many_in field_at (count - i) bytes) ≡ total → Fails fault total
unfolding many_in
ends field_at NoMemory front count i bytes total lt h so_far = tt
ends field_at Malformed front count i bytes total lt h so_far =
    let k : count - i ≡ suc (count - (i + 1)) = omega arith in
    let one : with_front front (many_in field_at (count - i) bytes) ≡ None = rw (k, h) refl in
    sym so_far ∙ one

pub is_done : {A : Type 0} (field_at : List ℕ → Option (A × List ℕ)) (front : List A) (count i : ℕ) (bytes : List ℕ) (total : Option (List A × List ℕ)) → count ≤ i → with_front front (many_in field_at (count - i) bytes) ≡ total → total ≡ Some (front, bytes)
unfolding many_in
is_done {A} field_at front count i bytes total le so_far =
    let k : count - i ≡ 0 = omega arith in
    let one : with_front front (many_in field_at (count - i) bytes) ≡ Some (front, bytes) = rw k (ap (λ (vs : List A). Some (vs, bytes)) (append-nil front)) in
    sym so_far ∙ one
