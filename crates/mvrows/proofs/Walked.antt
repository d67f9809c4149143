-- A walk through a list, by what is left of it.
use Rattle.std.proofs.Common.{◌≡◌, ℕ, ◌+◌, ◌-◌, ◌<◌, ◌≤◌, List, [], ◌∷◌, drop, length, get_or, sym, ◌∙◌, ap, arith}
use Rattle.std.proofs.lemmas.List.{drop_more}

abbrev pub first_or : {X : Type 0} → X → List X → X
first_or d [] = d
first_or d (x ∷ xs) = x

-- the item at hand stands behind those that are done, and what is left begins one place further
pub record IsTurn {X : Type 0} (all left rest : List X) (x : X) : Type 0 where
  pub within : length all - length left < length all
  pub is : x ≡ get_or all (length all - length left) x
  pub next : length all - length rest ≡ length all - length left + 1
  pub short : length rest ≤ length all
  pub rest_is : rest ≡ drop (length all - length rest) all

pub turn : {X : Type 0} (all left rest : List X) (x : X) → left ≡ x ∷ rest → length left ≤ length all → left ≡ drop (length all - length left) all → IsTurn all left rest x
turn all left rest x e h l =
    let n : ℕ = length all - length left in
    let long : length left ≡ length rest + 1 = ap length e ∙ omega arith in
    let within : n < length all = omega (arith, long, h) in
    let next : length all - length rest ≡ n + 1 = omega (arith, long, h) in
    let split : x ∷ rest ≡ get_or all n x ∷ drop (n + 1) all = sym e ∙ l ∙ drop_more all n x within in
    record {
      within = within;
      is = ap (first_or x) split;
      next = next;
      short = omega (arith, long, h);
      rest_is = ap (drop 1) split ∙ ap (λ (i : ℕ). drop i all) (sym next);
    }
