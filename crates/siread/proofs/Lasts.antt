-- Of a key's readers, which ascend, the last that reaches so far is the greatest that does.
use Rattle.std.proofs.Common.{◌≡◌, ℕ, ◌<◌, ◌≤◌, Bool, true, false, cond, ltb, leb, List, [], ◌∷◌, ◌++◌, inl, inr, ◌⊎◌, refl, sym, subst, arith, ltb-true}
use Rattle.std.specs.Prelude.{Contains, ⊤}
use mathlib.Core.List.{reverse, reverse-cons}
use Rattle.std.proofs.lemmas.Bool.{leb-true, leb-false}
use Rattle.std.proofs.lemmas.List.Elements.{All-contains, All-from_recursion, Contains-append_left, Contains-append_right}
use Rattle.siread.specs.Readers.{IsAscending, ReachNoFurther, first_reaching, last_reaching, reach_of}
use Rattle.siread.proofs.Members.{in_head, in_tail, in_cases, not_in_nil}

-- the members of a list with one more at its end, and of one turned round
in_end : (xs : List ℕ) (x y : ℕ) → Contains (xs ++ x ∷ []) y → Contains xs y ⊎ (x ≡ y)
in_end [] x y m = elim (in_cases x [] y m) [ inl same ↦ inr same | inr there ↦ inl there ]
in_end (z ∷ xs) x y m = elim (in_cases z (xs ++ x ∷ []) y m) [
  | inl same ↦ inl (subst (Contains (z ∷ xs)) same (in_head z xs))
  | inr later ↦ elim (in_end xs x y later) [ inl there ↦ inl (in_tail z xs y there) | inr last ↦ inr last ]
]

in_turned : (xs : List ℕ) (y : ℕ) → Contains xs y → Contains (reverse xs) y
in_turned [] y m = m
in_turned (x ∷ xs) y m = subst (λ o. Contains o y) (sym (reverse-cons x xs)) (elim (in_cases x xs y m) [
  | inl same ↦ Contains-append_right (reverse xs) (x ∷ []) y (subst (Contains (x ∷ [])) same (in_head x []))
  | inr there ↦ Contains-append_left (reverse xs) (x ∷ []) y (in_turned xs y there)
])

from_turned : (xs : List ℕ) (y : ℕ) → Contains (reverse xs) y → Contains xs y
from_turned [] y m = m
from_turned (x ∷ xs) y m = elim (in_end (reverse xs) x y (subst (λ o. Contains o y) (reverse-cons x xs) m)) [
  | inl there ↦ in_tail x xs y (from_turned xs y there)
  | inr same ↦ subst (Contains (x ∷ xs)) same (in_head x xs)
]

-- each is not below those after it
abbrev IsDescending : List ℕ → Type 0
IsDescending [] = ⊤
IsDescending (x ∷ xs) = ((y : ℕ) → Contains xs y → y ≤ x) × IsDescending xs

descends_more : (xs : List ℕ) (x : ℕ) → IsDescending xs → ((y : ℕ) → Contains xs y → x ≤ y)
    → IsDescending (xs ++ x ∷ [])
descends_more [] x d l = (λ y m. absurd (not_in_nil y m), tt)
descends_more (z ∷ xs) x d l = (
  λ y m. elim (in_end xs x y m) [
    | inl there ↦ d.0 y there
    | inr last ↦ (let k = l z (in_head z xs) in omega (arith, last, k))
  ],
  descends_more xs x d.1 (λ y m. l y (in_tail z xs y m)),
)

descends : (xs : List ℕ) → IsAscending xs → IsDescending (reverse xs)
descends [] a = tt
descends (x ∷ xs) a =
    subst IsDescending (sym (reverse-cons x xs))
    (descends_more (reverse xs) x (descends xs a.1) (λ y m.
    let all = All-from_recursion (λ other. x < other) xs a.0 in
    let l = All-contains (λ other. x < other) xs y all (from_turned xs y m) in
    omega (arith, l)))

module _ (least : ℕ) (reaches : List ℕ) where
  abbrev first : List ℕ → ℕ
  first xs = first_reaching least reaches xs

  -- it is one of them that reaches so far
  abbrev IsOneOf : List ℕ → ℕ → Type 0
  IsOneOf xs n = (n ≡ 0) ⊎ (Contains xs n × (least ≤ reach_of reaches n))

  first_there : (xs : List ℕ) → IsOneOf xs (first xs)
  first_there [] = inl refl
  first_there (x ∷ xs) = go (ltb x least) (leb least (reach_of reaches x)) refl (first_there xs)
    where
      go : (b c : Bool) → leb least (reach_of reaches x) ≡ c → IsOneOf xs (first xs)
          → IsOneOf (x ∷ xs) (cond b 0 (cond c x (first xs)))
      go true c e later = inl refl
      go false true e later = inr (in_head x xs, leb-true _ _ e)
      go false false e later = elim later [
        | inl none ↦ inl none
        | inr there ↦ inr (in_tail x xs (first xs) there.0, there.1)
      ]

  pub last_there : (readers : List ℕ) → IsOneOf readers (last_reaching least reaches readers)
  last_there readers = elim (first_there (reverse readers)) [
    | inl none ↦ inl none
    | inr there ↦ inr (from_turned readers _ there.0, there.1)
  ]

  first_is_greatest : ReachNoFurther reaches → (xs : List ℕ) → IsDescending xs → (reader : ℕ)
      → Contains xs reader → least ≤ reach_of reaches reader → reader ≤ first xs
  first_is_greatest no_further [] d reader m l = absurd (not_in_nil reader m)
  first_is_greatest no_further (x ∷ xs) d reader m l =
      go (ltb x least) (leb least (reach_of reaches x)) refl refl (in_cases x xs reader m)
      (λ there. first_is_greatest no_further xs d.1 reader there l)
    where
      up_to : (x ≡ reader) ⊎ Contains xs reader → reader ≤ x
      up_to here = elim here [ inl same ↦ omega (arith, same) | inr there ↦ d.0 reader there ]

      go : (b c : Bool) → ltb x least ≡ b → leb least (reach_of reaches x) ≡ c
          → (x ≡ reader) ⊎ Contains xs reader → (Contains xs reader → reader ≤ first xs)
          → reader ≤ cond b 0 (cond c x (first xs))
      go true c e k here later =
          let below : x < least = ltb-true _ _ e in
          let up = up_to here in
          let high = no_further reader in
          absurd (omega (arith, below, up, high, l))
      go false true e k here later = up_to here
      go false false e k here later = elim here [
        | inl same ↦
            let short : reach_of reaches reader < least
            = subst (λ n. reach_of reaches n < least) same (leb-false _ _ k) in
            absurd (omega (arith, short, l))
        | inr there ↦ later there
      ]

  pub last_is_greatest : ReachNoFurther reaches → (readers : List ℕ) → IsAscending readers → (reader : ℕ)
      → Contains readers reader → least ≤ reach_of reaches reader → reader ≤ last_reaching least reaches readers
  last_is_greatest no_further readers a reader m =
      first_is_greatest no_further (reverse readers) (descends readers a) reader (in_turned readers reader m)
