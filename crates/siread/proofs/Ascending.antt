-- The readers of a key ascend, as others are put last, taken out, and trimmed.
use Rattle.std.proofs.Common.{◌≡◌, ◌≢◌, ℕ, ◌+◌, ◌<◌, Bool, true, false, cond, List, [], ◌∷◌, ◌++◌, filter, refl, sym, ◌∙◌, subst, arith, eq-eqb}
use Rattle.std.specs.Prelude.{Contains}
use Rattle.std.specs.List.{AllByRecursion}
use Rattle.std.proofs.lemmas.Bool.{both_ways}
use Rattle.siread.specs.declared.keys.LockKey.{LockKey}
use Rattle.siread.specs.Keys.{same_key}
use Rattle.siread.specs.Readers.{ends_in, left_out, reaches_above, with_last, IsAscending}
use Rattle.siread.specs.Locks.{changed_at, reads_above, AreAscending, AreBelow, Reads}
use Rattle.siread.proofs.KeyOrder.{same_key-true}
use Rattle.siread.proofs.Members.{in_head, in_tail}
use Rattle.siread.proofs.Steps.{ends_later}

all_kept : (test : ℕ → Bool) (x : ℕ) (xs : List ℕ) → AllByRecursion (λ other. x < other) xs → AllByRecursion (λ other. x < other) (filter test xs)
all_kept test x [] a = tt
all_kept test x (y ∷ xs) a = go (all_kept test x xs a.1) (test y)
  where
    go : AllByRecursion (λ other. x < other) (filter test xs) → (b : Bool) → AllByRecursion (λ other. x < other) (cond b (y ∷ filter test xs) (filter test xs))
    go rest true = (a.0, rest)
    go rest false = rest

filter_ascends : (test : ℕ → Bool) (xs : List ℕ) → IsAscending xs → IsAscending (filter test xs)
filter_ascends test [] a = tt
filter_ascends test (x ∷ xs) a = go (filter_ascends test xs a.1) (test x)
  where
    go : IsAscending (filter test xs) → (b : Bool) → IsAscending (cond b (x ∷ filter test xs) (filter test xs))
    go rest true = (all_kept test x xs a.0, rest)
    go rest false = rest

all_more : (x number : ℕ) (xs : List ℕ) → x < number → AllByRecursion (λ other. x < other) xs → AllByRecursion (λ other. x < other) (xs ++ number ∷ [])
all_more x number [] l a = (l, tt)
all_more x number (y ∷ xs) l a = (a.0, all_more x number xs l a.1)

-- one more that is not the last of them already
more_ascends : (number : ℕ) (xs : List ℕ) → IsAscending xs → ((reader : ℕ) → Contains xs reader → reader < number + 1) → ends_in number xs ≡ false → IsAscending (xs ++ number ∷ [])
more_ascends number [] a below e = (tt, tt)
more_ascends number (x ∷ []) a below e =
    let other : x ≢ number = λ same. both_ways (ends_in number (x ∷ [])) e (eq-eqb x number same) in
    let l = below x (in_head x []) in
    ((omega (arith, other, l), tt), (tt, tt))
more_ascends number (x ∷ y ∷ rest) a below e =
    let l = below y (in_tail x (y ∷ rest) y (in_head y rest)) in
    let under = a.0.0 in
    (all_more x number (y ∷ rest) (omega (arith, l, under)) a.0, more_ascends number (y ∷ rest) a.1 (λ reader m. below reader (in_tail x (y ∷ rest) reader m)) (sym (ends_later number x y rest) ∙ e))

last_ascends : (number : ℕ) (xs : List ℕ) → IsAscending xs → ((reader : ℕ) → Contains xs reader → reader < number + 1) → IsAscending (with_last number xs)
last_ascends number xs a below = go (ends_in number xs) refl
  where
    go : (b : Bool) → ends_in number xs ≡ b → IsAscending (cond b xs (xs ++ number ∷ []))
    go true e = a
    go false e = more_ascends number xs a below e

-- other readers of one key
changed_ascends : (key : LockKey) (f : List ℕ → List ℕ) (reads : Reads) → AreAscending reads → IsAscending (f (reads key)) → AreAscending (changed_at key f reads)
changed_ascends key f reads a there q = go (same_key key q) refl
  where
    go : (b : Bool) → same_key key q ≡ b → IsAscending (cond b (f (reads q)) (reads q))
    go true e = subst (λ k. IsAscending (f (reads k))) (same_key-true key q e) there
    go false e = a q

pub put_ascends : (number : ℕ) (key : LockKey) (reads : Reads) → AreAscending reads → AreBelow (number + 1) reads → AreAscending (changed_at key (with_last number) reads)
put_ascends number key reads a below = changed_ascends key (with_last number) reads a (last_ascends number (reads key) (a key) (below key))

pub taken_ascends : (number : ℕ) (key : LockKey) (reads : Reads) → AreAscending reads → AreAscending (changed_at key (left_out number) reads)
taken_ascends number key reads a = changed_ascends key (left_out number) reads a (filter_ascends _ (reads key) (a key))

pub trimmed_ascends : (low : ℕ) (reaches : List ℕ) (reads : Reads) → AreAscending reads
    → AreAscending (reads_above low reaches reads)
trimmed_ascends low reaches reads a key = filter_ascends (reaches_above low reaches) (reads key) (a key)
