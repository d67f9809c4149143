-- One key more or less of those to which a reader is put, and that taking it out undoes it.
use Rattle.std.proofs.Common.{◌≡◌, ℕ, zero, suc, ◌+◌, ◌<◌, ◌≤◌, get_or, Bool, true, false, cond, not, List, [], ◌∷◌, ◌++◌, length, take, inl, inr, refl, sym, ap, ◌∙◌, arith, eqb, ne_eqb, eq-eqb, append-nil}
use Rattle.std.specs.Prelude.{Contains, ◌||◌, ◌-◌, slice_get}
use Rattle.std.specs.List.{list_any}
use Rattle.std.proofs.lemmas.Bool.{or_cases, or_left, or_right}
use Rattle.std.proofs.Math.Bool.{or-false}
use Rattle.std.proofs.lemmas.List.Folds.{list_any-append}
use mathlib.Core.Bool.{true≢false}
use Rattle.std.proofs.lemmas.List.{take_more, take_all}
use Rattle.std.proofs.lemmas.List.Elements.{filter-append}
use Rattle.siread.specs.declared.keys.LockKey.{LockKey}
use Rattle.siread.specs.Keys.{same_key}
use Rattle.siread.specs.Readers.{is_number, ends_in, with_last, left_out}
use Rattle.siread.specs.Locks.{Reads, AreBelow, changed_at, with_reader, without_reader}
use Rattle.siread.proofs.KeyOrder.{same_key-turned}
use Rattle.siread.proofs.Members.{in_head, in_tail, in_cases, not_in_nil}

pub ends_later : (number x y : ℕ) (rest : List ℕ) → ends_in number (x ∷ y ∷ rest) ≡ ends_in number (y ∷ rest)
ends_later number x y rest =
    let shorter : suc (suc (length rest)) - 1 ≡ suc (suc (length rest) - 1) = omega arith in
    ap (λ i. is_number number (slice_get (x ∷ y ∷ rest) i)) shorter

-- the last of some readers and one more
ends_there : (number : ℕ) (readers : List ℕ) → ends_in number (readers ++ number ∷ []) ≡ true
ends_there number [] = eq-eqb number number refl
ends_there number (x ∷ []) = eq-eqb number number refl
ends_there number (x ∷ y ∷ rest) = ends_later number x y (rest ++ number ∷ []) ∙ ends_there number (y ∷ rest)

ends_below : (number : ℕ) (readers : List ℕ) → ((reader : ℕ) → Contains readers reader → reader < number) → ends_in number readers ≡ false
ends_below number [] below = refl
ends_below number (x ∷ []) below = ne_eqb x number (λ e. let l = below x (0, omega arith, refl) in omega arith)
ends_below number (x ∷ y ∷ rest) below = ends_later number x y rest ∙ ends_below number (y ∷ rest) (λ reader m. below reader (in_tail x (y ∷ rest) reader m))

twice : (number : ℕ) (readers : List ℕ) → with_last number (readers ++ number ∷ []) ≡ readers ++ number ∷ []
twice number readers = ap (λ b. cond b (readers ++ number ∷ []) ((readers ++ number ∷ []) ++ number ∷ [])) (ends_there number readers)

once : (number : ℕ) (readers : List ℕ) → ((reader : ℕ) → Contains readers reader → reader < number) → with_last number readers ≡ readers ++ number ∷ []
once number readers below = ap (λ b. cond b readers (readers ++ number ∷ [])) (ends_below number readers below)

-- a number that is not there
none_left_out : (number : ℕ) (readers : List ℕ) → ((reader : ℕ) → Contains readers reader → reader < number) → left_out number readers ≡ readers
none_left_out number [] below = refl
none_left_out number (x ∷ xs) below =
    ap (λ b. cond (not b) (x ∷ left_out number xs) (left_out number xs)) (ne_eqb x number (λ e. let l = below x (in_head x xs) in omega arith))
    ∙ ap (λ o. x ∷ o) (none_left_out number xs (λ reader m. below reader (in_tail x xs reader m)))

last_left_out : (number : ℕ) (readers : List ℕ) → left_out number (readers ++ number ∷ []) ≡ left_out number readers
last_left_out number readers =
    filter-append (λ reader. not (eqb reader number)) readers (number ∷ [])
    ∙ ap (λ b. left_out number readers ++ cond (not b) (number ∷ []) []) (eq-eqb number number refl)
    ∙ append-nil (left_out number readers)

left_out_again : (number : ℕ) (readers : List ℕ) → left_out number (left_out number readers) ≡ left_out number readers
left_out_again number [] = refl
left_out_again number (x ∷ xs) = go (left_out_again number xs) (not (eqb x number)) refl
  where
    go : left_out number (left_out number xs) ≡ left_out number xs → (b : Bool) → not (eqb x number) ≡ b → left_out number (cond b (x ∷ left_out number xs) (left_out number xs)) ≡ cond b (x ∷ left_out number xs) (left_out number xs)
    go again true e = ap (λ b. cond b (x ∷ left_out number (left_out number xs)) (left_out number (left_out number xs))) e ∙ ap (λ o. x ∷ o) again
    go again false e = again

-- whether a key is among some keys and one more
among_more : (q : LockKey) (keys : List LockKey) (key : LockKey) → list_any (same_key q) (keys ++ key ∷ []) ≡ (list_any (same_key q) keys || same_key key q)
among_more q keys key = list_any-append (same_key q) keys (key ∷ [])
    ∙ ap (λ b. list_any (same_key q) keys || b) (or-false (same_key q key) ∙ same_key-turned q key)

-- one key more
pub put_step : (number : ℕ) (done : List LockKey) (key : LockKey) (reads : Reads) → AreBelow number reads
    → changed_at key (with_last number) (with_reader number done reads) ≡ with_reader number (done ++ key ∷ []) reads
put_step number done key reads below = λ i q. at q i
  where
    go : (q : LockKey) (d s : Bool)
        → cond s (with_last number (cond d (reads q ++ number ∷ []) (reads q))) (cond d (reads q ++ number ∷ []) (reads q)) ≡ cond (d || s) (reads q ++ number ∷ []) (reads q)
    go q true true = twice number (reads q)
    go q true false = refl
    go q false true = once number (reads q) (below q)
    go q false false = refl

    at : (q : LockKey) → changed_at key (with_last number) (with_reader number done reads) q ≡ with_reader number (done ++ key ∷ []) reads q
    at q = go q (list_any (same_key q) done) (same_key key q) ∙ ap (λ b. cond b (reads q ++ number ∷ []) (reads q)) (sym (among_more q done key))

-- one key less
pub take_step : (number : ℕ) (done : List LockKey) (key : LockKey) (reads : Reads)
    → changed_at key (left_out number) (without_reader number done reads) ≡ without_reader number (done ++ key ∷ []) reads
take_step number done key reads = λ i q. at q i
  where
    go : (q : LockKey) (d s : Bool)
        → cond s (left_out number (cond d (left_out number (reads q)) (reads q))) (cond d (left_out number (reads q)) (reads q)) ≡ cond (d || s) (left_out number (reads q)) (reads q)
    go q true true = left_out_again number (reads q)
    go q true false = refl
    go q false true = refl
    go q false false = refl

    at : (q : LockKey) → changed_at key (left_out number) (without_reader number done reads) q ≡ without_reader number (done ++ key ∷ []) reads q
    at q = go q (list_any (same_key q) done) (same_key key q) ∙ ap (λ b. cond b (left_out number (reads q)) (reads q)) (sym (among_more q done key))

-- a reader put to some of the keys, and taken out of them all
pub undo : (number : ℕ) (some keys : List LockKey) (reads : Reads) → AreBelow number reads
    → ((q : LockKey) → list_any (same_key q) some ≡ true → list_any (same_key q) keys ≡ true)
    → without_reader number keys (with_reader number some reads) ≡ reads
undo number some keys reads below within = λ i q. at q i
  where
    go : (q : LockKey) (k s : Bool) → (s ≡ true → k ≡ true)
        → cond k (left_out number (cond s (reads q ++ number ∷ []) (reads q))) (cond s (reads q ++ number ∷ []) (reads q)) ≡ reads q
    go q true true h = last_left_out number (reads q) ∙ none_left_out number (reads q) (below q)
    go q true false h = none_left_out number (reads q) (below q)
    go q false true h = absurd (true≢false (sym (h refl)))
    go q false false h = refl

    at : (q : LockKey) → without_reader number keys (with_reader number some reads) q ≡ reads q
    at q = go q (list_any (same_key q) keys) (list_any (same_key q) some) (within q)

pub any_take : {X : Type 0} (test : X → Bool) (count : ℕ) (xs : List X) → list_any test (take count xs) ≡ true → list_any test xs ≡ true
any_take test zero [] h = h
any_take test zero (x ∷ xs) h = let no : ⊥ = cc in absurd no
any_take test (suc count) [] h = h
any_take test (suc count) (x ∷ xs) h = elim (or_cases (test x) (list_any test (take count xs)) h) [
  | inl here ↦ or_left (test x) (list_any test xs) here
  | inr there ↦ or_right (test x) (list_any test xs) (any_take test count xs there)
]

-- a walk over a list: one more, and all
pub one_more : {X : Type 0} (xs : List X) (i : ℕ) (x : X) → i < length xs → x ≡ get_or xs i x → take i xs ++ x ∷ [] ≡ take (i + 1) xs
one_more xs i x within e = ap (λ y. take i xs ++ y ∷ []) e ∙ sym (take_more xs i x within)

pub all_taken : {X : Type 0} (xs : List X) (i : ℕ) → length xs ≤ i → take i xs ≡ xs
all_taken xs i e = take_all i xs e

-- those below a number, and the number
up_to : (number : ℕ) (readers : List ℕ) → ((reader : ℕ) → Contains readers reader → reader < number)
    → (reader : ℕ) → Contains (readers ++ number ∷ []) reader → reader < number + 1
up_to number [] below reader m = elim (in_cases number [] reader m) [
  | inl same ↦ omega (arith, same)
  | inr there ↦ absurd (not_in_nil reader there)
]
up_to number (x ∷ xs) below reader m = elim (in_cases x (xs ++ number ∷ []) reader m) [
  | inl same ↦ (let l = below x (in_head x xs) in omega (arith, same))
  | inr there ↦ up_to number xs (λ r n. below r (in_tail x xs r n)) reader there
]

pub below_after : (number : ℕ) (keys : List LockKey) (reads : Reads) → AreBelow number reads → AreBelow (number + 1) (with_reader number keys reads)
below_after number keys reads below key reader = go (list_any (same_key key) keys)
  where
    go : (b : Bool) → Contains (cond b (reads key ++ number ∷ []) (reads key)) reader → reader < number + 1
    go true m = up_to number (reads key) (below key) reader m
    go false m = let l = below key reader m in omega arith
