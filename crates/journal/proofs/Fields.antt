-- What was written is read again.
use Rattle.std.proofs.Common.{◌≡◌, ℕ, suc, ◌+◌, ◌-◌, ◌*◌, ◌/◌, ◌%◌, ◌^◌, ◌<◌, ◌≤◌, false, List, [], ◌∷◌, ◌++◌, length, drop, Some, refl, sym, ◌∙◌, ap, arith, append_assoc}
use Rattle.std.specs.Fmt.{decimal}
use Rattle.std.proofs.lemmas.List.{drop_at}
use Rattle.std.proofs.lemmas.Bool.Decides.{nat_tests}
use Rattle.std.proofs.lemmas.Fmt.{decimal_by_steps}
use Rattle.journal.specs.Spelling as spelled
use Rattle.journal.specs.Fitting.{IsTextByte, FitsValue}
use Rattle.std.specs.Prelude.{pos, negsuc, nat_lt, ◌==◌}
use Rattle.std.specs.List.{AllByRecursion}
use Rattle.value.specs.declared.values.Value.{Value}
use Rattle.value.specs.declared.values.Value.TheVariants.{Null, Int, Text}
use Rattle.journal.specs.Reading.{with_digit, number_from, piece_at, negative, positive, negative_at, positive_at, int_at, text_at, value_at}

-- the line of a commit, as it is written
pub commit_line : (old body with_body with_sum all : List ℕ) → with_body ≡ old ++ body → with_sum ≡ with_body ++ spelled.number (spelled.sum (drop (length old) with_body))
    → all ≡ with_sum ++ 10 ∷ [] → all ≡ (old ++ (body ++ spelled.number (spelled.sum body))) ++ 10 ∷ []
commit_line old body with_body with_sum all b s a =
    let behind : drop (length old) with_body ≡ body = ap (drop (length old)) b ∙ drop_at old body (length old) refl in
    a ∙ ap (λ (l : List ℕ). l ++ 10 ∷ []) (s ∙ (λ i. b i ++ spelled.number (spelled.sum (behind i))) ∙ append_assoc old body (spelled.number (spelled.sum body)))

-- a digit is read
digit : (n d : ℕ) → d < 10 → n * 10 + d < 2 ^ 64 → with_digit n (48 + d) ≡ Some (n * 10 + d)
unfolding with_digit
digit n d small fits = grind (arith, nat_tests, small, fits)

-- the digits of a number are read as that number, and what stands behind them goes on from it
number_goes_on : (n : ℕ) → n < 2 ^ 64 → (tail : List ℕ) → number_from 0 (decimal n ++ tail) ≡ number_from n tail
number_goes_on n fits =
    decimal_by_steps
    (λ n ds. n < 2 ^ 64 → (tail : List ℕ) → number_from 0 (ds ++ tail) ≡ number_from n tail)
    (λ n lt fits tail. first n lt fits tail)
    (λ n ds le so_far fits tail.
    ap (λ (l : List ℕ). number_from 0 l) (append_assoc ds ((48 + n % 10) ∷ []) tail)
    ∙ so_far (omega arith) ((48 + n % 10) ∷ tail)
    ∙ next (n / 10) (n % 10) (omega arith) (omega (arith, fits)) tail
    ∙ ap (λ (m : ℕ). number_from m tail) (omega arith))
    n fits fits
  where
    next : (m d : ℕ) → d < 10 → m * 10 + d < 2 ^ 64 → (tail : List ℕ) → number_from m ((48 + d) ∷ tail) ≡ number_from (m * 10 + d) tail
    next m d small fits tail =
        let read = digit m d small fits in
        grind (arith, nat_tests, read)

    first : (n : ℕ) → n < 10 → n < 2 ^ 64 → (tail : List ℕ) → number_from 0 ((48 + n) ∷ tail) ≡ number_from n tail
    first n lt fits tail = next 0 n lt (omega (arith, lt)) tail ∙ ap (λ (m : ℕ). number_from m tail) (omega arith)

-- a number that was written is read
pub number_again : (n : ℕ) (rest : List ℕ) → n < 2 ^ 64 → number_from 0 (spelled.number n ++ rest) ≡ Some (n, rest)
number_again n rest fits = ap (λ (l : List ℕ). number_from 0 l) (append_assoc (decimal n) (9 ∷ []) rest) ∙ number_goes_on n fits (9 ∷ rest)

-- ---- numbers with a sign

negative_again : (n : ℕ) (rest : List ℕ) → n < 9223372036854775808 → negative_at (spelled.number (n + 1) ++ rest) ≡ Some (Int (negsuc n), rest)
unfolding negative
negative_again n rest fits =
    let read = number_again (n + 1) rest (omega (arith, fits)) in
    let big : nat_lt 9223372036854775808 (n + 1) ≡ false = grind (arith, nat_tests, fits) in
    let some : ((n + 1) == 0) ≡ false = grind (arith, nat_tests) in
    let one_less : n + 1 - 1 ≡ n = omega arith in
    rw (read, big, some, one_less) refl

positive_again : (n : ℕ) (rest : List ℕ) → n < 9223372036854775808 → positive_at (spelled.number n ++ rest) ≡ Some (Int (pos n), rest)
unfolding positive
positive_again n rest fits =
    let read = number_again n rest (omega (arith, fits)) in
    let big : nat_lt 9223372036854775807 n ≡ false = grind (arith, nat_tests, fits) in
    rw (read, big) refl

-- the first digit of a number is a digit, so neither the letter of NULL nor a quote nor a sign stands there
pub record StartsWithDigit (ds : List ℕ) : Type 0 where
  pub first : ℕ
  pub others : List ℕ
  pub is : ds ≡ first ∷ others
  pub low : 48 ≤ first
  pub high : first ≤ 57

pub starts : (n : ℕ) → n < 2 ^ 64 → StartsWithDigit (decimal n)
starts n fits =
    decimal_by_steps
    (λ n ds. StartsWithDigit ds)
    (λ n lt. record { first = 48 + n; others = []; is = refl; low = omega arith; high = omega (arith, lt) })
    (λ n ds le so_far. record { first = so_far.first; others = so_far.others ++ (48 + n % 10) ∷ []; is = ap (λ (l : List ℕ). l ++ (48 + n % 10) ∷ []) so_far.is; low = so_far.low; high = so_far.high })
    n fits

-- ---- values

piece_again : (bytes rest : List ℕ) → AllByRecursion IsTextByte bytes → piece_at 9 (bytes ++ 9 ∷ rest) ≡ Some (bytes, rest)
piece_again [] rest fits = refl
piece_again (b ∷ bytes) rest fits =
    let not_zero : (b == 0) ≡ false = grind (arith, nat_tests, fits.0) in
    let not_tab : (b == 9) ≡ false = grind (arith, nat_tests, fits.0) in
    rw (not_zero, not_tab, piece_again bytes rest fits.1) refl

int_is : (b : ℕ) (bs : List ℕ) → 45 ≤ b → b ≤ 57 → value_at (b ∷ bs) ≡ int_at (b ∷ bs)
unfolding value_at
int_is b bs low high =
    let not_null : (b == 78) ≡ false = grind (arith, nat_tests, high) in
    let not_text : (b == 39) ≡ false = grind (arith, nat_tests, low) in
    rw (not_null, not_text) refl

positive_is : (b : ℕ) (bs : List ℕ) → 48 ≤ b → int_at (b ∷ bs) ≡ positive_at (b ∷ bs)
unfolding int_at
positive_is b bs low =
    let no_sign : (b == 45) ≡ false = grind (arith, nat_tests, low) in
    rw no_sign refl

negative_is : (bs : List ℕ) → int_at (45 ∷ bs) ≡ negative_at bs
unfolding int_at
negative_is bs = refl

text_is : (bs : List ℕ) → value_at (39 ∷ bs) ≡ text_at bs
unfolding value_at
text_is bs = refl

null_is : (bs : List ℕ) → value_at (78 ∷ 9 ∷ bs) ≡ Some (Null, bs)
unfolding value_at
null_is bs = refl

pub value_again : (v : Value) (rest : List ℕ) → FitsValue v → value_at (spelled.value v ++ rest) ≡ Some (v, rest)
value_again Null rest fits = null_is rest
value_again (Int (pos n)) rest fits =
    let s = starts n (omega (arith, fits)) in
    let whole : spelled.number n ++ rest ≡ s.first ∷ ((s.others ++ 9 ∷ []) ++ rest) = ap (λ (l : List ℕ). (l ++ 9 ∷ []) ++ rest) s.is in
    ap value_at whole ∙ int_is s.first ((s.others ++ 9 ∷ []) ++ rest) (omega (arith, s.low)) s.high ∙ positive_is s.first ((s.others ++ 9 ∷ []) ++ rest) s.low
    ∙ ap positive_at (sym whole) ∙ positive_again n rest fits
value_again (Int (negsuc n)) rest fits =
    let read = negative_again n rest fits in
    int_is 45 (spelled.number (suc n) ++ rest) (omega arith) (omega arith) ∙ negative_is (spelled.number (suc n) ++ rest)
    ∙ ap (λ (m : ℕ). negative_at (spelled.number m ++ rest)) (omega arith) ∙ read
value_again (Text bytes) rest fits =
    ap (λ (l : List ℕ). value_at (39 ∷ l)) (append_assoc bytes (9 ∷ []) rest) ∙ text_is (bytes ++ 9 ∷ rest) ∙ rw (piece_again bytes rest fits) refl
