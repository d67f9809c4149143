-- What is spelled is read again.
use Rattle.std.proofs.Common.{◌≡◌, ◌≢◌, ◌⊎◌, ◌<◌, ◌^◌, ◌-◌, ◌++◌, ◌∷◌, [], ℕ, suc, Bool, true, false, List, length, take, drop, Some, None, cond, inl, inr, refl, ap, ◌∙◌, arith, append_assoc}
use Rattle.std.specs.Prelude.{nat_lt, pos, negsuc, neg_ℤ, slice_index, ℤ}
use Rattle.std.specs.Fmt.{decimal, signed_decimal}
use Rattle.std.specs.Str.Parse.{IsNumeral, digits_value, signed_digits_value, without_leading_plus}
use Rattle.std.specs.Int.{w64, from_le_bytes, to_le_bytes}
use lib.Seq.{drop-append_seam, take-append_seam}
use Rattle.std.proofs.lemmas.Bool.{le-ltb, lt-ltb, ltb-true, ne_eqb}
use Rattle.std.proofs.lemmas.Fmt.{decimal_is_IsNumeral_wide, length-decimal-le_wide}
use Rattle.std.proofs.lemmas.List.{length-append}
use Rattle.std.proofs.lemmas.Nat.{from_le_bytes-to_le_bytes_8}
use Rattle.std.proofs.lemmas.Str.Parse.{digit_from_value, without_leading_plus_none}
use Rattle.value.specs.declared.values.Value.{Value}
use Rattle.value.specs.declared.values.Value.TheVariants.{Null, Int, Text}
use Rattle.messages.specs.Reading.{large_number_at, listed_value_at, number_at, signed_number, text_at, value_at}
use Rattle.messages.specs.Spelling.{IsListed, IsSpelled, listed_value, number, text, value}

-- eight bytes, and whatever stands behind them
pub number_again : (n : ℕ) (rest : List ℕ) → n < 2 ^ 64 → number_at (number n ++ rest) ≡ Some (n, rest)
unfolding number
number_again n rest small =
    let bytes : List ℕ = to_le_bytes w64 n ++ rest in
    let long : nat_lt (length bytes) 8 ≡ false = le-ltb (length bytes) 8 (let l = length-append (to_le_bytes w64 n) rest in omega (arith, l)) in
    ap (λ (b : Bool). cond b None (Some (from_le_bytes w64 (take 8 bytes), drop 8 bytes))) long
    ∙ ap (λ (m : ℕ). Some (m, rest)) (from_le_bytes-to_le_bytes_8 n small)

-- how many bytes, and these
pub text_again : (bytes rest : List ℕ) → length bytes < 2 ^ 64 → text_at (text bytes ++ rest) ≡ Some (bytes, rest)
unfolding text_at
text_again bytes rest small =
    let whole : text bytes ++ rest ≡ number (length bytes) ++ (bytes ++ rest) = append_assoc (number (length bytes)) bytes rest in
    let enough : nat_lt (length (bytes ++ rest)) (length bytes) ≡ false = le-ltb (length (bytes ++ rest)) (length bytes) (let l = length-append bytes rest in omega (arith, l)) in
    rw (whole, number_again (length bytes) (bytes ++ rest) small)
    (ap (λ (b : Bool). cond b None (Some (take (length bytes) (bytes ++ rest), drop (length bytes) (bytes ++ rest)))) enough
    ∙ (λ i. Some (take-append_seam bytes rest i, drop-append_seam bytes rest i)))

signed_again : (n : ℕ) → n < 2 ^ 63 → signed_number n ≡ pos n
signed_again n small = ap (λ (b : Bool). cond b (negsuc (18446744073709551615 - n)) (pos n)) (le-ltb 9223372036854775807 n (omega arith))

negative_again : (n : ℕ) → n < 2 ^ 63 → signed_number (18446744073709551615 - n) ≡ negsuc n
negative_again n small =
    ap (λ (b : Bool). cond b (negsuc (18446744073709551615 - (18446744073709551615 - n))) (pos (18446744073709551615 - n)))
    (lt-ltb 9223372036854775807 (18446744073709551615 - n) (omega arith))
    ∙ ap negsuc (omega arith)

-- by the byte of its kind
pub value_again : (v : Value) (rest : List ℕ) → IsSpelled v → value_at (value v ++ rest) ≡ Some (v, rest)
unfolding value_at
value_again Null rest small = refl
value_again (Int (pos n)) rest small = rw (number_again n rest (omega arith)) (ap (λ (z : ℤ). Some (Int z, rest)) (signed_again n small))
value_again (Int (negsuc n)) rest small = rw (number_again (18446744073709551615 - n) rest (omega arith)) (ap (λ (z : ℤ). Some (Int z, rest)) (negative_again n small))
value_again (Text bytes) rest small = rw (text_again bytes rest small) refl

-- ---- values that a SELECT lists

-- the first digit is neither a minus nor a plus
first_digit : (ds : List ℕ) → IsNumeral 10 ds → (slice_index ds 0 ≢ 45) × (slice_index ds 0 ≢ 43)
first_digit [] is = absurd (omega (arith, is.0))
first_digit (c ∷ cs) is = let d = digit_from_value c is.1.0 in (λ e. omega (arith, d, e), λ e. omega (arith, d, e))

-- digits with no sign
digits_again : (ds : List ℕ) → IsNumeral 10 ds → signed_digits_value 10 ds ≡ pos (digits_value 10 ds)
digits_again ds is =
    let no = first_digit ds is in
    ap (λ (b : Bool). let digits : List ℕ = cond b (drop 1 ds) (without_leading_plus ds) in cond b (neg_ℤ (pos (digits_value 10 digits))) (pos (digits_value 10 digits))) (ne_eqb (slice_index ds 0) 45 no.0)
    ∙ ap (λ (digits : List ℕ). pos (digits_value 10 digits)) (without_leading_plus_none ds no.1)

-- a number by its decimal digits
decimal_again : (z : ℤ) (n : ℕ) → n < 2 ^ 127 → (z ≡ pos n) ⊎ (z ≡ negsuc n) → signed_digits_value 10 (signed_decimal z) ≡ z
decimal_again z n small (inl e) = let is = decimal_is_IsNumeral_wide n (omega arith) in rw e (digits_again (decimal n) is.0 ∙ ap pos is.1)
decimal_again z n small (inr e) = rw e (ap (λ (m : ℕ). neg_ℤ (pos m)) (decimal_is_IsNumeral_wide (suc n) (omega arith)).1)

-- its digits are few
short_again : (z : ℤ) (n : ℕ) → n < 2 ^ 127 → (z ≡ pos n) ⊎ (z ≡ negsuc n) → length (signed_decimal z) < 2 ^ 64
short_again z n small (inl e) = rw e (omega (arith, length-decimal-le_wide 40 n (omega arith) (omega arith) (omega arith)))
short_again z n small (inr e) = rw e (omega (arith, length-decimal-le_wide 40 (suc n) (omega arith) (omega arith) (omega arith)))

large_again : (z : ℤ) (n : ℕ) (rest : List ℕ) → n < 2 ^ 127 → (z ≡ pos n) ⊎ (z ≡ negsuc n) → large_number_at (text (signed_decimal z) ++ rest) ≡ Some (Int z, rest)
unfolding large_number_at
large_again z n rest small is =
    rw (text_again (signed_decimal z) rest (short_again z n small is)) (ap (λ (y : ℤ). Some (Int y, rest)) (decimal_again z n small is))

-- a number of either kind
either_again : (z : ℤ) (n : ℕ) (rest : List ℕ) → n < 2 ^ 127 → (z ≡ pos n) ⊎ (z ≡ negsuc n) → (b : Bool) → (b ≡ true → IsSpelled (Int z))
    → listed_value_at (cond b (value (Int z)) (5 ∷ text (signed_decimal z)) ++ rest) ≡ Some (Int z, rest)
unfolding listed_value_at
either_again z n rest small is true spelled = value_again (Int z) rest (spelled refl)
either_again z n rest small is false spelled = large_again z n rest small is

-- a value of a row, by the byte of its kind
pub listed_again : (v : Value) (rest : List ℕ) → IsListed v → listed_value_at (listed_value v ++ rest) ≡ Some (v, rest)
unfolding listed_value_at
listed_again Null rest small = value_again Null rest tt
listed_again (Int (pos n)) rest small = either_again (pos n) n rest small (inl refl) (nat_lt n 9223372036854775808) (ltb-true n 9223372036854775808)
listed_again (Int (negsuc n)) rest small = either_again (negsuc n) n rest small (inr refl) (nat_lt n 9223372036854775808) (ltb-true n 9223372036854775808)
listed_again (Text bytes) rest small = value_again (Text bytes) rest small
