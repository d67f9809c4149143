-- Sums that differ.
use Rattle.std.proofs.Common.{◌≡◌, ℕ, ◌^◌, ◌<◌, List, [], ◌∷◌, ◌++◌, refl, sym, ◌∙◌, arith}
use Rattle.journal.specs.Spelling.{with_byte, sum_from}
use Rattle.journal.specs.Laws.{OneByteShows}

byte_fits : (s b : ℕ) → with_byte s b < 2 ^ 64
unfolding with_byte
byte_fits s b = omega arith

-- two bytes behind one sum
other_byte : (s a b : ℕ) → a < 256 → b < 256 → with_byte s a ≡ with_byte s b → a ≡ b
unfolding with_byte
other_byte s a b a_fits b_fits is = omega (arith, a_fits, b_fits, is)

-- one byte behind two sums: the factor is odd, so it has an inverse modulo 2^64
other_sum : (s t b : ℕ) → s < 2 ^ 64 → t < 2 ^ 64 → with_byte s b ≡ with_byte t b → s ≡ t
unfolding with_byte
other_sum s t b s_fits t_fits is = omega (arith, s_fits, t_fits, is)

-- the same bytes behind two sums
other_sums : (s t : ℕ) (bytes : List ℕ) → s < 2 ^ 64 → t < 2 ^ 64 → sum_from s bytes ≡ sum_from t bytes → s ≡ t
other_sums s t [] s_fits t_fits is = is
other_sums s t (b ∷ bytes) s_fits t_fits is =
    other_sum s t b s_fits t_fits (other_sums (with_byte s b) (with_byte t b) bytes (byte_fits s b) (byte_fits t b) is)

-- bytes behind others
sum_behind : (s : ℕ) (front bytes : List ℕ) → sum_from s (front ++ bytes) ≡ sum_from (sum_from s front) bytes
sum_behind s [] bytes = refl
sum_behind s (b ∷ front) bytes = sum_behind (with_byte s b) front bytes

pub one_byte_shows : OneByteShows
one_byte_shows front behind a b a_fits b_fits is =
    other_byte (sum_from 0 front) a b a_fits b_fits
    (other_sums (with_byte (sum_from 0 front) a) (with_byte (sum_from 0 front) b) behind (byte_fits (sum_from 0 front) a) (byte_fits (sum_from 0 front) b)
    (sym (sum_behind 0 front (a ∷ behind)) ∙ is ∙ sum_behind 0 front (b ∷ behind)))
