-- Marks by their first bytes.
use Rattle.std.proofs.Common.{◌≡◌, ◌≢◌, ℕ, false, ◌==◌, ◌∷◌, None, refl, arith}
use Rattle.std.proofs.lemmas.Bool.Decides.{nat_tests}
use Rattle.token.specs.Bytes.{Text}
use Rattle.token.specs.Lexer.{mark}

not_same : (m n : ℕ) → n ≢ m → (m == n) ≡ false
not_same m n e = grind (arith, nat_tests, e)

-- no mark begins with another byte
pub no_mark : (b : ℕ) (z : Text) → b ≢ 44 → b ≢ 61 → b ≢ 40 → b ≢ 41 → b ≢ 46 → b ≢ 59 → b ≢ 58 → b ≢ 42 → b ≢ 43 → b ≢ 45 → b ≢ 60 → b ≢ 62
    → None ≡ mark (b ∷ z)
unfolding mark
no_mark b z e1 e2 e3 e4 e5 e6 e7 e8 e9 e10 e11 e12 =
    simp (not_same 44 b e1, not_same 61 b e2, not_same 40 b e3, not_same 41 b e4, not_same 46 b e5, not_same 59 b e6, not_same 58 b e7, not_same 42 b e8, not_same 43 b e9, not_same 45 b e10, not_same 60 b e11, not_same 62 b e12) refl
