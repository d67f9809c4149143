-- A word is looked for among the reserved words of its length alone.
use Rattle.std.proofs.Common.{◌≡◌, ◌≢◌, ℕ, Bool, true, false, ◌==◌, List, [], ◌∷◌, length, refl, ap, ◌∙◌, arith, if◌then◌else◌}
use Rattle.std.proofs.lemmas.Bool.Decides.{nat_tests}
use Rattle.std.specs.Str.{bytes_eq}
use Rattle.token.specs.declared.kinds.Kind.{Kind}
use Rattle.token.specs.declared.kinds.Kind.TheVariants as k
use Rattle.token.specs.Bytes.{Text, name_of}
use Rattle.token.specs.Spellings.{find_word, reserved_words, word_kind}
use Rattle.token.proofs.Runs.{spelled_lengths}

abbrev pub put_if : Bool → Text × Kind → List (Text × Kind) → List (Text × Kind)
put_if true r rs = r ∷ rs
put_if false r rs = rs

abbrev pub of_length : ℕ → List (Text × Kind) → List (Text × Kind)
of_length n [] = []
of_length n (r ∷ rs) = put_if (length r.0 == n) r (of_length n rs)

step : (b : Bool) (word : Text) (r : Text × Kind) (rs some : List (Text × Kind)) → (length r.0 == length word) ≡ b → find_word rs (name_of word) ≡ find_word some (name_of word) → find_word (r ∷ rs) (name_of word) ≡ find_word (put_if b r some) (name_of word)
step true word r rs some e ih = ap (λ t. if bytes_eq (name_of word) r.0 then r.1 else t) ih
step false word r rs some e ih =
    let other : length word ≢ length r.0 = grind (arith, nat_tests, e) in
    let no : bytes_eq (name_of word) r.0 ≡ false = spelled_lengths word r.0 other in
    ap (λ t. if t then r.1 else find_word rs (name_of word)) no ∙ ih

found_of_length : (word : Text) (ws : List (Text × Kind)) → find_word ws (name_of word) ≡ find_word (of_length (length word) ws) (name_of word)
found_of_length word [] = refl
found_of_length word (r ∷ rs) = step (length r.0 == length word) word r rs (of_length (length word) rs) refl (found_of_length word rs)

pub kind_of_length : (word : Text) (n : ℕ) → length word ≡ n → word_kind word ≡ find_word (of_length n reserved_words) (name_of word)
unfolding word_kind
kind_of_length word n e = found_of_length word reserved_words ∙ ap (λ m. find_word (of_length m reserved_words) (name_of word)) e

not_same : (m n : ℕ) → n ≢ m → (m == n) ≡ false
not_same m n e = grind (arith, nat_tests, e)

pub kind_of_no_length : (word : Text) → length word ≢ 2 → length word ≢ 3 → length word ≢ 4 → length word ≢ 5 → length word ≢ 6 → length word ≢ 7 → length word ≢ 8 → length word ≢ 9 → length word ≢ 10 → length word ≢ 11 → word_kind word ≡ k.Name
unfolding word_kind
kind_of_no_length word e2 e3 e4 e5 e6 e7 e8 e9 e10 e11 =
    let none : of_length (length word) reserved_words ≡ [] = simp (not_same 2 (length word) e2, not_same 3 (length word) e3, not_same 4 (length word) e4, not_same 5 (length word) e5, not_same 6 (length word) e6, not_same 7 (length word) e7, not_same 8 (length word) e8, not_same 9 (length word) e9, not_same 10 (length word) e10, not_same 11 (length word) e11) refl in
    found_of_length word reserved_words ∙ ap (λ ws. find_word ws (name_of word)) none
