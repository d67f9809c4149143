-- The characters of a text, and how many they are.
use Rattle.std.proofs.Common.{◌≡◌, ℕ, zero, suc, ◌+◌, ◌<◌, ◌≤◌, Bool, true, false, ◌&&◌, nat_le, not, List, [], ◌∷◌, length, take, drop, ◌-◌, Result, Ok, Err, refl, sym, ap, ap₂, ◌∙◌, subst, arith, take_all, length-drop}
use Rattle.std.specs.Result.{MatchResult, is_ok}
use Rattle.std.specs.Str.{chars, chars_after, continuation_len, lead_bits, is_utf8, IsUtf8, IsAscii}
use Rattle.std.specs.List.{list_all}
use Rattle.std.proofs.Math.Bool.{and-true}
use Rattle.std.proofs.lemmas.Bool.Decides.{nat_tests}
use Rattle.std.proofs.lemmas.Str.{IsUtf8-from_is_utf8, IsUtf8-from_ascii, chars-IsAscii, is_utf8-from_IsUtf8}
use Rattle.value.specs.Texts.{is_plain_byte, is_plain, character_count}

-- behind a first byte with n bytes to come there is a character, if they are there
character_follows : (n c : ℕ) (bs : List ℕ) → n ≤ length bs → length (chars_after n c bs) ≡ suc (character_count (drop n bs))
unfolding chars
character_follows zero c [] h = refl
character_follows zero c (b ∷ bs) h = refl
character_follows (suc n) c [] h = absurd (omega arith)
character_follows (suc n) c (b ∷ bs) h = character_follows n _ bs (omega arith)

-- a character that is cut short is none
character_lacks : (n c : ℕ) (bs : List ℕ) → length bs < n → length (chars_after n c bs) ≡ 0
unfolding chars
character_lacks zero c bs h = absurd (omega arith)
character_lacks (suc n) c [] h = refl
character_lacks (suc n) c (b ∷ bs) h = character_lacks n _ bs (omega arith)

-- a text is one character more than what stands behind its first
pub first_counted : (bytes rest : List ℕ) (first n : ℕ) → bytes ≡ first ∷ rest → n ≡ continuation_len first → n ≤ length rest
    → character_count bytes ≡ 1 + character_count (take (length rest - n) (drop n rest))
unfolding chars
first_counted bytes rest first n is to_come h =
    let all : take (length rest - n) (drop n rest) ≡ drop n rest = take_all _ _ (omega (arith, length-drop n rest)) in
    let one : suc (character_count (drop n rest)) ≡ 1 + character_count (drop n rest) = omega arith in
    rw all (ap character_count is ∙ subst (λ m. length (chars_after m (lead_bits first) rest) ≡ suc (character_count (drop n rest))) to_come (character_follows n (lead_bits first) rest h) ∙ one)

pub first_cut_short : (bytes rest : List ℕ) (first : ℕ) → bytes ≡ first ∷ rest → length rest < continuation_len first → character_count bytes ≡ 0
unfolding chars
first_cut_short bytes rest first is h = ap character_count is ∙ character_lacks (continuation_len first) (lead_bits first) rest h

pub none_counted : (bytes : List ℕ) → length bytes ≡ 0 → character_count bytes ≡ 0
unfolding chars
none_counted [] h = refl
none_counted (b ∷ bytes) h = absurd (omega arith)

-- what is not well-formed is found to be so
not_utf8 : (bs : List ℕ) → ¬ (IsUtf8 bs) → is_utf8 bs ≡ false
not_utf8 bs ill =
    let case : (t : Bool) → is_utf8 bs ≡ t → t ≡ false =
    λ t. elim t as (λ u. is_utf8 bs ≡ u → u ≡ false) [ true ↦ λ e. absurd (ill (IsUtf8-from_is_utf8 bs e)) | false ↦ λ e. refl ] in
    case _ refl

-- what reads a text as UTF-8 or tells why it is none decides whether it is
pub decided : {A B : Type 0} (P : A → Type 0) (Q : B → Type 0) (bs : List ℕ) (r : Result A B)
    → MatchResult r (λ a. P a × IsUtf8 bs) (λ b. ¬ (IsUtf8 bs) × Q b) → is_ok r ≡ is_utf8 bs
decided P Q bs (Ok a) h = sym (is_utf8-from_IsUtf8 bs h.1)
decided P Q bs (Err b) h = sym (not_utf8 bs h.0)

-- ---- ASCII

byte_of_ascii : (b : ℕ) → b < 128 → is_plain_byte b ≡ (nat_le 32 b && nat_le b 126)
byte_of_ascii b h = grind (arith, nat_tests)

bytes_of_ascii : (bytes : List ℕ) → IsAscii bytes → list_all is_plain_byte bytes ≡ list_all (λ b. nat_le 32 b && nat_le b 126) bytes
bytes_of_ascii [] h = refl
bytes_of_ascii (b ∷ bytes) h = ap₂ (λ (s t : Bool). s && t) (byte_of_ascii b (h 0)) (bytes_of_ascii bytes (λ i. h (suc i)))

-- a text of ASCII is plain where each byte is from 0x20 to 0x7E
pub ascii_plain : (bytes : List ℕ) → IsAscii bytes → is_plain bytes ≡ list_all (λ b. nat_le 32 b && nat_le b 126) bytes
ascii_plain bytes h = rw (is_utf8-from_IsUtf8 bytes (IsUtf8-from_ascii bytes h), bytes_of_ascii bytes h) (and-true _)

-- and has as many characters as bytes
pub ascii_counted : (bytes : List ℕ) → IsAscii bytes → character_count bytes ≡ length bytes
ascii_counted bytes h = ap length (chars-IsAscii bytes h)
