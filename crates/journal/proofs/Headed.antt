-- The fields of a header are written one behind the other, and a header that was written is read again.
use mathlib.Core.Bool.{true≢false}
use Rattle.std.proofs.Common.{◌≡◌, ℕ, Bool, Bor, ◌-◌, ◌^◌, ◌<◌, true, false, List, [], ◌∷◌, ◌++◌, length, take, drop, Option, Some, None, refl, sym, ◌∙◌, ap, arith, append_assoc, length-append, codes}
use Rattle.std.specs.Prelude.{◌==◌, ◌&&◌, if◌then◌else◌, MatchOption, OnOk, Result, Ok, Err}
use Rattle.std.specs.Cmp.Lexicographic.{pointwise}
use Rattle.std.specs.Option.{option_map}
use Rattle.std.proofs.lemmas.List.{take_at}
use Rattle.std.proofs.lemmas.Bool.Decides.{nat_tests}
use Rattle.journal.specs.declared.headers.Header.{Header}
use Rattle.journal.specs.Spelling as spelled
use Rattle.journal.specs.Reading.{number_from}
use Rattle.journal.specs.Headers.{title, header_fields, header_line, behind, header_at}
use Rattle.journal.proofs.Again.{sum_fits}
use Rattle.journal.proofs.Fields.{number_again}

-- title, first number and sum of the definitions
pub fields_written : {A E : Type 0} (r : Result A E) (h : Header) (old titled numbered all : List ℕ) → titled ≡ old ++ title → numbered ≡ titled ++ spelled.number h.first
    → OnOk r (all ≡ numbered ++ spelled.number h.declared) → OnOk r (all ≡ old ++ header_fields h)
fields_written (Err e) h old titled numbered all t n a = a
fields_written (Ok x) h old titled numbered all t n a =
    a ∙ ap (λ (l : List ℕ). l ++ spelled.number h.declared) (n ∙ ap (λ (l : List ℕ). l ++ spelled.number h.first) t ∙ append_assoc old title (spelled.number h.first))
    ∙ append_assoc old (title ++ spelled.number h.first) (spelled.number h.declared) ∙ ap (λ (l : List ℕ). old ++ l) (append_assoc title (spelled.number h.first) (spelled.number h.declared))

-- ---- what stands behind a beginning

if_same : (t others : Bool) (x : Option (List ℕ)) (rest : List ℕ) → (t && others) ≡ true → (others ≡ true → x ≡ Some rest) → (if t then x else None) ≡ Some rest
if_same true others x rest both is = is both
if_same false others x rest both is = absurd (true≢false (sym both))

if_other : (t others : Bool) (x : Option (List ℕ)) → (t && others) ≡ false → (others ≡ false → x ≡ None) → (if t then x else None) ≡ None
if_other true others x not none = none not
if_other false others x not none = refl

is_behind : (front bytes : List ℕ) → pointwise ◌==◌ (take (length front) bytes) front ≡ true → behind front bytes ≡ Some (drop (length front) bytes)
is_behind [] bytes same = refl
is_behind (f ∷ front) [] same = absurd (true≢false (sym same))
is_behind (f ∷ front) (b ∷ bytes) same =
    if_same (b == f) (pointwise ◌==◌ (take (length front) bytes) front) (behind front bytes) (drop (length front) bytes) same (is_behind front bytes)

none_behind : (front bytes : List ℕ) → pointwise ◌==◌ (take (length front) bytes) front ≡ false → behind front bytes ≡ None
none_behind [] bytes other = absurd (true≢false other)
none_behind (f ∷ front) [] other = refl
none_behind (f ∷ front) (b ∷ bytes) other =
    if_other (b == f) (pointwise ◌==◌ (take (length front) bytes) front) (behind front bytes) other (none_behind front bytes)

pub stripped : (r : Option (Bor (List ℕ))) (front bytes : List ℕ) (Longer : Bor (List ℕ) → Type 0)
    → MatchOption r (pointwise ◌==◌ (take (length front) bytes) front ≡ false) (λ x. (pointwise ◌==◌ (take (length front) bytes) front ≡ true) × (x.now ≡ drop (length front) bytes) × Longer x)
    → option_map (λ x. x.now) r ≡ behind front bytes
stripped None front bytes Longer other = sym (none_behind front bytes other)
stripped (Some x) front bytes Longer same = ap Some same.1 ∙ sym (is_behind front bytes same.0)

-- ---- again

pub header_again : (h : Header) (bytes : List ℕ) → h.first < 2 ^ 64 → h.declared < 2 ^ 64 → header_at (header_line h ++ bytes) ≡ Some (h, bytes)
unfolding header_at
header_again h bytes first declared =
    let s = spelled.sum (header_fields h) in
    let after = spelled.number s ++ (codes "\n" ++ bytes) in
    let whole : header_line h ++ bytes ≡ header_fields h ++ after =
    append_assoc (header_fields h) (spelled.number s ++ codes "\n") bytes ∙ ap (λ (l : List ℕ). header_fields h ++ l) (append_assoc (spelled.number s) (codes "\n") bytes) in
    let numbers : number_from 0 ((spelled.number h.first ++ spelled.number h.declared) ++ after) ≡ Some (h.first, spelled.number h.declared ++ after) =
    ap (number_from 0) (append_assoc (spelled.number h.first) (spelled.number h.declared) after) ∙ number_again h.first (spelled.number h.declared ++ after) first in
    let long : length (header_fields h ++ after) - length after ≡ length (header_fields h) = omega (arith, length-append (header_fields h) after) in
    let front : take (length (header_fields h ++ after) - length after) (header_fields h ++ after) ≡ header_fields h =
    ap (λ (n : ℕ). take n (header_fields h ++ after)) long ∙ take_at (header_fields h) after (length (header_fields h)) refl in
    let same : (s == s) ≡ true = grind (arith, nat_tests) in
    ap header_at whole
    ∙ rw (
      numbers,
      number_again h.declared after declared,
      number_again s (codes "\n" ++ bytes) (sum_fits (header_fields h)),
      front,
      same,
    ) refl
