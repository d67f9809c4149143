-- A text is well-formed UTF-8 exactly where it is with each quote in it written twice.
use Rattle.std.proofs.Common.{◌≡◌, ℕ, suc, ◌+◌, ◌<◌, Bool, true, false, cond, List, [], ◌∷◌, ◌++◌, length, take, drop, get_or, append_assoc, refl, sym, ap, ◌∙◌, subst, arith, length-append}
use Rattle.std.specs.Str.{IsUtf8, is_utf8}
use Rattle.std.proofs.lemmas.Str.{IsUtf8-nil, IsUtf8-encode, encode_ascii, IsUtf8-append, IsUtf8-take, IsUtf8-drop, IsUtf8-from_is_utf8, is_utf8-from_IsUtf8, IsCharBoundary-before_ascii, IsCharBoundary-after_ascii}
use Rattle.std.proofs.Math.Seq.{take-append_seam, get_or-append_seam, drop-append-add}
use Rattle.std.proofs.lemmas.Bool.Decides.{nat_tests}
use Rattle.token.specs.Bytes.{Text, is_quote}
use Rattle.token.specs.Rules.{with_doubled_quotes}

pub is_the_quote : (b : ℕ) → is_quote b ≡ true → 39 ≡ b
is_the_quote b h = grind (arith, nat_tests)

-- ---- a quote is no part of a longer character, so a text may be cut at one

quote_in : (front back : Text) → length front < length (front ++ 39 ∷ back)
quote_in front back = omega (arith, length-append front (39 ∷ back))

quote_there : (front back : Text) → get_or (front ++ 39 ∷ back) (length front) 0 < 128
quote_there front back = omega (arith, get_or-append_seam front 39 back 0)

before_quote : (front back : Text) → IsUtf8 (front ++ 39 ∷ back) → IsUtf8 front
before_quote front back u =
    let whole = front ++ 39 ∷ back in
    subst IsUtf8 (take-append_seam front (39 ∷ back)) (IsUtf8-take whole (length front) u (IsCharBoundary-before_ascii whole (length front) (quote_in front back) (quote_there front back)))

behind_quote : (front back : Text) → IsUtf8 (front ++ 39 ∷ back) → IsUtf8 back
behind_quote front back u =
    let whole = front ++ 39 ∷ back in
    let there : drop (length front + 1) whole ≡ back = drop-append-add front (39 ∷ back) 1 in
    subst IsUtf8 there (IsUtf8-drop whole (length front + 1) u (IsCharBoundary-after_ascii whole (length front) u (quote_in front back) (quote_there front back)))

quote_alone : IsUtf8 (39 ∷ [])
quote_alone = subst IsUtf8 (encode_ascii 39 (omega arith)) (IsUtf8-encode 39 refl)

at_quote : (front back : Text) → IsUtf8 front → IsUtf8 back → IsUtf8 (front ++ 39 ∷ back)
at_quote front back u v = IsUtf8-append front (39 ∷ back) u (IsUtf8-append (39 ∷ []) back quote_alone v)

-- ---- each quote once, and twice

-- one byte more stands in front
moved : (front back : Text) (b : ℕ) → (front ++ b ∷ []) ++ back ≡ front ++ b ∷ back
moved front back b = append_assoc front (b ∷ []) back

doubled : (front inside : Text) → IsUtf8 (front ++ inside) → IsUtf8 (front ++ with_doubled_quotes inside)
doubled front [] u = u
doubled front (b ∷ inside) u =
    let twice : Text = with_doubled_quotes inside in
    let case : (t : Bool) → is_quote b ≡ t → IsUtf8 (front ++ cond t (b ∷ b ∷ twice) (b ∷ twice)) =
    λ t. elim t as (λ s. is_quote b ≡ s → IsUtf8 (front ++ cond s (b ∷ b ∷ twice) (b ∷ twice))) [
      | true ↦ λ is.
          let cut : IsUtf8 (front ++ 39 ∷ inside) = subst (λ c. IsUtf8 (front ++ c ∷ inside)) (sym (is_the_quote b is)) u in
          let inner : IsUtf8 twice = doubled [] inside (behind_quote front inside cut) in
          subst (λ c. IsUtf8 (front ++ c ∷ c ∷ twice)) (is_the_quote b is) (at_quote front (39 ∷ twice) (before_quote front inside cut) (at_quote [] twice IsUtf8-nil inner))
      | false ↦ λ is. subst IsUtf8 (moved front twice b) (doubled (front ++ b ∷ []) inside (subst IsUtf8 (sym (moved front inside b)) u))
    ] in
    case _ refl

single : (front inside : Text) → IsUtf8 (front ++ with_doubled_quotes inside) → IsUtf8 (front ++ inside)
single front [] u = u
single front (b ∷ inside) u =
    let twice : Text = with_doubled_quotes inside in
    let case : (t : Bool) → is_quote b ≡ t → IsUtf8 (front ++ cond t (b ∷ b ∷ twice) (b ∷ twice)) → IsUtf8 (front ++ b ∷ inside) =
    λ t. elim t as (λ s. is_quote b ≡ s → IsUtf8 (front ++ cond s (b ∷ b ∷ twice) (b ∷ twice)) → IsUtf8 (front ++ b ∷ inside)) [
      | true ↦ λ is v.
          let cut : IsUtf8 (front ++ 39 ∷ 39 ∷ twice) = subst (λ c. IsUtf8 (front ++ c ∷ c ∷ twice)) (sym (is_the_quote b is)) v in
          let inner : IsUtf8 inside = single [] inside (behind_quote [] twice (behind_quote front (39 ∷ twice) cut)) in
          subst (λ c. IsUtf8 (front ++ c ∷ inside)) (is_the_quote b is) (at_quote front inside (before_quote front (39 ∷ twice) cut) inner)
      | false ↦ λ is v. subst IsUtf8 (moved front inside b) (single (front ++ b ∷ []) inside (subst IsUtf8 (sym (moved front twice b)) v))
    ] in
    case _ refl u

-- ---- a text as it is written, up to its closing quote

pub written_utf8 : (inside : Text) → is_utf8 inside ≡ true → is_utf8 (with_doubled_quotes inside ++ 39 ∷ []) ≡ true
written_utf8 inside is = is_utf8-from_IsUtf8 _ (at_quote (with_doubled_quotes inside) [] (doubled [] inside (IsUtf8-from_is_utf8 inside is)) IsUtf8-nil)

pub utf8_written : (inside : Text) → is_utf8 (with_doubled_quotes inside ++ 39 ∷ []) ≡ true → is_utf8 inside ≡ true
utf8_written inside is = is_utf8-from_IsUtf8 inside (single [] inside (before_quote (with_doubled_quotes inside) [] (IsUtf8-from_is_utf8 _ is)))
