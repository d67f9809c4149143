-- What a journal becomes, and what a crash leaves of it, while zeros are written over what a crash left behind its lines.
use Rattle.std.proofs.Common.{◌≡◌, inl, inr, ⊎_elim, ℕ, ◌+◌, Bool, true, false, List, [], ◌∷◌, ◌++◌, length, refl, sym, ◌∙◌, ap, subst, arith, length-append}
use Rattle.std.specs.Prelude.{◌==◌, Some}
use Rattle.std.proofs.lemmas.Bool.{cases_eq}
use Rattle.std.proofs.lemmas.Bool.Decides.{nat_tests}
use Rattle.std.proofs.lemmas.List.{append-nil}
use Rattle.journal.specs.declared.entries.Entry.{Entry}
use Rattle.journal.specs.Tails.{with_first, lines_from, lines_of, tail_of, zeros, fed}
use Rattle.journal.specs.Device.{IsEither, Over, Written}
use Rattle.journal.specs.Recovery.{said}
use Rattle.journal.specs.Journals.{IsBetween}
use Rattle.journal.proofs.Shapes.{whole, said_parts, shape_said}
use Rattle.journal.proofs.Silent.{zeroed_torn}
use Rattle.journal.proofs.Settled.{Rests, rests, unchanged, cut_front, cut_behind, length_zeros}

-- no line is in front where one byte more makes none
none_behind : (b : ℕ) (ls : List (List ℕ)) → with_first b ls ≡ [] → ls ≡ []
none_behind b [] none = refl
none_behind b (l ∷ ls) none = absurd cc

-- where some bytes of an end without a whole line are zero now, no line is whole
zeroed : (inside : Bool) (was now : List ℕ) → lines_from inside was ≡ [] → IsEither (zeros (length was)) was now → lines_from inside now ≡ []
zeroed inside [] [] none either = refl
zeroed inside [] (c ∷ now) none either = absurd either
zeroed inside (w ∷ was) [] none either = absurd either
zeroed false (w ∷ was) (c ∷ now) none either =
    ⊎_elim
    (λ old. subst (λ (n : ℕ). lines_from false (n ∷ now) ≡ []) (sym old) (outside w was now none (λ rest. zeroed true was now rest either.1)))
    (λ new. ap (λ (n : ℕ). lines_from false (n ∷ now)) new)
    either.0
  where
    outside : (w : ℕ) (was now : List ℕ) → lines_from false (w ∷ was) ≡ [] → (lines_from true was ≡ [] → lines_from true now ≡ []) → lines_from false (w ∷ now) ≡ []
    outside w was now none again = elim (cases_eq w 10) [
      | inl is ↦
          let feed : (w == 10) ≡ true = grind (arith, nat_tests, is) in
          let rest : lines_from true was ≡ [] = rw feed at none in
          rw (feed, again rest) refl
      | inr isnt ↦
          let feed : (w == 10) ≡ false = grind (arith, nat_tests, isnt) in
          rw feed refl
    ]
zeroed true (w ∷ was) (c ∷ now) none either =
    ⊎_elim
    (λ old. subst (λ (n : ℕ). lines_from true (n ∷ now) ≡ []) (sym old) (within w was now none (λ rest. zeroed true was now rest either.1)))
    (λ new. ap (λ (n : ℕ). lines_from true (n ∷ now)) new)
    either.0
  where
    within : (w : ℕ) (was now : List ℕ) → lines_from true (w ∷ was) ≡ [] → (lines_from true was ≡ [] → lines_from true now ≡ []) → lines_from true (w ∷ now) ≡ []
    within w was now none again = elim (cases_eq w 0) [
      | inl is ↦
          let nought : (w == 0) ≡ true = grind (arith, nat_tests, is) in
          rw nought refl
      | inr isnt ↦
          let nought : (w == 0) ≡ false = grind (arith, nat_tests, isnt) in
          elim (cases_eq w 10) [
            | inl is ↦
                let feed : (w == 10) ≡ true = grind (arith, nat_tests, is) in
                let some : [] ∷ lines_of was ≡ [] = rw (nought, feed) at none in
                absurd cc
            | inr plain ↦
                let feed : (w == 10) ≡ false = grind (arith, nat_tests, plain) in
                let behind : with_first w (lines_from true was) ≡ [] = rw (nought, feed) at none in
                rw (nought, feed, again (none_behind w (lines_from true was) behind)) refl
          ]
    ]

length_either : (bytes was now : List ℕ) → IsEither bytes was now → length was ≡ length bytes
length_either [] [] [] either = refl
length_either [] [] (c ∷ cs) either = absurd either
length_either [] (w ∷ was) [] either = absurd either
length_either [] (w ∷ was) (c ∷ cs) either = absurd either
length_either (b ∷ bytes) [] now either = absurd either
length_either (b ∷ bytes) (w ∷ was) [] either = absurd either
length_either (b ∷ bytes) (w ∷ was) (c ∷ cs) either = omega (arith, length_either bytes was cs either.1)

nothing_left : (was behind : List ℕ) → length behind ≡ 0 → behind ≡ []
nothing_left was [] none = refl
nothing_left was (b ∷ behind) none = absurd (omega (arith, none))

-- a whole repair
pub whole_repair : (first : ℕ) (es : List Entry) (at room : ℕ) (blank d new : List ℕ) → said first d ≡ Some es → at ≡ length (fed (lines_of d)) → room ≡ length (tail_of d) → blank ≡ zeros room
    → Written at blank d new → Rests first es new at room
whole_repair first es at room blank d new entries at_is room_is blank_is written =
    let s = said_parts first es d entries in
    let w = whole d in
    let same : length (fed (lines_of d)) ≡ length written.front = sym (written.at_is ∙ at_is) in
    let parts : fed (lines_of d) ++ tail_of d ≡ written.front ++ (written.was ++ written.behind) = sym w.0 ∙ written.old_is in
    let front_is = cut_front (fed (lines_of d)) (tail_of d) written.front (written.was ++ written.behind) same parts in
    let tail_is = cut_behind (fed (lines_of d)) (tail_of d) written.front (written.was ++ written.behind) same parts in
    let all : written.behind ≡ [] = nothing_left written.was written.behind (omega (arith, written.same_length, ap length blank_is, length_zeros room, room_is, ap length tail_is, length-append written.was written.behind)) in
    let new_is : new ≡ fed (lines_of d) ++ zeros room =
    written.new_is ∙ (λ i. (sym front_is) i ++ (blank_is i ++ all i)) ∙ ap (λ (l : List ℕ). fed (lines_of d) ++ l) (append-nil (zeros room)) in
    let r = rests first es new (lines_of d) room s.each s.says new_is in
    record { entries = r.entries; end_is = at_is ∙ r.end_is; blank = r.blank }

-- a repair that a crash cuts short
pub torn_repair : (first : ℕ) (es batch : List Entry) (at room : ℕ) (blank d c : List ℕ) → said first d ≡ Some es → at ≡ length (fed (lines_of d)) → room ≡ length (tail_of d) → blank ≡ zeros room
    → Over at blank d c → IsBetween first es batch c
torn_repair first es batch at room blank d c entries at_is room_is blank_is over =
    let s = said_parts first es d entries in
    let w = whole d in
    let same : length (fed (lines_of d)) ≡ length over.front = sym (over.at_is ∙ at_is) in
    let parts : fed (lines_of d) ++ tail_of d ≡ over.front ++ (over.was ++ over.behind) = sym w.0 ∙ over.old_is in
    let front_is = cut_front (fed (lines_of d)) (tail_of d) over.front (over.was ++ over.behind) same parts in
    let tail_is = cut_behind (fed (lines_of d)) (tail_of d) over.front (over.was ++ over.behind) same parts in
    let long : length over.was ≡ length blank = length_either blank over.was over.now over.either in
    let all : over.behind ≡ [] = nothing_left over.was over.behind (omega (arith, long, ap length blank_is, length_zeros room, room_is, ap length tail_is, length-append over.was over.behind)) in
    let was_is : over.was ≡ tail_of d = sym (append-nil over.was) ∙ ap (λ (l : List ℕ). over.was ++ l) (sym all) ∙ sym tail_is in
    let either : IsEither (zeros (length (tail_of d))) (tail_of d) over.now =
    subst (λ (t : List ℕ). IsEither (zeros (length (tail_of d))) t over.now) was_is (subst (λ (b : List ℕ). IsEither b over.was over.now) (blank_is ∙ ap zeros room_is) over.either) in
    let c_is : c ≡ fed (lines_of d) ++ over.now =
    over.new_is ∙ (λ i. (sym front_is) i ++ (over.now ++ all i)) ∙ ap (λ (l : List ℕ). fed (lines_of d) ++ l) (append-nil over.now) in
    unchanged first es batch c (shape_said first es c (record {
      lines = lines_of d;
      tail = over.now;
      is = c_is;
      each = s.each;
      says = s.says;
      none = zeroed false (tail_of d) over.now s.none either;
      torn = zeroed_torn (first + length es) (tail_of d) over.now s.torn either;
    }))
