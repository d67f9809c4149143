-- What is read of lines that a crash tore.
use Rattle.std.proofs.Common.{◌≡◌, ◌⊎◌, inl, inr, ⊎_elim, ℕ, true, suc, ◌≤◌, List, [], ◌∷◌, ◌++◌, length, take, refl, sym, ◌∙◌, ap, subst, arith, append_assoc}
use Rattle.std.specs.List.{AllByRecursion}
use Rattle.std.proofs.lemmas.Bool.Decides.{nat_tests}
use Rattle.journal.specs.Recovery.{begins_torn}
use Rattle.journal.specs.Tails.{with_first, lines_from, lines_of, fed, IsPlainByte, IsLine, IsMixed}

-- a byte of a line goes in front of the first line
pub plain_first : (b : ℕ) (bs : List ℕ) → IsPlainByte b → lines_from true (b ∷ bs) ≡ with_first b (lines_from true bs)
plain_first b bs plain = grind (arith, nat_tests, plain.0, plain.1)

-- the rest of a line, and what stands behind it
rest_first : (line rest : List ℕ) → IsLine line → lines_from true (line ++ 10 ∷ rest) ≡ line ∷ lines_of rest
rest_first [] rest plain = refl
rest_first (b ∷ line) rest plain = plain_first b (line ++ 10 ∷ rest) plain.0 ∙ ap (with_first b) (rest_first line rest plain.1)

-- a whole line, and what stands behind it
pub whole_first : (line rest : List ℕ) → IsLine line → lines_of (10 ∷ (line ++ 10 ∷ rest)) ≡ line ∷ lines_of rest
whole_first line rest plain = rest_first line rest plain

-- whole lines, and what stands behind them
pub whole_lines : (lines : List (List ℕ)) (rest : List ℕ) → AllByRecursion IsLine lines → lines_of (fed lines ++ rest) ≡ lines ++ lines_of rest
whole_lines [] rest each = refl
whole_lines (line ∷ lines) rest each =
    ap (λ (l : List ℕ). lines_of (10 ∷ l)) (append_assoc line (10 ∷ fed lines) rest)
    ∙ whole_first line (fed lines ++ rest) each.0
    ∙ ap (λ (ls : List (List ℕ)). line ∷ ls) (whole_lines lines rest each.1)

-- a line that was written over zeros is whole, or it is not read, nor what stands behind it: from a byte of it on
mixed_rest : (line c rest : List ℕ) → IsLine line → IsMixed (line ++ 10 ∷ []) c → (c ≡ line ++ 10 ∷ []) ⊎ (lines_from true (c ++ rest) ≡ [])
mixed_rest [] [] rest plain mixed = absurd mixed
mixed_rest [] (x ∷ []) rest plain mixed = ⊎_elim (λ z. inr (ap (λ (y : ℕ). lines_from true (y ∷ rest)) z)) (λ n. inl (ap (λ (y : ℕ). y ∷ []) n)) mixed.0
mixed_rest [] (x ∷ y ∷ c) rest plain mixed = absurd mixed.1
mixed_rest (b ∷ line) [] rest plain mixed = absurd mixed
mixed_rest (b ∷ line) (x ∷ c) rest plain mixed =
    ⊎_elim
    (λ z. inr (ap (λ (y : ℕ). lines_from true (y ∷ c ++ rest)) z))
    (λ n. ⊎_elim
    (λ whole. inl ((λ i. n i ∷ whole i)))
    (λ none. inr (ap (λ (y : ℕ). lines_from true (y ∷ c ++ rest)) n ∙ plain_first b (c ++ rest) plain.0 ∙ ap (with_first b) none))
    (mixed_rest line c rest plain.1 mixed.1))
    mixed.0

-- and from its line feed on
mixed_line : (line c rest : List ℕ) → IsLine line → IsMixed (10 ∷ (line ++ 10 ∷ [])) c → (c ≡ 10 ∷ (line ++ 10 ∷ [])) ⊎ (lines_of (c ++ rest) ≡ [])
mixed_line line [] rest plain mixed = absurd mixed
mixed_line line (x ∷ c) rest plain mixed =
    ⊎_elim
    (λ z. inr (ap (λ (y : ℕ). lines_of (y ∷ c ++ rest)) z))
    (λ n. ⊎_elim
    (λ whole. inl ((λ i. n i ∷ whole i)))
    (λ none. inr (ap (λ (y : ℕ). lines_of (y ∷ c ++ rest)) n ∙ none))
    (mixed_rest line c rest plain mixed.1))
    mixed.0

-- what is mixed in parts
record Parts (a b c : List ℕ) : Type 0 where
  pub first : List ℕ
  pub second : List ℕ
  pub is : c ≡ first ++ second
  pub of_first : IsMixed a first
  pub of_second : IsMixed b second

parts : (a b c : List ℕ) → IsMixed (a ++ b) c → Parts a b c
parts [] b c mixed = record { first = []; second = c; is = refl; of_first = tt; of_second = mixed }
parts (x ∷ a) b [] mixed = absurd mixed
parts (x ∷ a) b (y ∷ c) mixed =
    let p = parts a b c mixed.1 in
    record { first = y ∷ p.first; second = p.second; is = ap (λ (l : List ℕ). y ∷ l) p.is; of_first = (mixed.0, p.of_first); of_second = p.of_second }

-- the first of some lines, and a tail with no whole line in front
pub record AreFirst (lines : List (List ℕ)) (bytes : List ℕ) : Type 0 where
  pub count : ℕ
  pub within : count ≤ length lines
  pub tail : List ℕ
  pub is : bytes ≡ fed (take count lines) ++ tail
  pub none : lines_of tail ≡ []
  pub begins : begins_torn tail ≡ true

mixed_begins : (line : List ℕ) (lines : List (List ℕ)) (c rest : List ℕ) → IsMixed (fed (line ∷ lines)) c → begins_torn (c ++ rest) ≡ true
mixed_begins line lines [] rest mixed = absurd mixed
mixed_begins line lines (x ∷ c) rest mixed =
    ⊎_elim
    (λ z. ap (λ (y : ℕ). begins_torn (y ∷ c ++ rest)) z)
    (λ f. ap (λ (y : ℕ). begins_torn (y ∷ c ++ rest)) f)
    mixed.0

-- Lines that were written over zeros: the first of them are whole, in their order, and no other stands behind them.
pub mixed_lines : (lines : List (List ℕ)) (c rest : List ℕ) → AllByRecursion IsLine lines → IsMixed (fed lines) c → AreFirst lines (c ++ 0 ∷ rest)
mixed_lines [] [] rest each mixed = record { count = 0; within = omega arith; tail = 0 ∷ rest; is = refl; none = refl; begins = refl }
mixed_lines [] (x ∷ c) rest each mixed = absurd mixed
mixed_lines (line ∷ lines) c rest each mixed =
    let p = parts (10 ∷ (line ++ 10 ∷ [])) (fed lines) c (subst (λ (t : List ℕ). IsMixed (10 ∷ t) c) (sym (append_assoc line (10 ∷ []) (fed lines))) mixed) in
    let whole_is : c ++ 0 ∷ rest ≡ p.first ++ (p.second ++ 0 ∷ rest) = ap (λ (t : List ℕ). t ++ 0 ∷ rest) p.is ∙ append_assoc p.first p.second (0 ∷ rest) in
    ⊎_elim
    (λ whole.
    let more = mixed_lines lines p.second rest each.1 p.of_second in
    record {
      count = suc more.count;
      within = omega (arith, more.within);
      tail = more.tail;
      is = whole_is ∙ ap (λ (t : List ℕ). t ++ (p.second ++ 0 ∷ rest)) whole
          ∙ ap (λ (t : List ℕ). 10 ∷ t) (append_assoc line (10 ∷ []) (p.second ++ 0 ∷ rest))
          ∙ ap (λ (t : List ℕ). 10 ∷ (line ++ 10 ∷ t)) more.is
          ∙ ap (λ (t : List ℕ). 10 ∷ t) (sym (append_assoc line (10 ∷ fed (take more.count lines)) more.tail));
      none = more.none;
      begins = more.begins;
    })
    (λ none. record {
      count = 0;
      within = omega arith;
      tail = c ++ 0 ∷ rest;
      is = refl;
      none = ap lines_of whole_is ∙ none;
      begins = mixed_begins line lines c (0 ∷ rest) mixed;
    })
    (mixed_line line p.first (p.second ++ 0 ∷ rest) each.0 p.of_first)
