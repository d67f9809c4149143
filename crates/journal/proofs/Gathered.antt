-- Lines read one after the other, as a loop does.
use Rattle.std.proofs.Common.{◌≡◌, inl, inr, ℕ, ◌+◌, ◌<◌, true, false, List, [], ◌∷◌, ◌++◌, length, Option, Some, None, refl, sym, ap, subst, ◌∙◌, append_assoc, length-append, arith}
use Rattle.std.specs.Prelude.{◌==◌}
use Rattle.std.proofs.lemmas.List.{append-nil}
use Rattle.std.proofs.lemmas.Bool.{cases_eq}
use Rattle.std.proofs.lemmas.Bool.Decides.{nat_tests}
use Rattle.journal.specs.declared.entries.Entry.{Entry}
use Rattle.journal.specs.Tails.{lines_from, lines_of}
use Rattle.journal.specs.Reading.{◌>>=◌, piece_at, line_at}
use Rattle.journal.specs.Recovery.{entry_at, recovered}

-- the rest of a line that is read, or none
abbrev AreLines : List ℕ → Option (List ℕ × List ℕ) → Type 0
AreLines bytes None = lines_from true bytes ≡ []
AreLines bytes (Some x) = (lines_from true bytes ≡ x.0 ∷ lines_of x.1) × (bytes ≡ x.0 ++ 10 ∷ x.1)

more : (b : ℕ) (bs : List ℕ) (read : Option (List ℕ × List ℕ)) → AreLines bs read → (b == 0) ≡ false → (b == 10) ≡ false
    → AreLines (b ∷ bs) (read >>= λ x. Some (b ∷ x.0, x.1))
more b bs None are z f = rw (z, f, are) refl
more b bs (Some x) are z f = (rw (z, f, are.0) refl, ap (λ (l : List ℕ). b ∷ l) are.1)

rest_by_piece : (bytes : List ℕ) → AreLines bytes (piece_at 10 bytes)
rest_by_piece [] = refl
rest_by_piece (b ∷ bs) = elim (cases_eq b 0) [
  | inl is ↦ subst (λ (n : ℕ). AreLines (n ∷ bs) (piece_at 10 (n ∷ bs))) (sym is) refl
  | inr not_zero ↦ elim (cases_eq b 10) [
    | inl is ↦ subst (λ (n : ℕ). AreLines (n ∷ bs) (piece_at 10 (n ∷ bs))) (sym is) (refl, refl)
    | inr not_feed ↦
        let z : (b == 0) ≡ false = grind (arith, nat_tests, not_zero) in
        let f : (b == 10) ≡ false = grind (arith, nat_tests, not_feed) in
        subst (λ (r : Option (List ℕ × List ℕ)). AreLines (b ∷ bs) r) (sym (rw (z, f) refl)) (more b bs (piece_at 10 bs) (rest_by_piece bs) z f)
  ]
]

-- a line that is read, or none
abbrev AreLinesOf : List ℕ → Option (List ℕ × List ℕ) → Type 0
AreLinesOf bytes None = lines_of bytes ≡ []
AreLinesOf bytes (Some x) = (lines_of bytes ≡ x.0 ∷ lines_of x.1) × (bytes ≡ 10 ∷ (x.0 ++ 10 ∷ x.1))

behind_feed : (bs : List ℕ) (read : Option (List ℕ × List ℕ)) → AreLines bs read → AreLinesOf (10 ∷ bs) read
behind_feed bs None are = are
behind_feed bs (Some x) are = (are.0, ap (λ (l : List ℕ). 10 ∷ l) are.1)

lines_by_piece : (bytes : List ℕ) → AreLinesOf bytes (line_at bytes)
lines_by_piece [] = refl
lines_by_piece (b ∷ bs) = elim (cases_eq b 10) [
  | inl is ↦ subst (λ (n : ℕ). AreLinesOf (n ∷ bs) (line_at (n ∷ bs))) (sym is) (behind_feed bs (piece_at 10 bs) (rest_by_piece bs))
  | inr not_feed ↦
      let f : (b == 10) ≡ false = grind (arith, nat_tests, not_feed) in
      let none : line_at (b ∷ bs) ≡ None = rw f refl in
      let no_lines : lines_of (b ∷ bs) ≡ [] = rw f refl in
      subst (λ (r : Option (List ℕ × List ℕ)). AreLinesOf (b ∷ bs) r) (sym none) no_lines
]

pub piece_some : (bytes line behind : List ℕ) → line_at bytes ≡ Some (line, behind) → (lines_of bytes ≡ line ∷ lines_of behind) × (bytes ≡ 10 ∷ (line ++ 10 ∷ behind))
piece_some bytes line behind is = subst (AreLinesOf bytes) is (lines_by_piece bytes)

pub shorter : (bytes line behind : List ℕ) → line_at bytes ≡ Some (line, behind) → length behind < length bytes
shorter bytes line behind is =
    let p = piece_some bytes line behind is in
    omega (arith, ap length p.1, length-append line (10 ∷ behind))

pub piece_none : (bytes : List ℕ) → line_at bytes ≡ None → lines_of bytes ≡ []
piece_none bytes is = subst (AreLinesOf bytes) is (lines_by_piece bytes)

-- what was read before, and what is still read
abbrev pub with_front : List Entry → Option (List Entry) → Option (List Entry)
with_front front read = read >>= λ es. Some (front ++ es)

regroup : (front : List Entry) (e : Entry) (read : Option (List Entry)) → with_front front (read >>= λ es. Some (e ∷ es)) ≡ with_front (front ++ e ∷ []) read
regroup front e (Some es) = ap (λ (xs : List Entry). Some xs) (simp append_assoc)
regroup front e None = refl

-- nothing was read before
pub begun : (first : ℕ) (bytes : List ℕ) (read : Option (List Entry)) → recovered first bytes ≡ read → with_front [] (recovered (first + 0) bytes) ≡ recovered first bytes
begun first bytes read is =
    ap (λ (n : ℕ). with_front [] (recovered n bytes)) (omega arith) ∙ ap (with_front []) is ∙ nothing read ∙ sym is
  where
    nothing : (read : Option (List Entry)) → with_front [] read ≡ read
    nothing None = refl
    nothing (Some es) = refl

-- a line more was read
pub goes_on : (first : ℕ) (front : List Entry) (rest line behind : List ℕ) (e : Entry) (total : Option (List Entry)) → line_at rest ≡ Some (line, behind) → entry_at (first + length front) line ≡ Some e
    → with_front front (recovered (first + length front) rest) ≡ total → with_front (front ++ e ∷ []) (recovered (first + length (front ++ e ∷ [])) behind) ≡ total
goes_on first front rest line behind e total piece entry so_far =
    let n : ℕ = first + length front in
    let one : with_front front (recovered (first + length front) rest) ≡ with_front (front ++ e ∷ []) (recovered (first + length front + 1) behind) =
    rw ((piece_some rest line behind piece).0, entry) (regroup front e (recovered (first + length front + 1) behind)) in
    let next : first + length (front ++ e ∷ []) ≡ first + length front + 1 = omega (arith, length-append front (e ∷ [])) in
    ap (λ (n : ℕ). with_front (front ++ e ∷ []) (recovered n behind)) next ∙ sym one ∙ so_far

-- a line says none
pub ends : (number : ℕ) (front : List Entry) (rest line behind : List ℕ) (total : Option (List Entry)) → line_at rest ≡ Some (line, behind) → entry_at number line ≡ None
    → with_front front (recovered number rest) ≡ total → total ≡ None
ends number front rest line behind total piece none so_far =
    let one : with_front front (recovered number rest) ≡ None = rw ((piece_some rest line behind piece).0, none) refl in
    sym so_far ∙ one

-- no line is left
pub is_done : (number : ℕ) (front : List Entry) (rest : List ℕ) (total : Option (List Entry)) → line_at rest ≡ None → with_front front (recovered number rest) ≡ total → total ≡ Some front
is_done number front rest total none so_far =
    let one : with_front front (recovered number rest) ≡ Some front = rw (piece_none rest none) (ap (λ (es : List Entry). Some es) (append-nil front)) in
    sym so_far ∙ one
