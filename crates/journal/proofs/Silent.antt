-- What a crash leaves behind the lines says nothing of a commit that is missing.
use Rattle.std.proofs.Common.{◌≡◌, ◌≢◌, ◌⊎◌, inl, inr, ⊎_elim, ℕ, zero, suc, ◌≤◌, true, false, List, [], ◌∷◌, ◌++◌, length, Option, Some, None, refl, sym, ◌∙◌, ap, subst, arith}
use Rattle.std.specs.Prelude.{map, nat_lt, ◌==◌}
use Rattle.std.specs.List.{AllByRecursion}
use Rattle.std.proofs.lemmas.Bool.{cases_eq, and_from, and_parts}
use Rattle.std.proofs.lemmas.Bool.Decides.{nat_tests}
use Rattle.journal.specs.declared.entries.Entry.{Entry}
use Rattle.journal.specs.Spelling as spelled
use Rattle.journal.specs.Tails.{zeros, fed, IsPlainByte, IsLine, IsMixed}
use Rattle.journal.specs.Device.{IsEither}
use Rattle.journal.specs.Fitting.{FitsEntry, IsBefore}
use Rattle.journal.specs.Reading.{◌>>=◌, piece_at, entry_of, body_at}
use Rattle.journal.specs.Recovery.{is_before, is_silent_at, is_silent, begins_torn, is_torn}
use Rattle.journal.proofs.Again.{entry_again}

-- the line says nothing of commit n
abbrev pub IsQuiet : ℕ → List ℕ → Type 0
IsQuiet n line = is_before n (entry_of line) ≡ true

-- ---- what stands in front

-- no line begins at a zero, nor at a byte of a line
at_other : (n b : ℕ) (bs : List ℕ) → b ≢ 10 → is_silent_at n (b ∷ bs) ≡ true
unfolding is_silent_at
at_other n b bs isnt =
    let f : (b == 10) ≡ false = grind (arith, nat_tests, isnt) in
    rw f refl

at_zero : (n : ℕ) (bs : List ℕ) → is_silent_at n (0 ∷ bs) ≡ true
at_zero n bs = at_other n 0 bs (λ e. absurd (omega (arith, e)))

-- a line feed with no whole line behind it
at_none : (n : ℕ) (bs : List ℕ) → piece_at 10 bs ≡ None → is_silent_at n (10 ∷ bs) ≡ true
unfolding is_silent_at
at_none n bs none = ap (λ (r : Option (List ℕ × List ℕ)). is_before n (r >>= λ x. entry_of x.0)) none

-- and one with a line
at_line : (n : ℕ) (bs line behind : List ℕ) → piece_at 10 bs ≡ Some (line, behind) → is_silent_at n (10 ∷ bs) ≡ is_before n (entry_of line)
unfolding is_silent_at
at_line n bs line behind some = ap (λ (r : Option (List ℕ × List ℕ)). is_before n (r >>= λ x. entry_of x.0)) some

-- an empty line is no commit
empty_quiet : (n : ℕ) → IsQuiet n []
unfolding entry_of body_at
empty_quiet n = refl

-- ---- of lines that were written over zeros

-- a line that was written over zeros is whole, or none is there
record Found (line bytes : List ℕ) : Type 0 where
  pub behind : List ℕ
  pub is : piece_at 10 bytes ≡ Some (line, behind)

plain_piece : (b : ℕ) (bs : List ℕ) → IsPlainByte b → piece_at 10 (b ∷ bs) ≡ (piece_at 10 bs >>= λ x. Some (b ∷ x.0, x.1))
plain_piece b bs plain =
    let z : (b == 0) ≡ false = grind (arith, nat_tests, plain.0) in
    let f : (b == 10) ≡ false = grind (arith, nat_tests, plain.1) in
    rw (z, f) refl

mixed_piece : (line behind c rest : List ℕ) → IsLine line → IsMixed (line ++ 10 ∷ behind) c → (piece_at 10 (c ++ rest) ≡ None) ⊎ Found line (c ++ rest)
mixed_piece [] behind [] rest plain mixed = absurd mixed
mixed_piece [] behind (x ∷ c) rest plain mixed =
    ⊎_elim
    (λ z. inl (ap (λ (y : ℕ). piece_at 10 (y ∷ c ++ rest)) z))
    (λ f. inr (record { behind = c ++ rest; is = ap (λ (y : ℕ). piece_at 10 (y ∷ c ++ rest)) f }))
    mixed.0
mixed_piece (b ∷ line) behind [] rest plain mixed = absurd mixed
mixed_piece (b ∷ line) behind (x ∷ c) rest plain mixed =
    ⊎_elim
    (λ z. inl (ap (λ (y : ℕ). piece_at 10 (y ∷ c ++ rest)) z))
    (λ same. ⊎_elim
    (λ none. inl (ap (λ (y : ℕ). piece_at 10 (y ∷ c ++ rest)) same ∙ plain_piece b (c ++ rest) plain.0
    ∙ ap (λ (r : Option (List ℕ × List ℕ)). r >>= λ p. Some (b ∷ p.0, p.1)) none))
    (λ found. inr (record {
      behind = found.behind;
      is = ap (λ (y : ℕ). piece_at 10 (y ∷ c ++ rest)) same ∙ plain_piece b (c ++ rest) plain.0
          ∙ ap (λ (r : Option (List ℕ × List ℕ)). r >>= λ p. Some (b ∷ p.0, p.1)) found.is;
    }))
    (mixed_piece line behind c rest plain.1 mixed.1))
    mixed.0

-- what stands at a line's first line feed
at_mixed : (n : ℕ) (line behind c rest : List ℕ) → IsLine line → IsQuiet n line → IsMixed (line ++ 10 ∷ behind) c → is_silent_at n (10 ∷ c ++ rest) ≡ true
at_mixed n line behind c rest plain quiet mixed =
    ⊎_elim
    (λ none. at_none n (c ++ rest) none)
    (λ found. at_line n (c ++ rest) line found.behind found.is ∙ quiet)
    (mixed_piece line behind c rest plain mixed)

-- what stands at its last
at_last : (n : ℕ) (lines : List (List ℕ)) (c rest : List ℕ) → IsMixed (fed lines) c → is_silent_at n (10 ∷ c ++ 0 ∷ rest) ≡ true
at_last n [] [] rest mixed = at_none n (0 ∷ rest) refl
at_last n [] (x ∷ c) rest mixed = absurd mixed
at_last n (line ∷ lines) [] rest mixed = absurd mixed
at_last n (line ∷ lines) (x ∷ c) rest mixed =
    ⊎_elim
    (λ z. at_none n (x ∷ c ++ 0 ∷ rest) (ap (λ (y : ℕ). piece_at 10 (y ∷ c ++ 0 ∷ rest)) z))
    (λ f. at_line n (x ∷ c ++ 0 ∷ rest) [] (c ++ 0 ∷ rest) (ap (λ (y : ℕ). piece_at 10 (y ∷ c ++ 0 ∷ rest)) f) ∙ empty_quiet n)
    mixed.0

mutual
  -- lines that a crash tore over zeros, from their beginning on
  pub torn_silent : (n : ℕ) (c rest : List ℕ) (lines : List (List ℕ)) → AllByRecursion IsLine lines → AllByRecursion (IsQuiet n) lines → IsMixed (fed lines) c → is_silent n rest ≡ true
      → is_silent n (c ++ 0 ∷ rest) ≡ true
  torn_silent n [] rest [] plain quiet mixed silent = and_from (is_silent_at n (0 ∷ rest)) (is_silent n rest) (at_zero n rest) silent
  torn_silent n [] rest (line ∷ lines) plain quiet mixed silent = absurd mixed
  torn_silent n (x ∷ c) rest [] plain quiet mixed silent = absurd mixed
  torn_silent n (x ∷ c) rest (line ∷ lines) plain quiet mixed silent =
      and_from (is_silent_at n (x ∷ c ++ 0 ∷ rest)) (is_silent n (c ++ 0 ∷ rest))
      (⊎_elim
      (λ z. subst (λ (y : ℕ). is_silent_at n (y ∷ c ++ 0 ∷ rest) ≡ true) (sym z) (at_zero n (c ++ 0 ∷ rest)))
      (λ f. subst (λ (y : ℕ). is_silent_at n (y ∷ c ++ 0 ∷ rest) ≡ true) (sym f) (at_mixed n line (fed lines) c (0 ∷ rest) plain.0 quiet.0 mixed.1))
      mixed.0)
      (inside_silent n c rest line lines plain.0 plain.1 quiet.1 mixed.1 silent)

  -- and from a byte of a line on
  inside_silent : (n : ℕ) (c rest line : List ℕ) (lines : List (List ℕ)) → IsLine line → AllByRecursion IsLine lines → AllByRecursion (IsQuiet n) lines → IsMixed (line ++ 10 ∷ fed lines) c → is_silent n rest ≡ true
      → is_silent n (c ++ 0 ∷ rest) ≡ true
  inside_silent n [] rest [] lines plain more quiet mixed silent = absurd mixed
  inside_silent n [] rest (b ∷ line) lines plain more quiet mixed silent = absurd mixed
  inside_silent n (x ∷ c) rest [] lines plain more quiet mixed silent =
      and_from (is_silent_at n (x ∷ c ++ 0 ∷ rest)) (is_silent n (c ++ 0 ∷ rest))
      (⊎_elim
      (λ z. subst (λ (y : ℕ). is_silent_at n (y ∷ c ++ 0 ∷ rest) ≡ true) (sym z) (at_zero n (c ++ 0 ∷ rest)))
      (λ f. subst (λ (y : ℕ). is_silent_at n (y ∷ c ++ 0 ∷ rest) ≡ true) (sym f) (at_last n lines c rest mixed.1))
      mixed.0)
      (torn_silent n c rest lines more quiet mixed.1 silent)
  inside_silent n (x ∷ c) rest (b ∷ line) lines plain more quiet mixed silent =
      and_from (is_silent_at n (x ∷ c ++ 0 ∷ rest)) (is_silent n (c ++ 0 ∷ rest))
      (⊎_elim
      (λ z. subst (λ (y : ℕ). is_silent_at n (y ∷ c ++ 0 ∷ rest) ≡ true) (sym z) (at_zero n (c ++ 0 ∷ rest)))
      (λ same. subst (λ (y : ℕ). is_silent_at n (y ∷ c ++ 0 ∷ rest) ≡ true) (sym same) (at_other n b (c ++ 0 ∷ rest) plain.0.1))
      mixed.0)
      (inside_silent n c rest line lines plain.1 more quiet mixed.1 silent)

-- where all is silent, each end of it is
pub silent_behind : (n : ℕ) (front bytes : List ℕ) → is_silent n (front ++ bytes) ≡ true → is_silent n bytes ≡ true
silent_behind n [] bytes silent = silent
silent_behind n (b ∷ front) bytes silent =
    let p = and_parts (is_silent_at n (b ∷ front ++ bytes)) (is_silent n (front ++ bytes)) silent in
    silent_behind n front bytes p.1

pub zeros_silent : (n count : ℕ) → is_silent n (zeros count) ≡ true
zeros_silent n zero = refl
zeros_silent n (suc count) = and_from (is_silent_at n (0 ∷ zeros count)) (is_silent n (zeros count)) (at_zero n (zeros count)) (zeros_silent n count)

-- zeros may stand where any commit would
pub zeros_torn : (n count : ℕ) → is_torn n (zeros count) ≡ true
zeros_torn n zero = refl
zeros_torn n (suc count) = zeros_silent n (suc count)

-- the lines of a batch say nothing of a commit from theirs on
pub batch_quiet : (least n : ℕ) (es : List Entry) → AllByRecursion FitsEntry es → AllByRecursion (IsBefore least) es → least ≤ n → AllByRecursion (IsQuiet n) (map spelled.line es)
batch_quiet least n [] fit before le = tt
batch_quiet least n (e ∷ es) fit before le =
    let lt : nat_lt e.durable n ≡ true = grind (arith, nat_tests, before.0, le) in
    (ap (is_before n) (entry_again e fit.0) ∙ lt, batch_quiet least n es fit.1 before.1 le)

-- ---- where zeros were written over some bytes

record Same (was now : List ℕ) : Type 0 where
  pub line : List ℕ
  pub was_behind : List ℕ
  pub now_behind : List ℕ
  pub was_is : piece_at 10 was ≡ Some (line, was_behind)
  pub now_is : piece_at 10 now ≡ Some (line, now_behind)

one_more : (w : ℕ) (was now : List ℕ) → IsPlainByte w → (piece_at 10 now ≡ None) ⊎ Same was now → (piece_at 10 (w ∷ now) ≡ None) ⊎ Same (w ∷ was) (w ∷ now)
one_more w was now plain (inl none) =
    inl (plain_piece w now plain ∙ ap (λ (r : Option (List ℕ × List ℕ)). r >>= λ p. Some (w ∷ p.0, p.1)) none)
one_more w was now plain (inr s) = inr (record {
  line = w ∷ s.line;
  was_behind = s.was_behind;
  now_behind = s.now_behind;
  was_is = plain_piece w was plain ∙ ap (λ (r : Option (List ℕ × List ℕ)). r >>= λ p. Some (w ∷ p.0, p.1)) s.was_is;
  now_is = plain_piece w now plain ∙ ap (λ (r : Option (List ℕ × List ℕ)). r >>= λ p. Some (w ∷ p.0, p.1)) s.now_is;
})

kept_piece : (w : ℕ) (was now : List ℕ) → (piece_at 10 now ≡ None) ⊎ Same was now → (piece_at 10 (w ∷ now) ≡ None) ⊎ Same (w ∷ was) (w ∷ now)
kept_piece w was now behind = elim (cases_eq w 0) [
  | inl is ↦ inl (ap (λ (y : ℕ). piece_at 10 (y ∷ now)) is)
  | inr not_zero ↦ elim (cases_eq w 10) [
    | inl is ↦ inr (record {
      line = [];
      was_behind = was;
      now_behind = now;
      was_is = ap (λ (y : ℕ). piece_at 10 (y ∷ was)) is;
      now_is = ap (λ (y : ℕ). piece_at 10 (y ∷ now)) is;
    })
    | inr not_feed ↦ one_more w was now (not_zero, not_feed) behind
  ]
]

-- a line that is whole was whole before
zeroed_piece : (was now : List ℕ) → IsEither (zeros (length was)) was now → (piece_at 10 now ≡ None) ⊎ Same was now
zeroed_piece [] [] either = inl refl
zeroed_piece [] (c ∷ now) either = absurd either
zeroed_piece (w ∷ was) [] either = absurd either
zeroed_piece (w ∷ was) (c ∷ now) either =
    ⊎_elim
    (λ old. subst (λ (y : ℕ). (piece_at 10 (y ∷ now) ≡ None) ⊎ Same (w ∷ was) (y ∷ now)) (sym old) (kept_piece w was now (zeroed_piece was now either.1)))
    (λ new. inl (ap (λ (y : ℕ). piece_at 10 (y ∷ now)) new))
    either.0

kept_at : (n w : ℕ) (was now : List ℕ) → is_silent_at n (w ∷ was) ≡ true → (piece_at 10 now ≡ None) ⊎ Same was now → is_silent_at n (w ∷ now) ≡ true
kept_at n w was now silent behind = elim (cases_eq w 10) [
  | inl is ↦
      let at_feed : is_silent_at n (10 ∷ was) ≡ true = subst (λ (y : ℕ). is_silent_at n (y ∷ was) ≡ true) is silent in
      subst (λ (y : ℕ). is_silent_at n (y ∷ now) ≡ true) (sym is)
      (⊎_elim (λ none. at_none n now none) (λ s. at_line n now s.line s.now_behind s.now_is ∙ sym (at_line n was s.line s.was_behind s.was_is) ∙ at_feed) behind)
  | inr isnt ↦ at_other n w now isnt
]

zeroed_silent : (n : ℕ) (was now : List ℕ) → is_silent n was ≡ true → IsEither (zeros (length was)) was now → is_silent n now ≡ true
zeroed_silent n [] [] silent either = refl
zeroed_silent n [] (c ∷ now) silent either = absurd either
zeroed_silent n (w ∷ was) [] silent either = absurd either
zeroed_silent n (w ∷ was) (c ∷ now) silent either =
    let p = and_parts (is_silent_at n (w ∷ was)) (is_silent n was) silent in
    and_from (is_silent_at n (c ∷ now)) (is_silent n now)
    (⊎_elim
    (λ old. subst (λ (y : ℕ). is_silent_at n (y ∷ now) ≡ true) (sym old) (kept_at n w was now p.0 (zeroed_piece was now either.1)))
    (λ new. subst (λ (y : ℕ). is_silent_at n (y ∷ now) ≡ true) (sym new) (at_zero n now))
    either.0)
    (zeroed_silent n was now p.1 either.1)

zeroed_begins : (was now : List ℕ) → begins_torn was ≡ true → IsEither (zeros (length was)) was now → begins_torn now ≡ true
zeroed_begins [] [] begins either = refl
zeroed_begins [] (c ∷ now) begins either = absurd either
zeroed_begins (w ∷ was) [] begins either = absurd either
zeroed_begins (w ∷ was) (c ∷ now) begins either =
    ⊎_elim
    (λ old. subst (λ (y : ℕ). begins_torn (y ∷ now) ≡ true) (sym old) begins)
    (λ new. subst (λ (y : ℕ). begins_torn (y ∷ now) ≡ true) (sym new) refl)
    either.0

-- where some bytes of a crash's tail are zero now, it is a crash's still
pub zeroed_torn : (n : ℕ) (was now : List ℕ) → is_torn n was ≡ true → IsEither (zeros (length was)) was now → is_torn n now ≡ true
zeroed_torn n was now torn either =
    let p = and_parts (begins_torn was) (is_silent n was) torn in
    and_from (begins_torn now) (is_silent n now) (zeroed_begins was now p.0 either) (zeroed_silent n was now p.1 either)
