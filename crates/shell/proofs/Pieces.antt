-- The pieces of an input that comes bit by bit.
use Rattle.std.proofs.Common.{◌≡◌, ◌≢◌, ◌+◌, ◌-◌, ◌<◌, ℕ, suc, Bool, true, false, cond, List, [], ◌∷◌, ◌++◌, length, take, get_or, refl, sym, ap, ◌∙◌, subst, append-nil, append_assoc, arith}
use Rattle.std.specs.Prelude.{◌==◌}
use Rattle.std.specs.Io.{StopsAt}
use Rattle.std.proofs.lemmas.Bool.{eqb-true}
use Rattle.std.proofs.lemmas.List.{length-append}
use Rattle.std.proofs.Math.Seq.{take-append_seam}
use Rattle.shell.specs.declared.cutting.Place.{Place}
use Rattle.shell.specs.declared.cutting.Place.TheVariants.{Plain, Dash, Comment, Quote, End}
use Rattle.shell.specs.Cuts.{Piece, Rest, after, behind, piece_at_end, forward, pieces_of, rest_of, scan, whole_of, with_byte}

abbrev pub piece_at : ℕ → List ℕ → Piece
piece_at at bytes = record { at = at; bytes = bytes }

abbrev pub rest_at : ℕ → List ℕ → Place → Rest
rest_at at bytes place = record { at = at; bytes = bytes; place = place }

pub same_pieces : (p q : Piece) → p.at ≡ q.at → p.bytes ≡ q.bytes → p ≡ q
same_pieces p q same_at same_bytes = ap (λ n. piece_at n p.bytes) same_at ∙ ap (piece_at q.at) same_bytes

pub same_rests : (r s : Rest) → r.at ≡ s.at → r.bytes ≡ s.bytes → r.place ≡ s.place → r ≡ s
same_rests r s same_at same_bytes same_place =
    ap (λ n. rest_at n r.bytes r.place) same_at ∙ ap (λ l. rest_at s.at l r.place) same_bytes ∙ ap (rest_at s.at s.bytes) same_place

-- more bytes behind the first
pub pieces_append : (rest : Rest) (xs ys : List ℕ) → pieces_of rest (xs ++ ys) ≡ pieces_of rest xs ++ pieces_of (rest_of rest xs) ys
pieces_append rest [] ys = refl
pieces_append rest (x ∷ xs) ys =
    ap (λ l. piece_at_end (after rest.place x) rest ++ l) (pieces_append (with_byte (after rest.place x) rest x) xs ys)
    ∙ sym (append_assoc (piece_at_end (after rest.place x) rest) (pieces_of (with_byte (after rest.place x) rest x) xs) (pieces_of (rest_of (with_byte (after rest.place x) rest x) xs) ys))

pub rest_append : (rest : Rest) (xs ys : List ℕ) → rest_of rest (xs ++ ys) ≡ rest_of (rest_of rest xs) ys
rest_append rest [] ys = refl
rest_append rest (x ∷ xs) ys = rest_append (with_byte (after rest.place x) rest x) xs ys

scan_append : (place : Place) (xs ys : List ℕ) → scan place (xs ++ ys) ≡ scan (scan place xs) ys
scan_append place [] ys = refl
scan_append place (x ∷ xs) ys = scan_append (after place x) xs ys

-- a byte that is no semicolon ends no piece

behind_end : (b : ℕ) → behind b ≡ End → b ≡ 59
behind_end b h = go (b == 59) (b == 39) (b == 45) refl h
  where
    go : (s q d : Bool) → (b == 59) ≡ s → cond s End (cond q Quote (cond d Dash Plain)) ≡ End → b ≡ 59
    go true q d e h = eqb-true b 59 e
    go false true d e h = let no : ⊥ = cc in absurd no
    go false false true e h = let no : ⊥ = cc in absurd no
    go false false false e h = let no : ⊥ = cc in absurd no

pub after_end : (place : Place) (b : ℕ) → after place b ≡ End → b ≡ 59
after_end Plain b h = behind_end b h
after_end End b h = behind_end b h
after_end Dash b h = go (b == 45) h
  where
    go : (d : Bool) → cond d Comment (behind b) ≡ End → b ≡ 59
    go true h = let no : ⊥ = cc in absurd no
    go false h = behind_end b h
after_end Comment b h = go (b == 10) h
  where
    go : (d : Bool) → cond d Plain Comment ≡ End → b ≡ 59
    go true h = let no : ⊥ = cc in absurd no
    go false h = let no : ⊥ = cc in absurd no
after_end Quote b h = go (b == 39) h
  where
    go : (d : Bool) → cond d Plain Quote ≡ End → b ≡ 59
    go true h = let no : ⊥ = cc in absurd no
    go false h = let no : ⊥ = cc in absurd no

-- behind a byte that ends no piece
abbrev pub longer : Place → Rest → List ℕ → Rest
longer place rest bytes = rest_at rest.at (rest.bytes ++ bytes) place

none_ended : (place : Place) (rest : Rest) → (place ≡ End → ⊥) → piece_at_end place rest ≡ []
none_ended Plain rest h = refl
none_ended Dash rest h = refl
none_ended Comment rest h = refl
none_ended Quote rest h = refl
none_ended End rest h = absurd (h refl)

byte_kept : (place : Place) (rest : Rest) (b : ℕ) → (place ≡ End → ⊥) → with_byte place rest b ≡ longer place rest (b ∷ [])
byte_kept Plain rest b h = refl
byte_kept Dash rest b h = refl
byte_kept Comment rest b h = refl
byte_kept Quote rest b h = refl
byte_kept End rest b h = absurd (h refl)

-- no piece ends among these
abbrev pub HaveNoEnd : Place → List ℕ → Type 0
HaveNoEnd place [] = Unit {0}
HaveNoEnd place (b ∷ bytes) = (after place b ≡ End → ⊥) × HaveNoEnd (after place b) bytes

pub no_end_pieces : (rest : Rest) (bytes : List ℕ) → HaveNoEnd rest.place bytes → pieces_of rest bytes ≡ []
no_end_pieces rest [] h = refl
no_end_pieces rest (b ∷ bytes) h =
    ap (λ l. l ++ pieces_of (with_byte (after rest.place b) rest b) bytes) (none_ended (after rest.place b) rest h.0)
    ∙ ap (λ r. pieces_of r bytes) (byte_kept (after rest.place b) rest b h.0)
    ∙ no_end_pieces (longer (after rest.place b) rest (b ∷ [])) bytes h.1

pub no_end_rest : (rest : Rest) (bytes : List ℕ) → HaveNoEnd rest.place bytes → rest_of rest bytes ≡ longer (scan rest.place bytes) rest bytes
no_end_rest rest [] h = ap (λ l. rest_at rest.at l rest.place) (sym (append-nil rest.bytes))
no_end_rest rest (b ∷ bytes) h =
    ap (λ r. rest_of r bytes) (byte_kept (after rest.place b) rest b h.0)
    ∙ no_end_rest (longer (after rest.place b) rest (b ∷ [])) bytes h.1
    ∙ ap (λ l. rest_at rest.at l (scan (after rest.place b) bytes)) (append_assoc rest.bytes (b ∷ []) bytes)

-- none of these is a semicolon
abbrev AreQuiet : List ℕ → Type 0
AreQuiet [] = Unit {0}
AreQuiet (b ∷ bytes) = (b ≡ 59 → ⊥) × AreQuiet bytes

quiet_no_end : (place : Place) (bytes : List ℕ) → AreQuiet bytes → HaveNoEnd place bytes
quiet_no_end place [] h = tt
quiet_no_end place (b ∷ bytes) h = ((λ e. h.0 (after_end place b e)), quiet_no_end (after place b) bytes h.1)

quiet_pieces : (rest : Rest) (bytes : List ℕ) → AreQuiet bytes → pieces_of rest bytes ≡ []
quiet_pieces rest bytes h = no_end_pieces rest bytes (quiet_no_end rest.place bytes h)

quiet_rest : (rest : Rest) (bytes : List ℕ) → AreQuiet bytes → rest_of rest bytes ≡ longer (scan rest.place bytes) rest bytes
quiet_rest rest bytes h = no_end_rest rest bytes (quiet_no_end rest.place bytes h)

-- ---- bytes of which only the last may be a semicolon

quiet_from : (bytes : List ℕ) → ((k : ℕ) (d : ℕ) → k < length bytes → get_or bytes k d ≢ 59) → AreQuiet bytes
quiet_from [] h = tt
quiet_from (b ∷ bytes) h = (h 0 0 (omega arith), quiet_from bytes (λ k d below. h (suc k) d (omega (arith, below))))

pub record IsLastOf (bytes : List ℕ) : Type 0 where
  pub front : List ℕ
  pub last : ℕ
  pub is : bytes ≡ front ++ last ∷ []

last_from : (b : ℕ) (bytes : List ℕ) → IsLastOf (b ∷ bytes)
last_from b [] = record { front = []; last = b; is = refl }
last_from b (c ∷ bytes) =
    let rest : IsLastOf (c ∷ bytes) = last_from c bytes in
    record { front = b ∷ rest.front; last = rest.last; is = ap (λ l. b ∷ l) rest.is }

last_of : (bytes : List ℕ) → bytes ≢ [] → IsLastOf bytes
last_of [] some = absurd (some refl)
last_of (b ∷ bytes) some = last_from b bytes

front_is : (front : List ℕ) (last : ℕ) → take (length (front ++ last ∷ []) - 1) (front ++ last ∷ []) ≡ front
front_is front last =
    ap (λ n. take n (front ++ last ∷ [])) (let long = length-append front (last ∷ []) in let n : length (front ++ last ∷ []) - 1 ≡ length front = omega (arith, long) in n)
    ∙ take-append_seam front (last ∷ [])

module _ (rest : Rest) (front : List ℕ) (last : ℕ) (quiet : AreQuiet front) where
  abbrev bytes : List ℕ
  bytes = front ++ last ∷ []

  abbrev place : Place
  place = scan rest.place bytes

  abbrev before : Rest
  before = longer (scan rest.place front) rest front

  place_is : after (scan rest.place front) last ≡ place
  place_is = sym (scan_append rest.place front (last ∷ []))

  pieces_are : pieces_of rest bytes ≡ piece_at_end place before
  pieces_are =
      pieces_append rest front (last ∷ []) ∙ ap (λ l. l ++ pieces_of (rest_of rest front) (last ∷ [])) (quiet_pieces rest front quiet)
      ∙ ap (λ r. pieces_of r (last ∷ [])) (quiet_rest rest front quiet)
      ∙ append-nil (piece_at_end (after (scan rest.place front) last) (longer (scan rest.place front) rest front))
      ∙ ap (λ p. piece_at_end p (longer (scan rest.place front) rest front)) place_is

  rest_is : rest_of rest bytes ≡ with_byte place before last
  rest_is =
      rest_append rest front (last ∷ []) ∙ ap (λ r. rest_of r (last ∷ [])) (quiet_rest rest front quiet)
      ∙ ap (λ p. with_byte p (longer (scan rest.place front) rest front) last) place_is

  abbrev now : Rest
  now = rest_at rest.at (rest.bytes ++ bytes) place

  -- the last one ends a piece
  piece_whole : take (length now.bytes - 1) now.bytes ≡ rest.bytes ++ front
  piece_whole =
      ap (λ l. take (length l - 1) l) (sym (append_assoc rest.bytes front (last ∷ []))) ∙ front_is (rest.bytes ++ front) last

  length_whole : length (rest.bytes ++ front) + 1 ≡ length now.bytes
  length_whole = sym (length-append (rest.bytes ++ front) (last ∷ [])) ∙ ap length (append_assoc rest.bytes front (last ∷ []))

  ends_pieces : place ≡ End → pieces_of rest bytes ≡ piece_at rest.at (take (length now.bytes - 1) now.bytes) ∷ []
  ends_pieces e =
      pieces_are ∙ ap (λ p. piece_at_end p (longer (scan rest.place front) rest front)) e
      ∙ ap (λ l. piece_at rest.at l ∷ []) (sym piece_whole)

  ends_rest : place ≡ End → rest_of rest bytes ≡ rest_at (forward rest.at (length now.bytes)) [] End
  ends_rest e =
      rest_is ∙ ap (λ p. with_byte p (longer (scan rest.place front) rest front) last) e
      ∙ ap (λ n. rest_at (forward rest.at n) [] End) length_whole

  goes_pieces : (place ≡ End → ⊥) → pieces_of rest bytes ≡ []
  goes_pieces h = pieces_are ∙ none_ended place before h

  goes_rest : (place ≡ End → ⊥) → rest_of rest bytes ≡ now
  goes_rest h =
      rest_is ∙ byte_kept place before last h
      ∙ ap (λ l. rest_at rest.at l (scan rest.place (front ++ last ∷ []))) (append_assoc rest.bytes front (last ∷ []))

-- ---- by what a read says

quiet_front : (front : List ℕ) (last : ℕ) → StopsAt (front ++ last ∷ []) 59 → AreQuiet front
quiet_front front last stops = quiet_from front (subst (λ l. (k : ℕ) (d : ℕ) → k < length l → get_or l k d ≢ 59) (front_is front last) stops)

pub record IsWholeTurn (rest : Rest) (bytes : List ℕ) (now : Rest) : Type 0 where
  pub piece : pieces_of rest bytes ≡ whole_of now ∷ []
  pub left : rest_of rest bytes ≡ rest_at (forward now.at (length now.bytes)) [] End

pub record IsQuietTurn (rest : Rest) (bytes : List ℕ) (now : Rest) : Type 0 where
  pub none : pieces_of rest bytes ≡ []
  pub left : rest_of rest bytes ≡ now

module _ (rest : Rest) (bytes : List ℕ) (stops : StopsAt bytes 59) (some : bytes ≢ []) where
  abbrev after_all : Rest
  after_all = rest_at rest.at (rest.bytes ++ bytes) (scan rest.place bytes)

  cut : IsLastOf bytes
  cut = last_of bytes some

  quiet_cut : AreQuiet cut.front
  quiet_cut = quiet_front cut.front cut.last (subst (λ l. StopsAt l 59) cut.is stops)

  pub whole_turn : scan rest.place bytes ≡ End → IsWholeTurn rest bytes after_all
  whole_turn e =
      let end : scan rest.place (cut.front ++ cut.last ∷ []) ≡ End = ap (scan rest.place) (sym cut.is) ∙ e in
      record {
        piece = subst (λ l. pieces_of rest l ≡ piece_at rest.at (take (length (rest.bytes ++ l) - 1) (rest.bytes ++ l)) ∷ []) (sym cut.is)
            (ends_pieces rest cut.front cut.last quiet_cut end);
        left = subst (λ l. rest_of rest l ≡ rest_at (forward rest.at (length (rest.bytes ++ l))) [] End) (sym cut.is)
            (ends_rest rest cut.front cut.last quiet_cut end);
      }

  pub quiet_turn : (scan rest.place bytes ≡ End → ⊥) → IsQuietTurn rest bytes after_all
  quiet_turn h =
      let goes : scan rest.place (cut.front ++ cut.last ∷ []) ≡ End → ⊥ = λ e. h (ap (scan rest.place) cut.is ∙ e) in
      record {
        none = subst (λ l. pieces_of rest l ≡ []) (sym cut.is) (goes_pieces rest cut.front cut.last quiet_cut goes);
        left = subst (λ l. rest_of rest l ≡ rest_at rest.at (rest.bytes ++ l) (scan rest.place l)) (sym cut.is)
            (goes_rest rest cut.front cut.last quiet_cut goes);
      }
