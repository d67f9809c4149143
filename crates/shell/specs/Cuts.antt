-- How the bytes of an input are cut into pieces, at each semicolon outside of quoted texts and comments.
use Rattle.std.specs.Prelude.{◌≡◌, ◌+◌, ◌-◌, ◌^◌, ◌==◌, Bool, true, false, ℕ, List, [], ◌∷◌, ◌++◌, length, min, take, if◌then◌else◌}
use Rattle.shell.specs.declared.cutting.Place.{Place}
use Rattle.shell.specs.declared.cutting.Place.TheVariants.{Plain, Dash, Comment, Quote, End}

-- where the next byte stands, behind one that is neither in a quoted text nor in a comment
abbrev pub behind : ℕ → Place
behind b = if b == 59 then End else (if b == 39 then Quote else (if b == 45 then Dash else Plain))

-- Where the next byte stands. A quote within quotes is written twice, and so the text goes on behind the second.
abbrev pub after : Place → ℕ → Place
after Plain b = behind b
after End b = behind b
after Dash b = if b == 45 then Comment else behind b
after Comment b = if b == 10 then Plain else Comment
after Quote b = if b == 39 then Plain else Quote

-- whether the next byte stands in no quoted text and in no comment
abbrev pub is_outside : Place → Bool
is_outside Plain = true
is_outside Dash = true
is_outside Comment = false
is_outside Quote = false
is_outside End = true

-- behind some bytes
abbrev pub scan : Place → List ℕ → Place
scan place [] = place
scan place (b ∷ bytes) = scan (after place b) bytes

-- so many bytes further on; it stops at the largest place that there is
abbrev pub forward : ℕ → ℕ → ℕ
forward at count = min (at + count) (2 ^ 64 - 1)

-- bytes of the input without the semicolon behind them, and where in the input they begin
pub record Piece : Type 0 where
  pub at : ℕ
  pub bytes : List ℕ

-- what is not cut off yet, and where the next byte stands
pub record Rest : Type 0 where
  pub at : ℕ
  pub bytes : List ℕ
  pub place : Place

-- the bytes that are not cut off yet, as a piece
abbrev pub piece_of : Rest → Piece
piece_of rest = record { at = rest.at; bytes = rest.bytes }

-- the piece that the last byte of these ends
abbrev pub whole_of : Rest → Piece
whole_of rest = record { at = rest.at; bytes = take (length rest.bytes - 1) rest.bytes }

-- behind that piece
abbrev pub cut_off : Rest → Rest
cut_off rest = record { at = forward rest.at (length rest.bytes); bytes = []; place = rest.place }

-- before the first byte
abbrev pub no_rest : Rest
no_rest = record { at = 0; bytes = []; place = Plain }

-- the piece that a byte ends, if it ends one
abbrev pub piece_at_end : Place → Rest → List Piece
piece_at_end End rest = piece_of rest ∷ []
piece_at_end place rest = []

-- what is not cut off behind this byte
abbrev pub with_byte : Place → Rest → ℕ → Rest
with_byte End rest b = record { at = forward rest.at (length rest.bytes + 1); bytes = []; place = End }
with_byte place rest b = record { at = rest.at; bytes = rest.bytes ++ b ∷ []; place = place }

-- the pieces that some more bytes end
abbrev pub pieces_of : Rest → List ℕ → List Piece
pieces_of rest [] = []
pieces_of rest (b ∷ bytes) =
    piece_at_end (after rest.place b) rest ++ pieces_of (with_byte (after rest.place b) rest b) bytes

-- and what is not cut off behind them
abbrev pub rest_of : Rest → List ℕ → Rest
rest_of rest [] = rest
rest_of rest (b ∷ bytes) = rest_of (with_byte (after rest.place b) rest b) bytes

-- pieces with their semicolons, one behind the other
abbrev pub text_of_pieces : List Piece → List ℕ
text_of_pieces [] = []
text_of_pieces (piece ∷ pieces) = (piece.bytes ++ 59 ∷ []) ++ text_of_pieces pieces

-- more bytes have come behind what was not cut off
pub record IsLonger (before now : Rest) (more : List ℕ) : Type 0 where
  pub at_is : now.at ≡ before.at
  pub bytes_are : now.bytes ≡ before.bytes ++ more
  pub place_is : now.place ≡ scan before.place more

-- bytes between two places in which no piece ends
pub record PassesOver (from : Place) (bytes : List ℕ) (to : Place) : Type 0 where
  pub none : (rest : Rest) → rest.place ≡ from → pieces_of rest bytes ≡ []
  pub all : (rest : Rest) → rest.place ≡ from
      → rest_of rest bytes ≡ record { at = rest.at; bytes = rest.bytes ++ bytes; place = to }
