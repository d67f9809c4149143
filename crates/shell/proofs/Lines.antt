-- The lines of pieces and of the end, as they go out.
use Rattle.std.proofs.Common.{◌≡◌, ℕ, Bool, List, ◌++◌, Option, subst}
use Rattle.std.specs.Io.KnownBytes.{Appends, Keeps}
use Rattle.std.proofs.KnownBytes.{Appends-kept, Appends-trans}
use Rattle.commit.specs.Events.{EngineState}
use Rattle.shell.specs.Cuts.{Piece, Rest, piece_of, whole_of}
use Rattle.shell.specs.Outcomes.{output_line}
use Rattle.shell.proofs.Pieces.{piece_at, same_pieces}
use Rattle.shell.specs.Writing.{Answers, Breaks, Finishes, ending_if}

-- the line of a piece that is whole has gone out
pub answers_whole : (before : EngineState) (at : ℕ) (bytes : List ℕ) (rest : Rest) (left : EngineState) (old middle new : Option (List ℕ)) → Answers before (record { at = at; bytes = bytes }) left old middle
    → at ≡ (whole_of rest).at → bytes ≡ (whole_of rest).bytes → Keeps middle new → Answers before (whole_of rest) left old new
answers_whole before at bytes rest left old middle new told same_at same_bytes kept = subst (λ (p : Piece). Answers before p left old new) (same_pieces (piece_at at bytes) (whole_of rest) same_at same_bytes)
    (record {
      outcome = told.outcome;
      is = told.is;
      run = told.run;
      leaves = told.leaves;
      written = Appends-kept old middle new (output_line told.outcome) told.written kept;
    })

-- the end has gone out: what is left, and what stands behind it
pub finishes : (at : ℕ) (bytes : List ℕ) (rest : Rest) (left : EngineState) (reports : Bool) (old middle more new : Option (List ℕ)) → Breaks (record { at = at; bytes = bytes }) old middle
    → at ≡ rest.at → bytes ≡ rest.bytes → Appends middle more (ending_if reports left) → Keeps more new → Finishes rest left reports old new
finishes at bytes rest left reports old middle more new told same_at same_bytes written kept =
    let broken : Breaks (piece_of rest) old middle = subst (λ (p : Piece). Breaks p old middle) (same_pieces (piece_at at bytes) (piece_of rest) same_at same_bytes) told in record {
      last = broken.outcome;
      last_is = broken.is;
      written = Appends-kept old more new (output_line broken.outcome ++ ending_if reports left)
          (Appends-trans old middle more (output_line broken.outcome) (ending_if reports left) broken.written written) kept;
    }
