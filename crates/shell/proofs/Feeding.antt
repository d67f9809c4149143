-- What is read, answered and written so far, and what comes behind it.
use Rattle.std.proofs.Common.{◌≡◌, ◌≢◌, ◌⊎◌, inl, inr, ℕ, Bool, true, false, List, [], ◌∷◌, ◌++◌, length, Option, Some, None, refl, sym, ap, ◌∙◌, subst, append-nil, append_assoc}
use Rattle.std.specs.Prelude.{IfSome}
use Rattle.std.specs.Io.KnownBytes.{Appends, Consumes, IsAtEnd, Keeps}
use Rattle.std.proofs.KnownBytes.{Appends-nil, Appends-trans, Consumes-nil, Consumes-trans}
use Rattle.commit.specs.Events.{EngineState}
use Rattle.shell.specs.declared.cutting.Place.TheVariants.{End}
use Rattle.shell.specs.Cuts.{Piece, Rest, cut_off, forward, pieces_of, rest_of, scan, whole_of}
use Rattle.shell.specs.Reading.{ReadsOn}
use Rattle.shell.specs.Outcomes.{AreOutcomes, Outcome, output_line, output_lines}
use Rattle.shell.specs.Writing.{Answers, AnswersNone, AnswersWhole, AreRun, Feeds, FeedsAll, IsOver, Turns, left_by, left_by_all}
use Rattle.shell.proofs.Lines.{answers_whole}
use Rattle.shell.proofs.Pieces.{IsQuietTurn, IsWholeTurn, pieces_append, quiet_turn, rest_append, rest_at, same_rests, whole_turn}

-- ---- outcomes one behind the other

are_append : (ps qs : List Piece) (os us : List Outcome) → AreOutcomes ps os → AreOutcomes qs us → AreOutcomes (ps ++ qs) (os ++ us)
are_append [] qs [] us h g = g
are_append [] qs (o ∷ os) us h g = absurd h
are_append (p ∷ ps) qs [] us h g = absurd h
are_append (p ∷ ps) qs (o ∷ os) us h g = (h.0, are_append ps qs os us h.1 g)

run_append : (now : EngineState) (os us : List Outcome) → AreRun now os → AreRun (left_by_all now os) us → AreRun now (os ++ us)
run_append now [] us h g = g
run_append now (o ∷ os) us h g = (h.0, run_append (left_by now o) os us h.1 g)

left_append : (now : EngineState) (os us : List Outcome) → left_by_all now (os ++ us) ≡ left_by_all (left_by_all now os) us
left_append now [] us = refl
left_append now (o ∷ os) us = left_append (left_by now o) os us

output_lines_append : (os us : List Outcome) → output_lines (os ++ us) ≡ output_lines os ++ output_lines us
output_lines_append [] us = refl
output_lines_append (o ∷ os) us = ap (λ l. output_line o ++ l) (output_lines_append os us) ∙ sym (append_assoc (output_line o) (output_lines os) (output_lines us))

-- ---- turns one behind the other

module _ (before : EngineState) (rest : Rest) where
  -- nothing is read yet
  pub feeds_none : (from old : Option (List ℕ)) → Feeds before rest before rest from from old old
  feeds_none from old = record {
    bytes = [];
    read = Consumes-nil from;
    outcomes = [];
    are = tt;
    run = tt;
    leaves = refl;
    last_is = refl;
    written = Appends-nil old;
  }

  module _ (left : EngineState) (last : Rest) (from middle old now : Option (List ℕ)) (fed : Feeds before rest left last from middle old now) where
    -- one turn more
    pub feeds_more : (end : EngineState) (behind : Rest) (to new : Option (List ℕ)) → Feeds left last end behind middle to now new → Feeds before rest end behind from to old new
    feeds_more end behind to new next = record {
      bytes = fed.bytes ++ next.bytes;
      read = Consumes-trans from middle to fed.bytes next.bytes fed.read next.read;
      outcomes = fed.outcomes ++ next.outcomes;
      are = subst (λ ps. AreOutcomes ps (fed.outcomes ++ next.outcomes)) (sym (pieces_append rest fed.bytes next.bytes))
          (are_append (pieces_of rest fed.bytes) (pieces_of (rest_of rest fed.bytes) next.bytes) fed.outcomes next.outcomes fed.are
          (subst (λ r. AreOutcomes (pieces_of r next.bytes) next.outcomes) fed.last_is next.are));
      run = run_append before fed.outcomes next.outcomes fed.run (subst (λ e. AreRun e next.outcomes) fed.leaves next.run);
      leaves = next.leaves ∙ ap (λ e. left_by_all e next.outcomes) fed.leaves ∙ sym (left_append before fed.outcomes next.outcomes);
      last_is = next.last_is ∙ ap (λ r. rest_of r next.bytes) fed.last_is ∙ sym (rest_append rest fed.bytes next.bytes);
      written = subst (Appends old new) (sym (output_lines_append fed.outcomes next.outcomes))
          (Appends-trans old now new (output_lines fed.outcomes) (output_lines next.outcomes) fed.written next.written);
    }

    -- nothing is left
    pub feeds_all : (end : EngineState) (behind : Rest) (new : Option (List ℕ)) → IsOver left last end behind middle now new → FeedsAll before rest end behind from old new
    feeds_all end behind new over = record {
      bytes = fed.bytes;
      all = all_read from middle fed.bytes fed.read over.at_end;
      outcomes = fed.outcomes;
      are = fed.are;
      run = fed.run;
      leaves = over.left_is ∙ fed.leaves;
      last_is = over.last_is ∙ fed.last_is;
      written = subst (λ n. Appends old n (output_lines fed.outcomes)) (sym over.same) fed.written;
    }
      where
        all_read : (a b : Option (List ℕ)) (bytes : List ℕ) → Consumes a b bytes → IsAtEnd b → IfSome a (λ known. bytes ≡ known)
        all_read None b bytes h end = tt
        all_read (Some xs) None bytes h end = absurd h
        all_read (Some xs) (Some ys) bytes h end = sym (h ∙ ap (λ l. bytes ++ l) end ∙ append-nil bytes)

  -- ---- one turn

  module _ (now : Rest) (from to : Option (List ℕ)) (read : ReadsOn rest now true from to) where
    abbrev grown : Rest
    grown = rest_at rest.at (rest.bytes ++ read.bytes) (scan rest.place read.bytes)

    now_is : grown ≡ now
    now_is = same_rests grown now (sym read.longer.at_is) (sym read.longer.bytes_are) (sym read.longer.place_is)

    -- which ends no piece
    pub feeds_quiet : (old : Option (List ℕ)) → (now.place ≡ End → ⊥) → Feeds before rest before now from to old old
    feeds_quiet old goes =
        let turn : IsQuietTurn rest read.bytes now = subst (IsQuietTurn rest read.bytes) now_is
        (quiet_turn rest read.bytes read.stops (read.some refl) (λ e. goes (read.longer.place_is ∙ e))) in
        record {
          bytes = read.bytes;
          read = read.read;
          outcomes = [];
          are = subst (λ ps. AreOutcomes ps []) (sym turn.none) tt;
          run = tt;
          leaves = refl;
          last_is = sym turn.left;
          written = Appends-nil old;
        }

    -- or one piece, which is answered
    pub feeds_whole : (left : EngineState) (last : Rest) (old new : Option (List ℕ)) → now.place ≡ End → Answers before (whole_of now) left old new
        → last ≡ rest_at (forward now.at (length now.bytes)) [] now.place → Feeds before rest left last from to old new
    feeds_whole left last old new end answered last_is =
        let turn : IsWholeTurn rest read.bytes now = subst (IsWholeTurn rest read.bytes) now_is
        (whole_turn rest read.bytes read.stops (read.some refl) (sym read.longer.place_is ∙ end)) in
        record {
          bytes = read.bytes;
          read = read.read;
          outcomes = answered.outcome ∷ [];
          are = subst (λ ps. AreOutcomes ps (answered.outcome ∷ [])) (sym turn.piece) (answered.is, tt);
          run = (answered.run, tt);
          leaves = answered.leaves;
          last_is = last_is ∙ ap (rest_at (forward now.at (length now.bytes)) []) end ∙ sym turn.left;
          written = subst (Appends old new) (sym (append-nil (output_line answered.outcome))) answered.written;
        }

    nothing_added : (xs ys : List ℕ) → xs ++ ys ≡ [] → ys ≡ []
    nothing_added [] ys e = e
    nothing_added (x ∷ xs) ys e = let no : ⊥ = cc in absurd no

    -- some bytes are there
    some_there : now.bytes ≢ []
    some_there none = read.some refl (nothing_added rest.bytes read.bytes (sym read.longer.bytes_are ∙ none))

    pub feeds_unless : (old : Option (List ℕ)) → (now.bytes ≢ [] → now.place ≢ End) → Feeds before rest before now from to old old
    feeds_unless old goes = feeds_quiet old (goes some_there)

  -- a turn that reads nothing
  pub over_turn : (now : Rest) (from to old : Option (List ℕ)) → ReadsOn rest now false from to → IsAtEnd from → IsOver before rest before now from old old
  over_turn now from to old read end = record {
    at_end = end;
    left_is = refl;
    last_is = same_rests now rest read.longer.at_is (read.longer.bytes_are ∙ ap (λ l. rest.bytes ++ l) (read.none refl) ∙ append-nil rest.bytes)
        (read.longer.place_is ∙ ap (scan rest.place) (read.none refl));
    same = refl;
  }

  -- a turn that reads nothing, and in which the reader fails
  pub feeds_nothing : (now : Rest) (from to old : Option (List ℕ)) → ReadsOn rest now false from to → Feeds before rest before now from to old old
  feeds_nothing now from to old read = record {
    bytes = [];
    read = subst (Consumes from to) (read.none refl) read.read;
    outcomes = [];
    are = tt;
    run = tt;
    leaves = refl;
    last_is = same_rests now rest read.longer.at_is (read.longer.bytes_are ∙ ap (λ l. rest.bytes ++ l) (read.none refl) ∙ append-nil rest.bytes)
        (read.longer.place_is ∙ ap (scan rest.place) (read.none refl));
    written = Appends-nil old;
  }

  -- ---- one turn, and the piece that it ends, if it ends one

  module _ (more : Bool) (now : Rest) (from to : Option (List ℕ)) (read : ReadsOn rest now more from to)
      (left : EngineState) (last : Rest) (old new : Option (List ℕ)) where
    abbrev Ends : Type 0
    Ends = AnswersWhole more before now left last old new ⊎ AnswersNone more before now left last old new

    unchanged : AnswersNone more before now left last old new → Feeds before rest before now from to old old → Feeds before rest left last from to old new
    unchanged none fed = subst (λ l. Feeds before rest l last from to old new) (sym none.left_is)
        (subst (λ r. Feeds before rest before r from to old new) (sym none.last_is)
        (subst (Feeds before rest before now from to old) (sym none.same) fed))

    fed_if : (known : Bool) → more ≡ known → Ends → Feeds before rest left last from to old new
    fed_if known e (inl whole) =
        feeds_whole now from to (subst (λ m. ReadsOn rest now m from to) whole.some read) left last old new whole.ends whole.answers whole.cut
    fed_if true e (inr none) = unchanged none (feeds_unless now from to (subst (λ m. ReadsOn rest now m from to) e read) old (none.goes_on e))
    fed_if false e (inr none) = unchanged none (feeds_nothing now from to old (subst (λ m. ReadsOn rest now m from to) e read))

    -- also where the reader fails
    pub feeds_turn : Ends → Feeds before rest left last from to old new
    feeds_turn = fed_if more refl

    turned_if : (known : Bool) → more ≡ known → Ends → (more ≡ false → IsAtEnd from) → Turns more before rest left last from to old new
    turned_if true e ends end = subst (λ m. Turns m before rest left last from to old new) (sym e) (fed_if true e ends)
    turned_if false e (inl whole) end = (let some = whole.some in let no : ⊥ = cc in absurd no)
    turned_if false e (inr none) end = subst (λ m. Turns m before rest left last from to old new) (sym e)
        (subst (λ l. IsOver before rest l last from old new) (sym none.left_is)
        (subst (λ r. IsOver before rest before r from old new) (sym none.last_is)
        (subst (IsOver before rest before now from old) (sym none.same) (over_turn now from to old (subst (λ m. ReadsOn rest now m from to) e read) (end e)))))

    -- a turn of which the reader says whether it read more
    pub turns : Ends → (more ≡ false → IsAtEnd from) → Turns more before rest left last from to old new
    turns = turned_if more refl

-- ---- whether a piece is ended

module _ (before : EngineState) (rest : Rest) (old : Option (List ℕ)) where
  pub none_read : AnswersNone false before rest before rest old old
  none_read = record { goes_on = λ e. (let no : ⊥ = cc in absurd no); left_is = refl; last_is = refl; same = refl }

  pub none_ended : (rest.bytes ≢ [] → rest.place ≢ End) → AnswersNone true before rest before rest old old
  none_ended goes = record { goes_on = λ e. goes; left_is = refl; last_is = refl; same = refl }

  pub whole_ended : (more : Bool) (at : ℕ) (bytes : List ℕ) (left : EngineState) (last : Rest) (middle new : Option (List ℕ)) → more ≡ true → rest.place ≡ End
      → Answers before (record { at = at; bytes = bytes }) left old middle → at ≡ (whole_of rest).at → bytes ≡ (whole_of rest).bytes → Keeps middle new → last ≡ cut_off rest
      → AnswersWhole more before rest left last old new
  whole_ended more at bytes left last middle new some ends told same_at same_bytes kept cut = record {
    some = some;
    ends = ends;
    answers = answers_whole before at bytes rest left old middle new told same_at same_bytes kept;
    cut = cut;
  }
