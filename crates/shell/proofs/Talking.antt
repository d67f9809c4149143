-- What was fed to a shell from its beginning is a conversation.
use Rattle.std.proofs.Common.{◌≡◌, ℕ, Bool, true, List, [], ◌∷◌, ◌++◌, Option, Result, Ok, Err, refl, sym, ap, ◌∙◌, subst, append_assoc}
use Rattle.std.specs.Prelude.{IfErr, OnOk}
use Rattle.std.specs.Io.KnownBytes.{Appends}
use Rattle.std.proofs.KnownBytes.{Appends-trans}
use Rattle.syntax.specs.declared.statements.ScriptLine.{ScriptLine}
use Rattle.commit.specs.Cores.{IsSerializable}
use Rattle.commit.specs.Events.{EngineState, after}
use Rattle.commit.specs.Runs.{AreAnswers, InEachRun, beginning, led_to}
use Rattle.commit.specs.Told.{WereToldAlone}
use Rattle.delta.specs.Views.{ViewState}
use Rattle.replay.specs.declared.faults.ProgramFault.{ProgramFault}
use Rattle.replay.specs.declared.faults.ProgramFault.TheVariants.{Defs, Script, Stopped, Output, NoThread}
use Rattle.replay.specs.Texts.{IsInTheRun, is_before_the_run}
use Rattle.shell.specs.declared.faults.ShellFault.{ShellFault}
use Rattle.shell.specs.declared.faults.ShellFault.TheVariants.{Run, Input}
use Rattle.shell.specs.Cuts.{Piece, Rest, no_rest, piece_of, pieces_of}
use Rattle.shell.specs.Outcomes.{AreOutcomes, IsLast, Outcome, Blank, Reply, Fault, answers_in, output_line, output_lines, lines_in}
use Rattle.shell.specs.Seats.{first_seated, seated_lines, engine_with_seat}
use Rattle.shell.specs.Shell.{IsBeginning, IsFirstFault, IsInTheTalk, IsRunFault, IsTalk, IsTaken, WritesConversation, WritesFirst, is_before_the_talk, is_run_stop, is_stop}
use Rattle.shell.specs.Writing.{AreRun, Feeds, FeedsAll, Finishes, ending_if, left_by_all}
use Rattle.shell.proofs.Seating.{after_whole, answered_whole, seated_late, whole, whole_now, with_seats}

-- the answers of an engine whose sessions come are those of one that has all from the start
are_answers : (now : EngineState) (outcomes : List Outcome) → AreRun now outcomes → AreAnswers (whole now (lines_in outcomes)) (lines_in outcomes) (answers_in outcomes)
are_answers now [] h = tt
are_answers now (Blank ∷ more) h = are_answers now more h.1
are_answers now (Fault refusal ∷ more) h = are_answers now more h.1
are_answers now (Reply line answer ∷ more) h = (
  answered_whole now line (lines_in more) answer h.0,
  subst (λ e. AreAnswers e (lines_in more) (answers_in more)) (sym (after_whole now line (lines_in more) answer h.0))
      (are_answers (after (engine_with_seat now line.session) line answer) more h.1),
)

lead_to : (now : EngineState) (outcomes : List Outcome) → AreRun now outcomes
    → whole (left_by_all now outcomes) [] ≡ led_to (whole now (lines_in outcomes)) (lines_in outcomes) (answers_in outcomes)
lead_to now [] h = refl
lead_to now (Blank ∷ more) h = lead_to now more h.1
lead_to now (Fault refusal ∷ more) h = lead_to now more h.1
lead_to now (Reply line answer ∷ more) h =
    lead_to (after (engine_with_seat now line.session) line answer) more h.1
    ∙ ap (λ e. led_to e (lines_in more) (answers_in more)) (sym (after_whole now line (lines_in more) answer h.0))

-- from no session on
whole_first : (limit : ℕ) (shown : ViewState) (lines : List ScriptLine) → whole (beginning limit shown []) lines ≡ first_seated limit shown lines
whole_first limit shown lines =
    ap (with_seats (beginning limit shown []).core) (sym (seated_late [] lines))

module _ (defs : List ℕ) (limit : ℕ) (engine : EngineState) (begun : IsBeginning defs limit engine)
    (serializable : InEachRun (λ loaded lines answers left. IsSerializable left.core)) (told : InEachRun (λ loaded lines answers left. WereToldAlone left.core lines answers))
  where
    talk : (pieces : List Piece) (outcomes : List Outcome) → AreOutcomes pieces outcomes → AreRun engine outcomes → IsTalk limit begun.shown pieces outcomes (left_by_all engine outcomes)
    talk pieces outcomes are run =
        let from : whole engine (lines_in outcomes) ≡ first_seated limit begun.shown (lines_in outcomes) =
        ap (λ e. whole e (lines_in outcomes)) begun.is ∙ whole_first limit begun.shown (lines_in outcomes) in
        let answered : AreAnswers (first_seated limit begun.shown (lines_in outcomes)) (lines_in outcomes) (answers_in outcomes) =
        subst (λ e. AreAnswers e (lines_in outcomes) (answers_in outcomes)) from (are_answers engine outcomes run) in
        let leaves : left_by_all engine outcomes ≡ led_to (first_seated limit begun.shown (lines_in outcomes)) (lines_in outcomes) (answers_in outcomes) =
        sym (whole_now (left_by_all engine outcomes)) ∙ lead_to engine outcomes run ∙ ap (λ e. led_to e (lines_in outcomes) (answers_in outcomes)) from in
        record {
          are = are;
          answered = answered;
          leaves = leaves;
          serializable = subst (λ (e : EngineState). IsSerializable e.core) (sym leaves)
              (serializable limit begun.shown (seated_lines [] (lines_in outcomes)) (lines_in outcomes) (answers_in outcomes) begun.sound answered);
          told = subst (λ (e : EngineState). WereToldAlone e.core (lines_in outcomes) (answers_in outcomes)) (sym leaves)
              (told limit begun.shown (seated_lines [] (lines_in outcomes)) (lines_in outcomes) (answers_in outcomes) begun.sound answered);
        }

    -- the shell came to its end
    pub conversation : (left : EngineState) (rest : Rest) (reports : Bool) (from old middle new : Option (List ℕ)) → FeedsAll engine no_rest left rest from old middle
        → Finishes rest left reports middle new → WritesConversation defs limit reports from old new
    conversation left rest reports from old middle new fed ended = record {
      input = fed.bytes;
      all = fed.all;
      bytes = (output_lines fed.outcomes ++ output_line ended.last) ++ ending_if reports left;
      is = record {
        shown = begun.shown;
        taken = begun.taken;
        outcomes = fed.outcomes;
        left = left;
        talk = subst (IsTalk limit begun.shown (pieces_of no_rest fed.bytes) fed.outcomes) (sym fed.leaves) (talk (pieces_of no_rest fed.bytes) fed.outcomes fed.are fed.run);
        last = ended.last;
        last_is = subst (λ (r : Rest). IsLast (piece_of r) ended.last) fed.last_is ended.last_is;
        prints = refl;
      };
      written = subst (Appends old new) (sym (append_assoc (output_lines fed.outcomes) (output_line ended.last) (ending_if reports left)))
          (Appends-trans old middle new (output_lines fed.outcomes) (output_line ended.last ++ ending_if reports left) fed.written ended.written);
    }

    -- the reader ended it
    pub first_pieces : (left : EngineState) (rest : Rest) (from to old new : Option (List ℕ)) → Feeds engine no_rest left rest from to old new → WritesFirst defs limit from to old new
    first_pieces left rest from to old new fed = record {
      shown = begun.shown;
      taken = begun.taken;
      input = fed.bytes;
      read = fed.read;
      outcomes = fed.outcomes;
      left = left_by_all engine fed.outcomes;
      talk = talk (pieces_of no_rest fed.bytes) fed.outcomes fed.are fed.run;
      written = fed.written;
    }

    -- by how it ended
    pub conversation_if : {A : Type 0} (finished : Result A ShellFault) (left : EngineState) (rest : Rest) (reports : Bool) (from old middle new : Option (List ℕ))
        → FeedsAll engine no_rest left rest from old middle → OnOk finished (Finishes rest left reports middle new) → OnOk finished (WritesConversation defs limit reports from old new)
    conversation_if (Ok done) left rest reports from old middle new fed ended = conversation left rest reports from old middle new fed ended
    conversation_if (Err fault) left rest reports from old middle new fed ended = tt

-- a fault of a shell that was begun

late_run : (defs : List ℕ) → IsTaken defs → (fault : ProgramFault) → IsInTheRun fault → IsRunFault defs fault
late_run defs taken (Defs refusal) h = absurd h
late_run defs taken (Script refusal) h = absurd h
late_run defs taken Stopped h = taken
late_run defs taken Output h = taken
late_run defs taken NoThread h = absurd h

pub late_fault : (defs : List ℕ) → IsTaken defs → (fault : ShellFault) → IsInTheTalk fault → IsFirstFault defs fault
late_fault defs taken (Run fault) h = late_run defs taken fault h
late_fault defs taken Input h = taken

pub late_faults : {A : Type 0} (defs : List ℕ) → IsTaken defs → (finished : Result A ShellFault) → IfErr finished IsInTheTalk → IfErr finished (IsFirstFault defs)
late_faults defs taken (Ok done) h = tt
late_faults defs taken (Err fault) h = late_fault defs taken fault h

not_before : (P : Type 0) (fault : ProgramFault) → IsInTheRun fault → is_before_the_run fault ≡ true → P
not_before P (Defs refusal) h e = absurd h
not_before P (Script refusal) h e = absurd h
not_before P Stopped h e = let no : ⊥ = cc in absurd no
not_before P Output h e = let no : ⊥ = cc in absurd no
not_before P NoThread h e = absurd h

pub was_begun : (P : Type 0) (fault : ShellFault) → IsInTheTalk fault → is_before_the_talk fault ≡ true → P
was_begun P (Run fault) h e = not_before P fault h e
was_begun P Input h e = let no : ⊥ = cc in absurd no

pub were_begun : {A : Type 0} (P : Type 0) (finished : Result A ShellFault) → IfErr finished IsInTheTalk → IfErr finished (λ fault. is_before_the_talk fault ≡ true → P)
were_begun P (Ok done) h = tt
were_begun P (Err fault) h = was_begun P fault h

run_not_stop : {P : Type 0} (fault : ProgramFault) → is_before_the_run fault ≡ true → is_run_stop fault ≡ true → P
run_not_stop (Defs refusal) h e = let no : ⊥ = cc in absurd no
run_not_stop (Script refusal) h e = let no : ⊥ = cc in absurd no
run_not_stop Stopped h e = let no : ⊥ = cc in absurd no
run_not_stop Output h e = let no : ⊥ = cc in absurd no
run_not_stop NoThread h e = let no : ⊥ = cc in absurd no

-- what ends it before the first byte says nothing of what was written
pub not_a_stop : {P : Type 0} (fault : ProgramFault) → is_before_the_run fault ≡ true → is_stop (Run fault) ≡ true → P
not_a_stop fault h e = run_not_stop fault h e

pub taken_of : (defs : List ℕ) (limit : ℕ) (engine : EngineState) → IsBeginning defs limit engine → IsTaken defs
taken_of defs limit engine begun = (begun.shown, begun.taken)
