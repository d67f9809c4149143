-- What a call tells, where another call made it.
use Rattle.std.proofs.Common.{◌≡◌, ℕ, List, Option, Some, None, Ok, Err, refl, sym, subst, inl, inr}
use Rattle.syntax.specs.declared.statements.Event.{Event}
use Rattle.syntax.specs.declared.statements.ScriptLine.{ScriptLine}
use Rattle.syntax.specs.StatementGrammar.{IsEvent}
use Rattle.replay.specs.Texts.{IsRead}
use Rattle.prepared.specs.declared.prepared.Prepared.{Prepared}
use Rattle.prepared.specs.Prepared.{event_with_values}
use Rattle.alone.specs.declared.answers.Answer.{Answer}
use Rattle.commit.specs.declared.keepers.Unanswered.{Unanswered}
use Rattle.commit.specs.declared.keepers.Unanswered.TheVariants as unanswered
use Rattle.messages.specs.declared.responses.Response.{Response}
use Rattle.messages.specs.declared.responses.Response.TheVariants as response
use Rattle.messages.specs.Requests.{RunFields}
use Rattle.calls.specs.declared.databases.Database.{Database}
use Rattle.calls.specs.Sessions.{session_name}
use Rattle.calls.specs.Statements.{statement_at}
use Rattle.calls.specs.Calls.{AnswersEvent, AnswersLine, AnswersNamed, ExecutesText, RunsKept, RunsStatement, unanswered_response}
use Rattle.calls.specs.Keeping.{IsHandled, KeptState}

module _ (Is : Event → Type 0) (event : Event) (old new : Database) (r : Response) (is : Is event) where
  -- an event that is this one is such a one
  such : (name : Option (List ℕ)) → AnswersNamed name (λ e. e ≡ event) old new r → AnswersNamed name Is old new r
  such None told = told
  such (Some name) (inl told) = inl told
  such (Some name) (inr (inl told)) = inr (inl (record {
    script_line = told.script_line;
    session_is = told.session_is;
    event_is = subst Is (sym told.event_is) is;
    answer = told.answer;
    answered = told.answered;
    same = told.same;
    told = told.told;
  }))
  such (Some name) (inr (inr told)) = inr (inr (record {
    event = told.event;
    event_is = subst Is (sym told.event_is) is;
    not_kept = told.not_kept;
    same = told.same;
    told = told.told;
  }))

pub executes_read : (text : List ℕ) (session : ℕ) (event : Event) (old new : Database) (r : Response) → IsRead IsEvent text event
    → AnswersEvent (λ e. e ≡ event) session old new r → ExecutesText text session old new r
executes_read text session event old new r read told = inr (such (λ e. IsRead IsEvent text e) event old new r read (session_name session old.sessions) told)

kept : (found : Option Prepared) (fields : RunFields) (statement : Prepared) (event : Event) (old new : Database) (r : Response) → found ≡ Some statement
    → event_with_values statement fields.values ≡ Ok event → AnswersEvent (λ e. e ≡ event) fields.session old new r → RunsKept found fields old new r
kept found fields statement event old new r is made told =
    subst (λ f. RunsKept f fields old new r) (sym is)
    (inr (such (λ e. event_with_values statement fields.values ≡ Ok e) event old new r made (session_name fields.session old.sessions) told))

pub runs_kept : (fields : RunFields) (statement : Prepared) (event : Event) (old new : Database) (r : Response) → Some statement ≡ statement_at fields.statement old.statements
    → event_with_values statement fields.values ≡ Ok event → AnswersEvent (λ e. e ≡ event) fields.session old new r → RunsStatement fields old new r
runs_kept fields statement event old new r is made told = kept (statement_at fields.statement old.statements) fields statement event old new r (sym is) made told

-- an event that is not answered: its COMMIT could not be kept, or there was no memory
pub unanswered_line : (line : ScriptLine) (why : Unanswered) (old : Database) (kept : KeptState) (r : Response) → IsHandled old.kept line (Err why) kept
    → r ≡ unanswered_response line why → AnswersLine line old (record old { kept = kept }) r
unanswered_line line unanswered.NotKept old kept r handled told =
    inr (inr (record { event = line.event; event_is = refl; not_kept = handled; same = refl; told = told }))
unanswered_line line unanswered.NoMemory old kept r handled told = inl (record { response = told; same = λ i. record old { kept = handled i } })

-- one that is answered
pub answered_line : (line : ScriptLine) (answer : Answer) (old : Database) (kept : KeptState) → IsHandled old.kept line (Ok answer) kept
    → AnswersLine line old (record old { kept = kept }) (response.Answered line answer)
answered_line line answer old kept handled =
    inr (inl (record { script_line = line; session_is = refl; event_is = refl; answer = answer; answered = handled; same = refl; told = refl }))
