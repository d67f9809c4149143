-- What a transaction was told: the replies to its statements, out of a list of events and their answers.
use Rattle.std.specs.Prelude.{◌≡◌, ℕ, List, [], ◌∷◌, ◌++◌, take, slice_get, Some, Result, Ok, Err, Contains, if◌then◌else◌}
use Rattle.std.specs.Str.{bytes_eq}
use Rattle.value.specs.declared.refusals.Refusal.{Refusal}
use Rattle.syntax.specs.declared.statements.ScriptLine.{ScriptLine}
use Rattle.syntax.specs.declared.statements.Event.{Event}
use Rattle.syntax.specs.declared.statements.Event.TheVariants.{Begin, BeginReadOnly, Commit, Rollback, Run}
use Rattle.alone.specs.declared.answers.Answer.{Answer}
use Rattle.alone.specs.declared.answers.Answer.TheVariants.{Begun, Committed, Refused, Replied, RolledBack}
use Rattle.alone.specs.declared.answers.Reply.{Reply}
use Rattle.alone.specs.declared.records.Record.{Record}
use Rattle.alone.specs.Epoch.{outcome_on_snapshot}
use Rattle.commit.specs.Cores.{CoreState, log_of}
use Rattle.commit.specs.Events.{is_no_memory}

-- what statements are told, one after the other
abbrev pub Replies : Type 0
Replies = List (Result Reply Refusal)

-- a statement is told its reply or its refusal; one that found no memory was not run
abbrev pub reply_in : Answer → Replies
reply_in (Replied reply) = Ok reply ∷ []
reply_in (Refused refusal) = if is_no_memory refusal then [] else Err refusal ∷ []
reply_in (Begun number) = []
reply_in (Committed number) = []
reply_in RolledBack = []

-- where a BEGIN is accepted, nothing is told yet
abbrev pub replies_at : Answer → Replies → Replies
replies_at (Begun number) replies = []
replies_at (Replied reply) replies = replies
replies_at (Refused refusal) replies = replies
replies_at (Committed number) replies = replies
replies_at RolledBack replies = replies

-- the replies since the last BEGIN, with those to one more event
abbrev pub replies_with : Event → Answer → Replies → Replies
replies_with Begin answer replies = replies_at answer replies
replies_with BeginReadOnly answer replies = replies_at answer replies
replies_with (Run statement) answer replies = replies ++ reply_in answer
replies_with Commit answer replies = replies
replies_with Rollback answer replies = replies

-- if it is an event of this session
abbrev pub replies_by : (session : List ℕ) → ScriptLine → Answer → Replies → Replies
replies_by session line answer replies =
    if bytes_eq line.session session then replies_with line.event answer replies else replies

-- what a session was told since its last BEGIN, by some events more
abbrev pub replies_after : (session : List ℕ) → Replies → List ScriptLine → List Answer → Replies
replies_after session replies [] answers = replies
replies_after session replies (line ∷ rest) [] = replies
replies_after session replies (line ∷ rest) (answer ∷ more) =
    replies_after session (replies_by session line answer replies) rest more

-- what a session was told since its last BEGIN
abbrev pub replies_to : (session : List ℕ) → List ScriptLine → List Answer → Replies
replies_to session lines answers = replies_after session [] lines answers

-- The COMMIT of a record stands among the events, was answered with its number, and up to there its session was told
-- these replies.
pub record WasTold (lines : List ScriptLine) (answers : List Answer) (commit : Record) (replies : Replies) :
    Type 0 where
  pub place : ℕ
  pub asked : slice_get lines place ≡ Some (record { session = commit.session; event = Commit })
  pub accepted : slice_get answers place ≡ Some (Committed commit.number)
  pub told : replies_to commit.session (take place lines) (take place answers) ≡ replies

-- Each committed transaction was told what it answers alone on the tables of its snapshot. (It answers this in the
-- serial replay too: `AnswersAgain` of `alone` speaks of the same outcome.)
abbrev pub WereToldAlone : CoreState → List ScriptLine → List Answer → Type 0
WereToldAlone c lines answers = (commit : Record) → Contains (log_of c) commit
    → WasTold lines answers commit (outcome_on_snapshot c.declared c.start (log_of c) commit).replies
