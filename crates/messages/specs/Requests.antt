-- What stands in the requests of several fields.
use Rattle.std.specs.Prelude.{ℕ, ◌==◌, List, length, Option, Some, None, if◌then◌else◌}
use Rattle.value.specs.declared.values.Value.{Value}
use Rattle.messages.specs.Reading.{◌>>=◌, many_in, number_at, text_at, values_at, values_in}
use Rattle.messages.specs.declared.requests.RunRequest.{RunRequest}
use Rattle.messages.specs.declared.requests.Step.{Step}
use Rattle.messages.specs.declared.requests.StepsRequest.{StepsRequest}

-- the number that is all of a request
unfoldable pub only_number : List ℕ → Option ℕ
only_number request = do
  n ← number_at request
  if length n.1 == 0 then Some n.0 else None

-- a session, a statement, and values for its parameters
pub record RunFields : Type 0 where
  pub session : ℕ
  pub statement : ℕ
  pub values : List Value

-- the fields of a request that was read to run a statement
abbrev pub run_fields : RunRequest → RunFields
run_fields r = record { session = r.session; statement = r.statement; values = r.values.items }

-- the fields in a request to run a statement, if it can be read
unfoldable pub run_request : List ℕ → Option RunFields
run_request request = do
  session ← number_at request
  statement ← number_at session.1
  values ← values_at statement.1
  Some (record { session = session.0; statement = statement.0; values = values })

-- the text of the rules to create, and the names of those to drop
unfoldable pub checkpoint_request : List ℕ → Option (List ℕ × List Value)
checkpoint_request request = do
  created ← text_at request
  dropped ← values_at created.1
  Some (created.0, dropped)

-- a statement, how many values, and these
unfoldable pub step_at : List ℕ → Option (Step × List ℕ)
step_at bytes = do
  statement ← number_at bytes
  count ← number_at statement.1
  values ← values_in count.0 count.1
  Some (record { statement = statement.0; values = values.0 }, values.1)

-- so many statements with their values
abbrev pub steps_in : ℕ → List ℕ → Option (List Step × List ℕ)
steps_in = many_in step_at

-- a session, how many statements, and all of these with their values
unfoldable pub steps_request : List ℕ → Option StepsRequest
steps_request request = do
  session ← number_at request
  count ← number_at session.1
  steps ← steps_in count.0 count.1
  if length steps.1 == 0 then Some (record { session = session.0; steps = steps.0 }) else None
