-- What a call returns.
use Rattle.std.specs.Prelude.{ℤ, pos, Bool, true, false, List, [], ◌∷◌, if◌then◌else◌}
use Rattle.value.specs.declared.refusals.Refusal.{Refusal}
use Rattle.value.specs.declared.refusals.Refusal.TheVariants as refusal
use Rattle.alone.specs.declared.answers.Answer.{Answer}
use Rattle.alone.specs.declared.answers.Answer.TheVariants as answer
use Rattle.messages.specs.declared.responses.Misuse.{Misuse}
use Rattle.messages.specs.declared.responses.Misuse.TheVariants as misuse
use Rattle.messages.specs.declared.responses.Response.{Response}
use Rattle.messages.specs.declared.responses.Response.TheVariants as response
use Rattle.messages.specs.declared.responses.Outcome.{Outcome}
use Rattle.messages.specs.declared.responses.Outcome.TheVariants as outcome
use Rattle.messages.specs.declared.responses.Status.{Status}
use Rattle.messages.specs.declared.responses.Status.TheVariants as status

-- the number of a status, as C sees it
abbrev pub status_number : Status → ℤ
status_number status.Done = pos 0
status_number status.Refused = pos 1
status_number status.NoMemory = pos 2
status_number status.ReplyWaits = pos 3
status_number status.BadRequest = pos 4
status_number status.NoSession = pos 5
status_number status.NoStatement = pos 6
status_number status.WrongCount = pos 7
status_number status.BadValue = pos 8
status_number status.BadName = pos 9
status_number status.NameTaken = pos 10
status_number status.Closed = pos 11
status_number status.NotKept = pos 12
status_number status.Journaled = pos 13
status_number status.Unrestored = pos 14

-- the status of a refusal; memory that ran out has its own
abbrev pub status_of_refusal : Refusal → Status
status_of_refusal refusal.NoMemory = status.NoMemory
status_of_refusal other = status.Refused

-- the status of an event's answer
abbrev pub status_of_answer : Answer → Status
status_of_answer (answer.Refused refusal) = status_of_refusal refusal
status_of_answer other = status.Done

-- the status of a misuse: of a call that could not be made
abbrev pub status_of_misuse : Misuse → Status
status_of_misuse misuse.BadRequest = status.BadRequest
status_of_misuse misuse.NoSession = status.NoSession
status_of_misuse misuse.NoStatement = status.NoStatement
status_of_misuse (misuse.WrongCount wanted) = status.WrongCount
status_of_misuse (misuse.BadValue parameter) = status.BadValue
status_of_misuse misuse.BadName = status.BadName
status_of_misuse misuse.NameTaken = status.NameTaken
status_of_misuse misuse.Closed = status.Closed
status_of_misuse misuse.Journaled = status.Journaled

-- where the bytes of the reply were written
abbrev pub status_of : Response → Status
status_of (response.Answered script_line answer) = status_of_answer answer
status_of (response.Refused source refusal) = status_of_refusal refusal
status_of (response.Misused misuse) = status_of_misuse misuse
status_of (response.NotKept session) = status.NotKept
status_of (response.Unrestored why) = status.Unrestored
status_of other = status.Done

-- what was asked for has been done
abbrev pub is_done_status : Status → Bool
is_done_status status.Done = true
is_done_status other = false

-- the same of a response
abbrev pub is_done : Response → Bool
is_done r = is_done_status (status_of r)

-- of several responses: the status of the first that is not done
abbrev pub status_of_each : List Response → Status
status_of_each [] = status.Done
status_of_each (r ∷ rs) = if is_done r then status_of_each rs else status_of r

-- the status of a call
abbrev pub status_of_outcome : Outcome → Status
status_of_outcome (outcome.One r) = status_of r
status_of_outcome (outcome.Each rs) = status_of_each rs

-- where there was no memory for them
abbrev pub status_without_reply : Status → Status
status_without_reply status.NoMemory = status.NoMemory
status_without_reply other = status.ReplyWaits

-- the status of a call then: what several events have done, their reply has to tell
abbrev pub status_of_waiting : Outcome → Status
status_of_waiting (outcome.One r) = status_without_reply (status_of r)
status_of_waiting (outcome.Each rs) = status.ReplyWaits
