-- What stands behind a handle, and what one call makes of it.
use Rattle.std.specs.Prelude.{◌≡◌, ◌⊎◌, ◌<◌, ◌≤◌, ℕ, ℤ, pos, List, [], ◌∷◌, ◌++◌, length, take, drop, Option, Some, None}
use Rattle.value.specs.declared.refusals.Refusal.{Refusal}
use Rattle.table.specs.declared.schemas.Column.{Column}
use Rattle.messages.specs.Reading.{number_at}
use Rattle.messages.specs.declared.operations.Operation.{Operation}
use Rattle.messages.specs.declared.operations.Operation.TheVariants as op
use Rattle.messages.specs.declared.responses.Misuse.TheVariants as misuse
use Rattle.messages.specs.declared.responses.Outcome.{Outcome}
use Rattle.messages.specs.declared.responses.Outcome.TheVariants as outcome
use Rattle.messages.specs.declared.responses.Response.{Response}
use Rattle.messages.specs.declared.responses.Response.TheVariants as response
use Rattle.messages.specs.declared.responses.Source.TheVariants as source
use Rattle.messages.specs.Operations.{operation_of}
use Rattle.messages.specs.Replies.{line_of, number_reply, response_bytes, text_reply}
use Rattle.messages.specs.Statuses.{status_number, status_of_outcome, status_of_waiting}
use Rattle.calls.specs.declared.databases.Database.{Database}
use Rattle.calls.specs.declared.journals.Taken.{Taken}
use Rattle.calls.specs.declared.journals.Taken.TheVariants as taken
use Rattle.calls.specs.Calls.{IsBegun, IsUnbegun, all_columns}
use Rattle.calls.specs.Journals as journals
use Rattle.calls.specs.Serving.{IsServed}

-- a database, unless its definitions were refused, and what the last call was answered
pub record LibraryState : Type 0 where
  pub database : Option Database
  pub outcome : Outcome

-- there is none, for this reason
abbrev pub IsWithout : Response → LibraryState → Type 0
IsWithout r s = s ≡ record { database = None; outcome = outcome.One r }

-- ---- the first

-- the definitions are taken in
pub record IsTakenIn (definitions : List ℕ) (limit : ℕ) (s : LibraryState) : Type 0 where
  pub now : Database
  pub database : s.database ≡ Some now
  pub begun : IsBegun definitions limit now
  pub told : s.outcome ≡ outcome.One response.Opened

-- or they are refused
pub record IsRefused (definitions : List ℕ) (s : LibraryState) : Type 0 where
  pub why : Refusal
  pub unbegun : IsUnbegun definitions why
  pub is : IsWithout (response.Refused source.Definitions why) s

-- what the request has is no number of commits, and definitions
abbrev pub IsMisused : LibraryState → Type 0
IsMisused s = IsWithout (response.Misused misuse.BadRequest) s

-- how many commits an epoch may have at most: 2^32 - 1
abbrev pub most_commits : ℕ
most_commits = 4294967295

-- what is opened by a request of which this was read: a limit of commits, and definitions
abbrev pub IsOpenedBy : Option (ℕ × List ℕ) → LibraryState → Type 0
IsOpenedBy None s = IsMisused s
IsOpenedBy (Some read) s =
    ((read.0 ≤ most_commits) × (IsTakenIn read.1 read.0 s ⊎ IsRefused read.1 s))
    ⊎ ((most_commits < read.0) × IsMisused s)

-- what a request opens
abbrev pub IsOpened : List ℕ → LibraryState → Type 0
IsOpened request s = IsOpenedBy (number_at request) s

-- a database on the journal in a file
pub record IsTakenOn (definitions : List ℕ) (limit : ℕ) (file : List ℕ) (s : LibraryState) : Type 0 where
  pub now : Database
  pub database : s.database ≡ Some now
  pub begun : journals.IsBegunOn definitions limit file now
  pub told : s.outcome ≡ outcome.One response.Opened

-- or there is none
pub record IsUnopened (definitions file : List ℕ) (s : LibraryState) : Type 0 where
  pub response : Response
  pub unopened : journals.IsUnopened definitions file response
  pub is : IsWithout response s

-- what is opened on a file by a request of which this was read
abbrev pub IsOpenedOnBy : Option (ℕ × List ℕ) → (file : List ℕ) → LibraryState → Type 0
IsOpenedOnBy None file s = IsMisused s
IsOpenedOnBy (Some read) file s =
    ((read.0 ≤ most_commits) × (IsTakenOn read.1 read.0 file s ⊎ IsUnopened read.1 file s))
    ⊎ ((most_commits < read.0) × IsMisused s)

-- what a request opens on a file
abbrev pub IsOpenedOn : (request file : List ℕ) → LibraryState → Type 0
IsOpenedOn request file s = IsOpenedOnBy (number_at request) file s

-- ---- the calls on a journal's file that wait

-- 0 where they are handed out, 1 where they do not fit, 2 without memory
abbrev pub taken_status : Taken → ℤ
taken_status taken.Whole = pos 0
taken_status taken.TooLong = pos 1
taken_status taken.NotKept = pos 2

-- a database hands them out, where they fit
pub record AreTakenFrom (old new : Database) (before after : List ℕ) (len : ℕ) (status : ℤ) : Type 0 where
  pub is : Taken
  pub taken : journals.AreTaken old new before after len is
  pub status_is : status ≡ taken_status is

-- without a database there are none
pub record AreNone (before after : List ℕ) (len : ℕ) (status : ℤ) : Type 0 where
  pub bytes : after ≡ before
  pub length_is : len ≡ 0
  pub status_is : status ≡ pos 0

-- the same of what may be no database
abbrev pub AreTakenIf : (old new : Option Database) → (before after : List ℕ) → (len : ℕ) → (status : ℤ) → Type 0
AreTakenIf None None before after len status = AreNone before after len status
AreTakenIf (Some old) (Some new) before after len status = AreTakenFrom old new before after len status
AreTakenIf old new before after len status = ⊥

-- what the last call was answered stays
abbrev pub AreTaken : (old new : LibraryState) → (before after : List ℕ) → (len : ℕ) → (status : ℤ) → Type 0
AreTaken old new before after len status =
    AreTakenIf old.database new.database before after len status × (new.outcome ≡ old.outcome)

-- ---- a call

-- an operation on the database
abbrev pub IsMade : Operation → List ℕ → Option Database → Option Database → Outcome → Type 0
IsMade operation request None None o = o ≡ outcome.One (response.Misused misuse.Closed)
IsMade operation request None (Some new) o = ⊥
IsMade operation request (Some old) None o = ⊥
IsMade operation request (Some old) (Some new) o = IsServed operation request old new o

-- asking for what the last call was answered changes nothing
abbrev pub IsCalledFor : Option Operation → List ℕ → LibraryState → LibraryState → Type 0
IsCalledFor None request old new = new ≡ record old { outcome = outcome.One (response.Misused misuse.BadRequest) }
IsCalledFor (Some op.Again) request old new = new ≡ old
IsCalledFor (Some op.Line) request old new = new ≡ old
IsCalledFor (Some operation) request old new = IsMade operation request old.database new.database new.outcome

-- what a call makes, by the number of its operation
abbrev pub IsCalled : ℕ → List ℕ → LibraryState → LibraryState → Type 0
IsCalled operation request old new = IsCalledFor (operation_of operation) request old new

-- ---- its reply

-- the columns of the table of the SELECT that was answered; none where there is no database
abbrev pub columns_of : Option Database → Response → List Column
columns_of None r = []
columns_of (Some now) r = all_columns r now

-- the bytes of a response for an operation: its own, or those of its line
abbrev pub reply_to : Option Operation → Option Database → Response → List ℕ
reply_to None now r = response_bytes (columns_of now r) r
reply_to (Some op.Line) now r = text_reply (line_of r)
reply_to (Some operation) now r = response_bytes (columns_of now r) r

-- those of several responses, one behind the other
abbrev pub each_reply : (Response → List ℕ) → List Response → List ℕ
each_reply reply [] = []
each_reply reply (r ∷ rs) = reply r ++ each_reply reply rs

-- how many they are, and each
abbrev pub replies_to : (Response → List ℕ) → List Response → List ℕ
replies_to reply rs = number_reply 17 (length rs) ++ each_reply reply rs

-- the bytes of what a call was answered
abbrev pub outcome_bytes : (Response → List ℕ) → Outcome → List ℕ
outcome_bytes reply (outcome.One r) = reply r
outcome_bytes reply (outcome.Each rs) = replies_to reply rs

-- the bytes of the reply to an operation
abbrev pub reply_for : Option Operation → LibraryState → List ℕ
reply_for operation s = outcome_bytes (reply_to operation s.database) s.outcome

-- a buffer after a text was written over its front, as far as the text fits
abbrev pub buffer_after : List ℕ → List ℕ → List ℕ
buffer_after buf text = take (length buf) text ++ drop (length text) buf

-- the reply is in the buffer as far as it fits, and len says how long it is
pub record IsWritten (reply : List ℕ) (o : Outcome) (old new : List ℕ) (len : ℕ) (status : ℤ) : Type 0 where
  pub bytes : new ≡ buffer_after old reply
  pub length_is : len ≡ length reply
  pub status_is : status ≡ status_number (status_of_outcome o)

-- there was no memory for it
pub record Waits (o : Outcome) (old new : List ℕ) (len : ℕ) (status : ℤ) : Type 0 where
  pub bytes : new ≡ old
  pub length_is : len ≡ 0
  pub status_is : status ≡ status_number (status_of_waiting o)

-- what a call returns: its reply is in the buffer, or waits for memory
abbrev pub IsReplied : ℕ → LibraryState → List ℕ → List ℕ → ℕ → ℤ → Type 0
IsReplied operation s old new len status =
    IsWritten (reply_for (operation_of operation) s) s.outcome old new len status ⊎ Waits s.outcome old new len status
