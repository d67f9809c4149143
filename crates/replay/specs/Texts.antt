-- The two texts of a script, and the first fault in them.
use Rattle.std.specs.Prelude.{◌≡◌, ◌≤◌, ◌<◌, ℕ, Bool, true, false, List, [], Ok, Err, length, ⊤, ◌⊎◌}
use Rattle.value.specs.declared.refusals.Refusal.{Refusal}
use Rattle.value.specs.declared.refusals.Refusal.TheVariants.{TooManySessions}
use Rattle.syntax.specs.Language.{Language}
use Rattle.syntax.specs.Lexemes.{lexemes}
use Rattle.syntax.specs.Answer.{Fits}
use Rattle.syntax.specs.declared.definitions.Definition.{Definition}
use Rattle.syntax.specs.declared.statements.ScriptLine.{ScriptLine}
use Rattle.syntax.specs.SchemaGrammar.{IsSchema, IsScript}
use Rattle.parse.specs.Told.{IsRefusalOf, most_open}
use Rattle.delta.specs.Views.{ViewState}
use Rattle.definitions.specs.Written.{AreWritten}
use Rattle.commit.specs.Admission.{admission_of}
use Rattle.commit.specs.Runs.{seats_with_all}
use Rattle.replay.specs.declared.faults.ProgramFault.{ProgramFault}
use Rattle.replay.specs.declared.faults.ProgramFault.TheVariants.{Defs, Script, Stopped, Output, NoThread}

-- a text has a tree by its grammar, and no parenthesis opens while too many are open
pub record IsRead {A : Type 0} (L : Language A) (text : List ℕ) (tree : A) : Type 0 where
  pub has : L (lexemes text) tree
  pub shallow : Fits most_open (lexemes text)

-- a text has none, for the reason that the refusal gives
abbrev pub IsUnread : {A : Type 0} → Language A → List ℕ → Refusal → Type 0
IsUnread L text refusal = IsRefusalOf L most_open (lexemes text) (length text) refusal

-- both texts are read
pub record AreRead (defs script : List ℕ) (definitions : List Definition) (lines : List ScriptLine) : Type 0 where
  pub defs_read : IsRead IsSchema defs definitions
  pub script_read : IsRead IsScript script lines

-- both texts are read, and the definitions are admitted; each assertion means what they write
pub record AreAdmitted (defs script : List ℕ) (shown : ViewState) (lines : List ScriptLine) : Type 0 where
  pub definitions : List Definition
  pub read : AreRead defs script definitions lines
  pub admits : admission_of definitions ≡ Ok shown
  pub written : AreWritten definitions shown.declared

-- how many sessions a script may have, and how many are too many
abbrev pub most_sessions : ℕ
most_sessions = 256

-- a script has no more sessions than it may have
abbrev pub HasFewSessions : List ScriptLine → Type 0
HasFewSessions lines = length (seats_with_all [] lines) ≤ most_sessions

-- a script has more sessions than it may have
abbrev pub HasManySessions : List ScriptLine → Type 0
HasManySessions lines = most_sessions < length (seats_with_all [] lines)

-- both texts are read, the definitions are admitted, and the script has few sessions
pub record AreReady (defs script : List ℕ) (shown : ViewState) (lines : List ScriptLine) : Type 0 where
  pub admitted : AreAdmitted defs script shown lines
  pub few : HasFewSessions lines

-- both texts are read, and the definitions are refused so
pub record AreRefused (defs script : List ℕ) (refusal : Refusal) : Type 0 where
  pub definitions : List Definition
  pub lines : List ScriptLine
  pub read : AreRead defs script definitions lines
  pub refused : admission_of definitions ≡ Err refusal

-- the definitions are read, and the script is no text of its grammar
pub record IsNoScript (defs script : List ℕ) (refusal : Refusal) : Type 0 where
  pub definitions : List Definition
  pub defs_read : IsRead IsSchema defs definitions
  pub refused : IsUnread IsScript script refusal

-- the definitions are admitted, and the script has too many sessions
pub record HasTooManySessions (defs script : List ℕ) (refusal : Refusal) : Type 0 where
  pub shown : ViewState
  pub lines : List ScriptLine
  pub taken : AreAdmitted defs script shown lines
  pub many : HasManySessions lines
  pub refused : refusal ≡ TooManySessions

-- the script is run
pub record IsRun (defs script : List ℕ) : Type 0 where
  pub shown : ViewState
  pub lines : List ScriptLine
  pub ready : AreReady defs script shown lines

-- Why the run did not come to its end, by the first fault in the order of the work: the definitions are no text of
-- their grammar; or they are, and the script is none of its own; or both are read, and the definitions have a
-- fault; or they are admitted, and the script has too many sessions; or it is run, and memory or the writer ends
-- the run. A session that was not run does not end it.
abbrev pub IsFirstFault : List ℕ → List ℕ → ProgramFault → Type 0
IsFirstFault defs script (Defs refusal) = IsUnread IsSchema defs refusal ⊎ AreRefused defs script refusal
IsFirstFault defs script (Script refusal) = IsNoScript defs script refusal ⊎ HasTooManySessions defs script refusal
IsFirstFault defs script Stopped = IsRun defs script
IsFirstFault defs script Output = IsRun defs script
IsFirstFault defs script NoThread = ⊥

-- whether nothing was run
abbrev pub is_before_the_run : ProgramFault → Bool
is_before_the_run (Defs refusal) = true
is_before_the_run (Script refusal) = true
is_before_the_run Stopped = false
is_before_the_run Output = false
is_before_the_run NoThread = false

-- memory or the writer ended the run
abbrev pub IsInTheRun : ProgramFault → Type 0
IsInTheRun (Defs refusal) = ⊥
IsInTheRun (Script refusal) = ⊥
IsInTheRun Stopped = ⊤
IsInTheRun Output = ⊤
IsInTheRun NoThread = ⊥
