-- What a thread takes beside the manager may cross: a script, and the room for its answers.
use denote.RattleType.{RattleType}
use denote.Param.Send.{IsSend, IsSync, sendable}
use denote.Struct.Tuple.{TupleAt}
use Rattle.std.proofs.Common.{ℕ, List, [], ◌∷◌}
use Rattle.std.proofs.Crossing.{crosses}
use Rattle.value.proofs.refusals.Refusal.TheSendSync as Refusal
use Rattle.value.proofs.texts.Text.TheSendSync as Text
use Rattle.alone.proofs.answers.Answer.TheSendSync as Answer
use Rattle.syntax.proofs.trees.Condition.TheLaws.TheKnot as conditions
use Rattle.syntax.specs.contracts.trees.Condition as Condition
use Rattle.syntax.specs.contracts.trees.Expression as Expression
use Rattle.syntax.specs.contracts.trees.ColumnName as ColumnName
use Rattle.syntax.specs.contracts.statements.Assignment as Assignment
use Rattle.syntax.specs.contracts.statements.DerivedColumn as DerivedColumn
use Rattle.syntax.specs.contracts.statements.ScriptLine as ScriptLine
use Rattle.syntax.specs.contracts.statements.Select as Select
use Rattle.journal.specs.declared.device.Device as device
use Rattle.threads.specs.contracts.keeping.Commits as Commits
use Rattle.threads.specs.contracts.keeping.Keeping as Keeping
use Rattle.threads.specs.contracts.runs.Room as Room
use Rattle.threads.specs.contracts.scripts.Script as Script

Expression-sync : IsSync Expression.the_field.row
Expression-sync = search (conditions.crosses, crosses, sendable) depth 60 fits 20000

Condition-sync : IsSync Condition.the_field.row
Condition-sync = search (conditions.crosses, crosses, sendable) depth 60 fits 20000

Assignment-sync : IsSync Assignment.the_row
Assignment-sync = search (Expression-sync, crosses, sendable) depth 60 fits 20000

DerivedColumn-sync : IsSync DerivedColumn.the_row
DerivedColumn-sync = search (Expression-sync, Text.the_sync, crosses, sendable) depth 60 fits 20000

ColumnName-sync : IsSync ColumnName.the_row
ColumnName-sync = search (Text.the_sync, crosses, sendable) depth 60 fits 20000

Select-sync : IsSync Select.the_field.row
Select-sync =
    search (Condition-sync, DerivedColumn-sync, ColumnName-sync, Text.the_sync, crosses, sendable) depth 60 fits 20000

ScriptLine-sync : IsSync ScriptLine.the_row
ScriptLine-sync = search (Condition-sync, Assignment-sync, Select-sync, Text.the_sync, crosses, sendable) depth 60 fits 20000

pub Script-sync : IsSync Script.the_row
Script-sync = search (ScriptLine-sync, Text.the_sync, crosses, sendable) depth 60 fits 20000

pub Room-send : IsSend Room.the_row
Room-send = search (Answer.the_send, Refusal.the_send, crosses, sendable) depth 60 fits 20000

-- who keeps commits, over any file that may cross
pub Keeping-send : (D : RattleType) (g : device.Ghosts D.Denot) → IsSend D → IsSend (Keeping.the_row D g)
Keeping-send D g s = search (crosses, sendable) depth 60 fits 20000

-- and so threads may share how commits are made
pub Commits-sync : (D : RattleType) (g : device.Ghosts D.Denot) → IsSend D → IsSync (Commits.the_row D g)
Commits-sync D g s = search (Keeping-send, crosses, sendable) depth 60 fits 20000

-- a closure crosses if its seven captures do, whatever its name
pub seven-send : (ν : List ℕ) (A B C D E F G : RattleType) → IsSend A → IsSend B → IsSend C → IsSend D → IsSend E → IsSend F → IsSend G
    → IsSend (TupleAt ν (A ∷ B ∷ C ∷ D ∷ E ∷ F ∷ G ∷ []))
seven-send ν A B C D E F G a b c d e f g = search sendable depth 60 fits 20000
