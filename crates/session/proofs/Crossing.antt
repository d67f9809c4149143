-- Which types may cross threads, from the inside out: each lemma spares the next search what it shows.
use denote.RattleType.{RattleType}
use denote.Param.Send.{IsSend, IsSync, sendable}
use Rattle.alone.specs.contracts.statements.ResolvedStatement as ResolvedStatement
use Rattle.assertion.specs.contracts.assertions.Assertion as Assertion
use Rattle.assertion.specs.contracts.forms.Form as Form
use Rattle.commit.specs.contracts.cores.Core as Core
use Rattle.assertcheck.specs.contracts.deletes.Delete as Delete
use Rattle.form_check.specs.contracts.summaries.GroupCondition as GroupCondition
use Rattle.form_check.specs.contracts.summaries.Summary as Summary
use Rattle.assertcheck.specs.contracts.groupings.Grouping as Grouping
use Rattle.assertcheck.specs.contracts.selects.Listing as Listing
use Rattle.assertcheck.specs.contracts.selects.Select as Select
use Rattle.assertcheck.specs.contracts.updates.Setting as Setting
use Rattle.assertcheck.specs.contracts.updates.Update as Update
use Rattle.commit.specs.contracts.prepared.Prepared as Prepared
use Rattle.txn.specs.contracts.closed.ClosedTransaction as ClosedTransaction
use Rattle.value.proofs.texts.Text.TheSendSync as Text
use Rattle.siread.proofs.keys.LockKey.TheSendSync as LockKey
use Rattle.siread.proofs.locks.LockTable.TheSendSync as LockTable
use Rattle.changes.proofs.touched.TouchedRows.TheSendSync as Touched
use Rattle.boxcar.proofs.slot.OnceSlot.TheSendSync as OnceSlot
use Rattle.boxcar.proofs.table.Placed.TheSendSync as Placed
use Rattle.boxcar.proofs.tag.Tag.TheSendSync as Tag
use Rattle.session.specs.declared.named.Named as named
use Rattle.session.specs.contracts.shelf.Shelf as Shelf
use Rattle.session.specs.contracts.manager.Manager as Manager
use Rattle.value.proofs.refusals.Refusal.TheSendSync as Refusal
use Rattle.table.proofs.rows.Change.TheSendSync as Change
use Rattle.table.proofs.rows.Row.TheSendSync as Row
use Rattle.alone.proofs.modes.Modes.TheSendSync as Modes
use Rattle.alone.proofs.answers.RefusedCommit.TheSendSync as RefusedCommit
use Rattle.conflict.proofs.open_snapshots.Live.TheSendSync as Live
use Rattle.table.proofs.conds.Cond.TheLaws.TheKnot as conds
use Rattle.table.proofs.exprs.Expr.TheLaws.TheKnot as exprs
use Rattle.table.specs.contracts.conds.Cond as Cond
use Rattle.table.specs.contracts.exprs.Expr as Expr
use Rattle.delta.specs.contracts.views.Parts as Parts
use Rattle.delta.specs.contracts.views.View as View
use Rattle.groups.specs.contracts.indexes.Index as Index
use Rattle.groups.specs.contracts.key_sets.KeySet as KeySet
use Rattle.mvrows.specs.contracts.rows.Rows as Rows
use Rattle.delta.specs.contracts.watches.Watch as Watch
use Rattle.pages.proofs.nodes.Node.TheLaws.TheKnot as nodes
use Rattle.pages.specs.contracts.pages.Pages as Pages
use Rattle.alone.specs.contracts.records.Record as Record
use Rattle.std.proofs.Crossing.{crosses}
use Rattle.table.proofs.catalogs.Catalog.TheSendSync as Catalog
use Rattle.table.proofs.schemas.Schema.TheSendSync as Schema
use Rattle.session.specs.contracts.book.Book as Book
use Rattle.session.specs.contracts.items.Item as Item
use Rattle.session.specs.contracts.receipts.Receipt as Receipt
use Rattle.session.specs.contracts.sessions.Session as Session

pub Pages-send : (V : RattleType) → IsSend V → IsSync V → IsSend (Pages.the_row V)
Pages-send V s y = search (crosses, nodes.crosses, sendable) depth 60 fits 20000

pub Pages-sync : (V : RattleType) → IsSend V → IsSync V → IsSync (Pages.the_row V)
Pages-sync V s y = search (crosses, nodes.crosses, sendable) depth 60 fits 20000

pub Expr-send : IsSend Expr.the_field.row
Expr-send = search (crosses, exprs.crosses, sendable) depth 60 fits 20000

pub Expr-sync : IsSync Expr.the_field.row
Expr-sync = search (crosses, exprs.crosses, sendable) depth 60 fits 20000

pub Cond-send : IsSend Cond.the_field.row
Cond-send = search (crosses, conds.crosses, exprs.crosses, sendable) depth 60 fits 20000

pub Cond-sync : IsSync Cond.the_field.row
Cond-sync = search (crosses, conds.crosses, exprs.crosses, sendable) depth 60 fits 20000

Form-send : IsSend Form.the_field.row
Form-send = search (Cond-send, crosses, sendable) depth 60 fits 20000

Form-sync : IsSync Form.the_field.row
Form-sync = search (Cond-sync, crosses, sendable) depth 60 fits 20000

Assertion-send : IsSend Assertion.the_row
Assertion-send = search (Form-send, crosses, sendable) depth 60 fits 20000

Assertion-sync : IsSync Assertion.the_row
Assertion-sync = search (Form-sync, crosses, sendable) depth 60 fits 20000

Watch-send : IsSend Watch.the_row
Watch-send = search (Pages-send, Pages-sync, crosses, sendable) depth 60 fits 20000

Watch-sync : IsSync Watch.the_row
Watch-sync = search (Pages-send, Pages-sync, crosses, sendable) depth 60 fits 20000

KeySet-send : IsSend KeySet.the_row
KeySet-send = search (Pages-send, crosses, sendable) depth 60 fits 20000

KeySet-sync : IsSync KeySet.the_row
KeySet-sync = search (Pages-sync, crosses, sendable) depth 60 fits 20000

Index-send : IsSend Index.the_row
Index-send = search (Pages-send, KeySet-send, KeySet-sync, crosses, sendable) depth 60 fits 20000

Index-sync : IsSync Index.the_row
Index-sync = search (Pages-sync, KeySet-send, KeySet-sync, crosses, sendable) depth 60 fits 20000

Rows-send : IsSend Rows.the_row
Rows-send = search (Pages-send, Index-send, Row.the_send, Row.the_sync, crosses, sendable) depth 60 fits 20000

Rows-sync : IsSync Rows.the_row
Rows-sync = search (Pages-sync, Index-sync, Row.the_send, Row.the_sync, crosses, sendable) depth 60 fits 20000

Parts-send : IsSend Parts.the_field.row
Parts-send = search (Rows-send, Assertion-send, Assertion-sync, Watch-send, Watch-sync, Catalog.the_send, Catalog.the_sync, Schema.the_send, Schema.the_sync, crosses, sendable) depth 60 fits 20000

Parts-sync : IsSync Parts.the_field.row
Parts-sync = search (Rows-sync, Assertion-send, Assertion-sync, Watch-send, Watch-sync, Catalog.the_send, Catalog.the_sync, Schema.the_send, Schema.the_sync, crosses, sendable) depth 60 fits 20000

pub View-send : IsSend View.the_row
View-send = search (Parts-send, Parts-sync, crosses, sendable) depth 60 fits 20000

pub View-sync : IsSync View.the_row
View-sync = search (Parts-send, Parts-sync, crosses, sendable) depth 60 fits 20000

Setting-send : IsSend Setting.the_row
Setting-send = search (Expr-send, crosses, sendable) depth 60 fits 20000

Setting-sync : IsSync Setting.the_row
Setting-sync = search (Expr-sync, crosses, sendable) depth 60 fits 20000

Update-send : IsSend Update.the_field.row
Update-send = search (Cond-send, Setting-send, crosses, sendable) depth 60 fits 20000

Update-sync : IsSync Update.the_field.row
Update-sync = search (Cond-sync, Setting-sync, crosses, sendable) depth 60 fits 20000

Delete-send : IsSend Delete.the_field.row
Delete-send = search (Cond-send, crosses, sendable) depth 60 fits 20000

Delete-sync : IsSync Delete.the_field.row
Delete-sync = search (Cond-sync, crosses, sendable) depth 60 fits 20000

Summary-send : IsSend Summary.the_row
Summary-send = search (Expr-send, crosses, sendable) depth 60 fits 20000

Summary-sync : IsSync Summary.the_row
Summary-sync = search (Expr-sync, crosses, sendable) depth 60 fits 20000

GroupCondition-send : IsSend GroupCondition.the_row
GroupCondition-send = search (Cond-send, crosses, sendable) depth 60 fits 20000

GroupCondition-sync : IsSync GroupCondition.the_row
GroupCondition-sync = search (Cond-sync, crosses, sendable) depth 60 fits 20000

Grouping-send : IsSend Grouping.the_field.row
Grouping-send = search (Summary-send, GroupCondition-send, crosses, sendable) depth 60 fits 20000

Grouping-sync : IsSync Grouping.the_field.row
Grouping-sync = search (Summary-sync, GroupCondition-sync, crosses, sendable) depth 60 fits 20000

Listing-send : IsSend Listing.the_field.row
Listing-send = search (Expr-send, Grouping-send, crosses, sendable) depth 60 fits 20000

Listing-sync : IsSync Listing.the_field.row
Listing-sync = search (Expr-sync, Grouping-sync, crosses, sendable) depth 60 fits 20000

Select-send : IsSend Select.the_field.row
Select-send = search (Cond-send, Listing-send, crosses, sendable) depth 60 fits 20000

Select-sync : IsSync Select.the_field.row
Select-sync = search (Cond-sync, Listing-sync, crosses, sendable) depth 60 fits 20000

Resolved-send : IsSend ResolvedStatement.the_row
Resolved-send = search (Update-send, Delete-send, Select-send, Text.the_send, crosses, sendable) depth 60 fits 20000

Resolved-sync : IsSync ResolvedStatement.the_row
Resolved-sync = search (Update-sync, Delete-sync, Select-sync, Text.the_sync, crosses, sendable) depth 60 fits 20000

pub Record-send : IsSend Record.the_row
Record-send = search (Resolved-send, Change.the_send, LockKey.the_send, Text.the_send, crosses, sendable) depth 60 fits 20000

pub Record-sync : IsSync Record.the_row
Record-sync = search (Resolved-sync, Change.the_sync, LockKey.the_sync, Text.the_sync, crosses, sendable) depth 60 fits 20000

pub Item-send : IsSend Item.the_row
Item-send = search (Record-send, View-send, crosses, sendable) depth 60 fits 20000

pub Item-sync : IsSync Item.the_row
Item-sync = search (Record-sync, View-sync, crosses, sendable) depth 60 fits 20000

Closed-send : IsSend ClosedTransaction.the_row
Closed-send = search (Resolved-send, View-send, LockKey.the_send, Touched.the_send, Modes.the_send, Change.the_send, Refusal.the_send, crosses, sendable) depth 60 fits 20000

Prepared-send : IsSend Prepared.the_field.row
Prepared-send = search (Closed-send, View-send, Text.the_send, crosses, sendable) depth 60 fits 20000

pub Core-send : IsSend Core.the_row
Core-send = search (Record-send, View-send, Prepared-send, LockTable.the_send, RefusedCommit.the_send, Live.the_send, crosses, sendable) depth 60 fits 20000

Book-send : (N : RattleType) (g : named.Ghosts N.Denot) → IsSend N → IsSend (Book.the_row N g)
Book-send N g s = search (Core-send, Placed.the_send, crosses, sendable) depth 60 fits 20000

Shelf-send : IsSend Shelf.the_row
Shelf-send = search (Item-send, OnceSlot.the_send, Tag.the_send, crosses, sendable) depth 60 fits 20000

pub Shelf-sync : IsSync Shelf.the_row
Shelf-sync = search (Item-send, Item-sync, OnceSlot.the_send, OnceSlot.the_sync, Tag.the_sync, crosses, sendable) depth 60 fits 20000

pub Manager-sync : (N : RattleType) (g : named.Ghosts N.Denot) → IsSend N → IsSync N → IsSync (Manager.the_row N g)
Manager-sync N g s y = search (Book-send, Shelf-send, Shelf-sync, Placed.the_sync, crosses, sendable) depth 60 fits 20000

-- what a thread may take beside it, or hand on
pub Session-send : (N : RattleType) (g : named.Ghosts N.Denot) → IsSend N → IsSend (Session.the_row N g)
Session-send N g s = search (Text.the_send, crosses, sendable) depth 60 fits 20000

pub Receipt-send : (N : RattleType) (g : named.Ghosts N.Denot) → IsSend N → IsSend (Receipt.the_row N g)
Receipt-send N g s = search (Placed.the_send, crosses, sendable) depth 60 fits 20000
