-- An event that makes no commit asks nobody to keep one.
use Rattle.std.proofs.Common.{◌≡◌, ℕ, Bool, true, false, List, Option, None, Some, Result, Ok, Err, refl, subst, sym}
use Rattle.std.specs.Prelude.{if◌then◌else◌}
use Rattle.table.specs.declared.rows.Change.{Change}
use Rattle.value.specs.declared.refusals.Refusal.{Refusal}
use Rattle.value.specs.declared.refusals.Refusal.TheVariants.{EpochFull}
use Rattle.syntax.specs.declared.statements.Statement.{Statement}
use Rattle.syntax.specs.declared.statements.Event.{Event}
use Rattle.syntax.specs.declared.statements.Event.TheVariants.{Begin, BeginReadOnly, Commit, Rollback, Run}
use Rattle.alone.specs.declared.answers.Answer.{Answer}
use Rattle.alone.specs.declared.answers.Answer.TheVariants.{Begun, Refused}
use Rattle.alone.specs.declared.answers.Reply.{Reply}
use Rattle.conflict.specs.Live.{has_begin_number}
use Rattle.alone.specs.Resolve.{resolution_of}
use Rattle.txn.specs.Transactions.{OpenTransaction, step_of}
use Rattle.commit.specs.Cores.{CoreState, with_begun}
use Rattle.commit.specs.Events.{IsReply, answer_of, begin_answer, core_after, core_after_begin, run_answer}
use Rattle.commit.specs.Keepers.{IsAskedFor}

module _ {K : Type 0} (did_keep : K → K → ℕ → List Change → Bool → Type 0) (k : K) (before : CoreState) where
  abbrev AsksNobody : CoreState → Answer → Type 0
  AsksNobody after answer = IsAskedFor did_keep k k before.records after.records (Ok answer)

  at_begin : (read_only has : Bool) (number : ℕ)
      → AsksNobody (if has then with_begun read_only before else before) (if has then Begun number else Refused EpochFull)
  at_begin read_only true number = (refl, refl)
  at_begin read_only false number = (refl, refl)

  begun : (read_only : Bool) (t : Option OpenTransaction) → AsksNobody (core_after_begin before read_only t) (begin_answer before t)
  begun read_only None = at_begin read_only (has_begin_number before.live) _
  begun read_only (Some t) = (refl, refl)

  replied : (reply : Result Reply Refusal) → AsksNobody before (answer_of reply)
  replied (Ok reply) = (refl, refl)
  replied (Err refusal) = (refl, refl)

  ran : (statement : Statement) (t : Option OpenTransaction) → AsksNobody before (run_answer statement t)
  ran statement None = (refl, refl)
  ran statement (Some t) = replied (step_of t (resolution_of t.declared t.read_only statement)).reply

  pub asks_nobody : (session : List ℕ) (event : Event) → (event ≡ Commit → ⊥) → (t : Option OpenTransaction) (answer : Answer)
      → IsReply before session event t answer → AsksNobody (core_after before session event t answer) answer
  asks_nobody session Begin other t answer is = subst (AsksNobody (core_after_begin before false t)) (sym is) (begun false t)
  asks_nobody session BeginReadOnly other t answer is = subst (AsksNobody (core_after_begin before true t)) (sym is) (begun true t)
  asks_nobody session (Run statement) other t answer is = subst (AsksNobody before) (sym is) (ran statement t)
  asks_nobody session Commit other t answer is = absurd (other refl)
  asks_nobody session Rollback other None answer is = subst (AsksNobody before) (sym is) (refl, refl)
  asks_nobody session Rollback other (Some t) answer is =
      subst (AsksNobody (core_after before session Rollback (Some t) answer)) (sym is) (refl, refl)
