-- Who keeps commits has done what its writer has done.
use Rattle.std.proofs.Common.{◌≡◌, ◌∙◌, ◌+◌, ℕ, Bool, true, false, List, ap, inl, inr, refl, sym, subst}
use Rattle.std.specs.Prelude.{◌⊎◌, if◌then◌else◌, not}
use Rattle.table.specs.declared.rows.Change.{Change}
use Rattle.durable.specs.declared.writers.Writer.{Writer}
use Rattle.durable.specs.Promise.{DidKeep, IsReadyFor}
use Rattle.durable.specs.Writing as writing
use Rattle.value.specs.declared.refusals.Refusal.{Refusal}
use Rattle.alone.specs.declared.answers.Answer.{Answer}
use Rattle.alone.specs.declared.answers.Answer.TheVariants.{Committed, Refused}
use Rattle.syntax.specs.declared.statements.Event.TheVariants.{Commit}
use Rattle.session.specs.Answers.{IsUnkept}
use Rattle.threads.specs.Keeping.{HasAnswered, HasKeptNext, IsKeptAs, KeepingState}
use Rattle.threads.specs.Lines.{IsMarked}

module _ {D : Type 0} (seen : D → List ℕ) (may_leave : D → List ℕ → Type 0) (moment : D → ℕ)
    (left_since : D → ℕ → List ℕ → Type 0) where
  -- the writer, which syncs each commit by itself, was asked for the next
  pub has_answered : (old new : KeepingState D) (number : ℕ) (changes : List Change) (kept : Bool) → number ≡ old.next
      → old.writer.is_sharing ≡ false → new.next ≡ (if kept then number + 1 else number) → new.has_failed ≡ not kept
      → DidKeep seen may_leave moment left_since old.writer new.writer number changes kept
      → HasAnswered seen may_leave moment left_since old new number changes kept
  has_answered old new number changes true at alone next failed did =
      record { due = at; next = next; well = failed; did = did; none = did.at_once alone }
  has_answered old new number changes false at alone next failed did =
      record { next = next ∙ at; noted = failed; did = inr did }

  -- and can be asked again
  pub ready_again : (old new : Writer D) (number next later : ℕ) (changes : List Change) (kept : Bool) → number ≡ next
      → later ≡ (if kept then number + 1 else number) → IsReadyFor seen may_leave next old
      → DidKeep seen may_leave moment left_since old new number changes kept → IsReadyFor seen may_leave later new
  ready_again old new number next later changes kept at later_is ready did =
      subst (λ n. IsReadyFor seen may_leave n new) (sym later_is)
      (writing.ready_again seen may_leave moment left_since old new number changes kept
      (subst (λ n. IsReadyFor seen may_leave n old) (sym at) ready) did)

  -- a COMMIT that is answered a number was kept under it
  pub kept_as : (old between new : KeepingState D) (changes : List Change) (answer : Answer) (number : ℕ) (is_unkept : Bool)
      → between ≡ record old { has_failed = false } → answer ≡ Committed number
      → HasAnswered seen may_leave moment left_since between new number changes true
      → IsKeptAs seen may_leave moment left_since old new changes answer is_unkept
  kept_as old between new changes answer number is_unkept same is kept =
      subst (λ a. IsKeptAs seen may_leave moment left_since old new changes a is_unkept) (sym is)
      (let k = subst (λ b. HasKeptNext seen may_leave moment left_since b new number changes) same kept in
      record { due = k.due; next = k.next; well = k.well; did = k.did; none = k.none })

  refused_as : (old between new : KeepingState D) (changes : List Change) (refusal : Refusal) (is_unkept : Bool)
      → between ≡ record old { has_failed = false } → is_unkept ≡ new.has_failed
      → IsUnkept (HasAnswered seen may_leave moment left_since) between new changes refusal
      → IsKeptAs seen may_leave moment left_since old new changes (Refused refusal) is_unkept
  refused_as old between new changes refusal is_unkept same noted (inl untouched) =
      subst (λ u. IsKeptAs seen may_leave moment left_since old new changes (Refused refusal) u)
      (sym (noted ∙ ap (λ (k : KeepingState D). k.has_failed) (untouched ∙ same)))
      (ap (λ (k : KeepingState D). k.writer) (untouched ∙ same), ap (λ (k : KeepingState D). k.next) (untouched ∙ same))
  refused_as old between new changes refusal is_unkept same noted (inr asked) =
      let failed = asked.1.1 in
      subst (λ u. IsKeptAs seen may_leave moment left_since old new changes (Refused refusal) u) (sym (noted ∙ failed.noted)) (
        asked.1.0,
        record {
          next = failed.next ∙ ap (λ (k : KeepingState D). k.next) same;
          noted = failed.noted;
          did = subst (λ (k : KeepingState D). (new.writer ≡ k.writer) ⊎ DidKeep seen may_leave moment left_since k.writer new.writer asked.1.0 changes false) same failed.did;
        },
      )

  -- one that is refused was asked for in vain, or nobody was asked
  pub unkept_as : (old between new : KeepingState D) (changes : List Change) (answer : Answer) (refusal : Refusal) (is_unkept : Bool)
      → between ≡ record old { has_failed = false } → answer ≡ Refused refusal → is_unkept ≡ new.has_failed
      → IsUnkept (HasAnswered seen may_leave moment left_since) between new changes refusal
      → IsKeptAs seen may_leave moment left_since old new changes answer is_unkept
  unkept_as old between new changes answer refusal is_unkept same is noted asked =
      subst (λ a. IsKeptAs seen may_leave moment left_since old new changes a is_unkept) (sym is)
      (refused_as old between new changes refusal is_unkept same noted asked)

  -- and where it is marked, it is refused as for want of memory
  pub marked : (old between new : KeepingState D) (changes : List Change) (answer : Answer) (refusal : Refusal) (is_unkept : Bool)
      → between ≡ record old { has_failed = false } → answer ≡ Refused refusal → is_unkept ≡ new.has_failed
      → IsUnkept (HasAnswered seen may_leave moment left_since) between new changes refusal → IsMarked Commit answer is_unkept
  marked old between new changes answer refusal is_unkept same is noted (inl untouched) =
      subst (λ u. IsMarked Commit answer u) (sym (noted ∙ ap (λ (k : KeepingState D). k.has_failed) (untouched ∙ same))) tt
  marked old between new changes answer refusal is_unkept same is noted (inr asked) =
      subst (λ u. IsMarked Commit answer u) (sym (noted ∙ asked.1.1.noted)) (refl, is ∙ ap Refused asked.0)
