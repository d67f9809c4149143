-- What the commits before it make of a transaction, as its COMMIT is answered.
use Rattle.std.proofs.Common.{◌≡◌, ℕ, List, None, sym, subst}
use Rattle.std.specs.Prelude.{slice_index_or}
use Rattle.value.specs.declared.refusals.Refusal.{Refusal}
use Rattle.value.specs.declared.values.Value.TheVariants.{Null}
use Rattle.table.specs.declared.rows.Change.{Change}
use Rattle.conflict.specs.declared.dangers.Danger.{Danger}
use Rattle.conflict.specs.declared.dangers.Danger.TheVariants.{AsPivot, AsReader}
use Rattle.conflict.specs.declared.verdicts.Judgment.TheVariants.{Fine, Dangerous}
use Rattle.conflict.specs.Judged.{IsConflictAt, IsJudgmentOf}
use Rattle.txn.specs.Transactions.{OpenTransaction}
use Rattle.commit.specs.declared.decisions.Decision.TheVariants.{Accepted, Refused}
use Rattle.commit.specs.Cores.{CoreState, log_of, record_of}
use Rattle.commit.specs.Decisions.{IsConflictOf, IsJudgment, danger_refusal}

module _ (s : CoreState) (session : List ℕ) (t : OpenTransaction) where
  pub judged_fine : (place : ℕ) → IsJudgmentOf (log_of s) (record_of s session t) (Fine place) → IsJudgment s (record_of s session t) (Accepted place)
  judged_fine place v = (v.0, v.1)

  pub judged_danger : (danger : Danger) (refusal : Refusal) → refusal ≡ danger_refusal danger → IsJudgmentOf (log_of s) (record_of s session t) (Dangerous danger)
      → IsJudgment s (record_of s session t) (Refused refusal)
  judged_danger (AsPivot reader writer) refusal e v =
      subst (λ r. IsJudgment s (record_of s session t) (Refused r)) (sym e) (v, λ none. cc)
  judged_danger (AsReader pivot writer) refusal e v =
      subst (λ r. IsJudgment s (record_of s session t) (Refused r)) (sym e) (v, λ none. cc)

  pub judged_conflict : (row by : ℕ) (refusal : Refusal) → IsConflictAt (log_of s) (record_of s session t) row by
      → ((change : Change) → IsConflictOf s.declared.tables (slice_index_or (record_of s session t).changes row change) by refusal) → IsJudgment s (record_of s session t) (Refused refusal)
  judged_conflict row by refusal at of =
      let some : Change = record { table = 0; key = Null; old = None; new = None } in
      let named = of some in
      subst (λ r. IsJudgment s (record_of s session t) (Refused r)) (sym named.is) (
        record { table = (slice_index_or (record_of s session t).changes row some).table; named = named.named; answer = at.answer some },
        λ none. cc,
      )
