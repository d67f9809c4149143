-- The first that holds of what a COMMIT can be answered.
use Rattle.std.proofs.Common.{◌≡◌, ◌+◌, ℕ, length, Bool, true, false, List, [], ◌∷◌, Option, Some, None, Result, Ok, Err, refl, subst}
use Rattle.std.specs.Prelude.{◌==◌}
use Rattle.value.specs.declared.refusals.Refusal.{Refusal}
use Rattle.value.specs.declared.refusals.Refusal.TheVariants.{NoMemory}
use Rattle.value.specs.declared.values.Root.{Root}
use Rattle.table.specs.Rows.{Layout}
use Rattle.assertion.specs.declared.assertions.Assertion.{Assertion}
use Rattle.assertion.specs.Meaning.{State, least_bad_of}
use Rattle.alone.specs.Checks.{refusal_at, violation}
use Rattle.alone.specs.declared.records.Record.{Record}
use Rattle.alone.specs.Answer.{IsAnswer, Number}
use Rattle.txn.specs.Transactions.{OpenTransaction, outcome_of}
use Rattle.commit.specs.declared.decisions.Decision.{Decision}
use Rattle.commit.specs.declared.decisions.Decision.TheVariants.{Accepted, Refused}
use Rattle.commit.specs.Cores.{CoreState, IsDecided, IsJudged, log_of, record_of}
use Rattle.commit.specs.Decisions.{IsDecision, IsJudgment}

-- a violation is no want of memory
named : (name : List ℕ) (root : Option Root) (rest : Option Refusal) → (rest ≡ Some NoMemory → ⊥) → refusal_at name root rest ≡ Some NoMemory → ⊥
named name None rest h e = h e
named name (Some root) rest h e = cc

pub violation_named : (layouts : List Layout) (assertions : List Assertion) (state : State) → violation layouts assertions state ≡ Some NoMemory → ⊥
violation_named layouts [] state = λ e. cc
violation_named layouts (a ∷ rest) state = named a.name (least_bad_of layouts a.form state) (violation layouts rest state) (violation_named layouts rest state)

module _ (c : CoreState) (commit : Record) where
  pub by_assertion : (refused : Option Refusal) (full : Bool) (refusal : Refusal) → Some refusal ≡ refused → IsDecided c commit refused full (Err refusal)
  by_assertion refused full refusal e = subst (λ r. IsDecided c commit r full (Err refusal)) e refl

  pub judged_by : (refused : Option Refusal) (full : Bool) (answer : Result ℕ Refusal) → None ≡ refused → false ≡ full → IsJudged c commit answer → IsDecided c commit refused full answer
  judged_by refused full answer e f h =
      subst (λ r. IsDecided c commit r full answer) e (subst (λ b. IsDecided c commit None b answer) f h)

  -- an accepted COMMIT has passed all
  pub record Passed (refused : Option Refusal) (full : Bool) (number : ℕ) : Type 0 where
    pub satisfied : refused ≡ None
    pub room : full ≡ false
    pub answer : IsAnswer (log_of c) commit (Number number)

  pub passed : (refused : Option Refusal) (full : Bool) (number : ℕ) → IsDecided c commit refused full (Ok number) → Passed refused full number
  passed (Some refusal) full number h = let no : ⊥ = cc in absurd no
  passed None true number h = let no : ⊥ = cc in absurd no
  passed None false number h = record { satisfied = refl; room = refl; answer = h }

-- what the commits before it decide, where no assertion is false and the epoch has room
pub decided_by : (c : CoreState) (session : List ℕ) (t : OpenTransaction) (d : Decision) → None ≡ (outcome_of t).refused → false ≡ (length c.records == c.limit)
    → IsJudgment c (record_of c session t) d → IsDecision c session t d
decided_by c session t (Accepted place) e f h =
    (judged_by c (record_of c session t) (outcome_of t).refused (length c.records == c.limit) (Ok (length c.records + 1)) e f h.0, h.1)
decided_by c session t (Refused refusal) e f h =
    (judged_by c (record_of c session t) (outcome_of t).refused (length c.records == c.limit) (Err refusal) e f h.0, h.1)
