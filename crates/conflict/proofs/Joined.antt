-- A candidate that may join the commits does: what is kept of them then.
use Rattle.std.proofs.Common.{◌≡◌, ℕ, ◌<◌, true, List, [], ◌∷◌, ◌++◌, map, sym, ap, ◌∙◌, subst}
use mathlib.Core.List.{reverse}
use Rattle.std.proofs.lemmas.List.{map_push, reverse-append}
use Rattle.alone.specs.declared.records.Record.{Record}
use Rattle.alone.specs.Commits.{IsAccepted, IsLog, IsNext, reach}
use Rattle.alone.specs.Order.{least_out}
use Rattle.alone.proofs.Kept.{places_more}
use Rattle.conflict.specs.Judged.{IsJudgmentOf}
use Rattle.conflict.specs.declared.verdicts.Judgment.TheVariants.{Fine}

pub accepted : (log : List Record) (commit : Record) (place : ℕ) → IsNext commit log
    → commit.snapshot < commit.number → (commit.read_only ≡ true → commit.changes ≡ [])
    → IsJudgmentOf log commit (Fine place) → IsAccepted commit log
accepted log commit place next after nothing verdict = record {
  numbered = next.numbered;
  after_snapshot = after;
  no_write_conflict = verdict.0.1;
  no_danger = verdict.0.2;
  changes_nothing = nothing;
}

-- the commits with one more, and the least conflicts out with that of the verdict
pub log_after : (commits : List Record) (commit : Record) (place : ℕ) → IsNext commit (reverse commits)
    → commit.snapshot < commit.number → (commit.read_only ≡ true → commit.changes ≡ [])
    → IsJudgmentOf (reverse commits) commit (Fine place) → IsLog (reverse (commits ++ commit ∷ []))
log_after commits commit place next after nothing verdict =
    subst IsLog (sym (reverse-append commits (commit ∷ [])))
    (accepted (reverse commits) commit place next after nothing verdict, next.accepted)

pub places_after : (commits : List Record) (places : List ℕ) (commit : Record) (place : ℕ)
    → IsNext commit (reverse commits) → commit.snapshot < commit.number
    → (commit.read_only ≡ true → commit.changes ≡ []) → IsJudgmentOf (reverse commits) commit (Fine place)
    → places ≡ map (least_out (reverse commits)) commits
    → places ++ place ∷ [] ≡ map (least_out (reverse (commits ++ commit ∷ []))) (commits ++ commit ∷ [])
places_after commits places commit place next after nothing verdict kept =
    ap (λ o. o ++ place ∷ []) kept
    ∙ ap (λ n. map (least_out (reverse commits)) commits ++ n ∷ []) verdict.1
    ∙ places_more commits commit (accepted (reverse commits) commit place next after nothing verdict, next.accepted)

-- how far they reach, with that of one commit more
pub reaches_after : (commits : List Record) (reaches : List ℕ) (commit : Record) (far : ℕ) → far ≡ reach commit
    → reaches ≡ map reach commits
    → reaches ++ far ∷ [] ≡ map reach (commits ++ commit ∷ [])
reaches_after commits reaches commit far is kept = (λ i. kept i ++ is i ∷ []) ∙ sym (map_push reach commits commit)
