-- What was found among the commits after the snapshot answers the candidate.
use Rattle.std.proofs.Common.{◌≡◌, ℕ, ◌+◌, ◌<◌, ◌≤◌, true, false, List, ◌∷◌, ◌-◌, length, take, drop, inl, inr, refl, sym, ap, ◌∙◌, subst, arith}
use Rattle.std.specs.List.{list_any}
use mathlib.Core.List.{reverse}
use Rattle.std.proofs.lemmas.Bool.{le-leb, lt-leb}
use Rattle.std.proofs.lemmas.List.{length-reverse, take_rest}
use Rattle.alone.specs.declared.records.Record.{Record}
use Rattle.alone.specs.Commits.{HasNoDanger, HasNoWriteConflict, IsLog, IsNext, share_row}
use Rattle.alone.specs.Numbers.{greatest_in, is_pivot, is_reader, IsLeastPivot}
use Rattle.alone.specs.Order.{least_out}
use Rattle.alone.specs.Answer.{AreJudged, IsPivotNamed, IsReaderNamed}
use Rattle.alone.proofs.Alike.{Alike, greatest_in_alike, is_reader_alike, least_out_alike, least_pivot_alike}
use Rattle.alone.proofs.Snapshots.{Parts, parts, least_out_recent}
use Rattle.conflict.specs.declared.candidates.Candidate.{Candidate}
use Rattle.conflict.specs.Candidates.{record_of, IsOf}
use Rattle.conflict.specs.Judged.{IsConflictAt, IsFirstShared, IsJudgmentOf}
use Rattle.conflict.specs.declared.dangers.Danger.TheVariants.{AsPivot, AsReader}
use Rattle.conflict.specs.declared.verdicts.Judgment.TheVariants.{Fine, Dangerous}
use Rattle.conflict.proofs.Shared.{first_conflict, no_write_conflict}

-- a commit that the candidate would be, over those before it
pub record Asked (commits : List Record) (candidate : Candidate) (commit : Record) : Type 0 where
  pub log : IsLog (reverse commits)
  pub next : candidate.number ≡ length commits + 1
  pub after_snapshot : candidate.snapshot < candidate.number
  pub is : IsOf candidate commit

pub held_parts : (commits : List Record) (candidate : Candidate) → IsLog (reverse commits) → candidate.number ≡ length commits + 1 → candidate.snapshot < candidate.number
    → Parts commits candidate.snapshot
held_parts commits candidate log next after = parts commits candidate.snapshot log (omega arith)

-- the candidate is the next commit
pub candidate_next : (commits : List Record) (candidate : Candidate) → IsLog (reverse commits) → candidate.number ≡ length commits + 1 → IsNext (record_of candidate) (reverse commits)
candidate_next commits candidate log next = record { accepted = log; numbered = omega (arith, length-reverse commits, next) }

-- the commits after the snapshot, as a slice that goes to the end
abbrev pub recent_of : List Record → Candidate → List Record
recent_of commits candidate = take (length commits - candidate.snapshot) (drop candidate.snapshot commits)

-- the least conflict out found among those is that over all
pub least_found : (commits : List Record) (candidate : Candidate) → IsLog (reverse commits)
    → candidate.number ≡ length commits + 1 → candidate.snapshot < candidate.number → (place : ℕ)
    → place ≡ least_out (reverse (recent_of commits candidate)) (record_of candidate)
    → place ≡ least_out (reverse commits) (record_of candidate)
least_found commits candidate log next after place e =
    e ∙ ap (λ o. least_out (reverse o) (record_of candidate)) (take_rest commits candidate.snapshot)
    ∙ sym (least_out_recent commits (record_of candidate) (held_parts commits candidate log next after))

module _ (commits : List Record) (candidate : Candidate) (commit : Record) (asked : Asked commits candidate commit) where
  pub is_next : IsNext commit (reverse commits)
  is_next =
      let long : length (reverse commits) ≡ length commits = length-reverse commits in
      record { accepted = asked.log; numbered = omega (arith, asked.next, asked.is.number) }

  same : Alike (record_of candidate) commit
  same = record {
    number = asked.is.number;
    snapshot = asked.is.snapshot;
    read_only = asked.is.read_only;
    reads = asked.is.reads;
    changes = asked.is.changes;
  }

  held : Parts commits candidate.snapshot
  held = held_parts commits candidate asked.log asked.next asked.after_snapshot

  own_held : Parts commits commit.snapshot
  own_held = subst (Parts commits) asked.is.snapshot held

  abbrev recent : List Record
  recent = recent_of commits candidate

  recent_is : recent ≡ drop candidate.snapshot commits
  recent_is = take_rest commits candidate.snapshot

  least_is : (place : ℕ) → place ≡ least_out (reverse recent) (record_of candidate) → place ≡ least_out (reverse commits) commit
  least_is place e =
      least_found commits candidate asked.log asked.next asked.after_snapshot place e
      ∙ least_out_alike (reverse commits) (record_of candidate) commit same

  greatest_is : (reader : ℕ) → reader ≡ greatest_in (reverse commits) (record_of candidate) → reader ≡ greatest_in (reverse commits) commit
  greatest_is reader e = e ∙ greatest_in_alike (reverse commits) (record_of candidate) commit same

  pub conflict_at : (row by : ℕ) → IsFirstShared recent candidate.changes.now row by → IsConflictAt (reverse commits) commit row by
  conflict_at row by f =
      let own : IsFirstShared (drop commit.snapshot commits) commit.changes row by
      = subst (λ changes. IsFirstShared (drop commit.snapshot commits) changes row by) asked.is.changes
      (subst (λ snapshot. IsFirstShared (drop snapshot commits) candidate.changes.now row by) asked.is.snapshot
      (subst (λ o. IsFirstShared o candidate.changes.now row by) recent_is f)) in
      record { within = own.within; answer = first_conflict commits commit own_held row by own }

  -- no row was changed after the snapshot
  abbrev pub IsFree : Type 0
  IsFree = list_any (λ other. share_row candidate.changes.now other.changes) recent ≡ false

  free : IsFree → HasNoWriteConflict (reverse commits) commit
  free none =
      no_write_conflict commits commit own_held
      (subst (λ changes. list_any (λ other. share_row changes other.changes) (drop commit.snapshot commits) ≡ false) asked.is.changes
      (subst (λ snapshot. list_any (λ other. share_row candidate.changes.now other.changes) (drop snapshot commits) ≡ false) asked.is.snapshot
      (subst (λ o. list_any (λ other. share_row candidate.changes.now other.changes) o ≡ false) recent_is none)))

  -- the two numbers: the one found among those after the snapshot, the other by who read what
  pub record Found (place reader : ℕ) : Type 0 where
    pub least : place ≡ least_out (reverse recent) (record_of candidate)
    pub greatest : reader ≡ greatest_in (reverse commits) (record_of candidate)

  -- how each of them is found: the greatest reader is asked for with the least conflict out
  pub found : (place reader : ℕ) → place ≡ least_out (reverse recent) (record_of candidate)
      → (IsNext (record_of candidate) (reverse commits) → place ≡ least_out (reverse commits) (record_of candidate)
      → reader ≡ greatest_in (reverse commits) (record_of candidate)) → Found place reader
  found place reader least greatest = record {
    least = least;
    greatest = greatest (candidate_next commits candidate asked.log asked.next)
        (least_found commits candidate asked.log asked.next asked.after_snapshot place least);
  }

  pub as_pivot : (place reader : ℕ) → AreJudged (reverse commits) commit → IsFree → Found place reader → place ≤ reader
      → IsJudgmentOf (reverse commits) commit (Dangerous (AsPivot reader place))
  as_pivot place reader judged none f within =
      let e : place ≡ least_out (reverse commits) commit = least_is place f.least in
      let g : reader ≡ greatest_in (reverse commits) commit = greatest_is reader f.greatest in
      let tested : is_pivot (reverse commits) commit ≡ true = le-leb (least_out (reverse commits) commit) (greatest_in (reverse commits) commit) (omega arith) in (
        free none,
        inl (
          refl,
          subst (λ w. IsPivotNamed (reverse commits) commit reader w) (sym e)
              (subst (λ r. IsPivotNamed (reverse commits) commit r (least_out (reverse commits) commit)) (sym g) (judged.pivot tested)),
        ),
      )

  no_pivot : (place reader : ℕ) → Found place reader → reader < place → is_pivot (reverse commits) commit ≡ false
  no_pivot place reader f past =
      let e : place ≡ least_out (reverse commits) commit = least_is place f.least in
      let g : reader ≡ greatest_in (reverse commits) commit = greatest_is reader f.greatest in
      lt-leb (least_out (reverse commits) commit) (greatest_in (reverse commits) commit) (omega arith)

  pub as_reader : (place reader : ℕ) → AreJudged (reverse commits) commit → IsFree → Found place reader → reader < place
      → (pivot : Record) (writer : ℕ) → IsLeastPivot (reverse commits) (record_of candidate) pivot → writer ≡ least_out (reverse commits) pivot
      → IsJudgmentOf (reverse commits) commit (Dangerous (AsReader pivot.number writer))
  as_reader place reader judged none f past pivot writer least e = (
    free none,
    inr (
      judged.no_pivot (no_pivot place reader f past),
      refl,
      subst (λ w. IsReaderNamed (reverse commits) commit pivot.number w) (sym e)
          (judged.named pivot (least_pivot_alike (reverse commits) (record_of candidate) commit pivot same least)),
    ),
  )

  pub as_fine : (place reader : ℕ) → AreJudged (reverse commits) commit → IsFree → Found place reader → reader < place
      → is_reader (reverse commits) (record_of candidate) ≡ false → IsJudgmentOf (reverse commits) commit (Fine place)
  as_fine place reader judged none f past no_reader =
      let no_danger : HasNoDanger (commit ∷ reverse commits)
      = judged.decide.1 (record {
        no_pivot = no_pivot place reader f past;
        no_reader = sym (is_reader_alike (reverse commits) (record_of candidate) commit same) ∙ no_reader;
      }) in
      ((refl, free none, no_danger), least_is place f.least)
