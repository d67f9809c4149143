-- What is kept stays right as transactions begin, are committed, and end.
use Rattle.std.proofs.Common.{◌≡◌, ◌∙◌, ◌<◌, ℕ, List, [], length, Option, Some, None, sym, ap, subst, refl, arith}
use Rattle.std.specs.Prelude.{◌≤◌}
use Rattle.std.proofs.lemmas.List.Elements.{All-nil}
use Rattle.siread.specs.Locks.{Reads, reads_above}
use Rattle.alone.specs.declared.answers.RefusedCommit.{RefusedCommit}
use Rattle.alone.specs.Alone.{IsSound}
use Rattle.delta.specs.Views.{ViewState}
use Rattle.conflict.specs.declared.open_snapshots.LiveSnapshot.{LiveSnapshot}
use Rattle.conflict.specs.Live.{AreBelow, LiveState, least_writing, none_live, without}
use Rattle.commit.specs.declared.prepared.Prepared.{Prepared}
use Rattle.commit.specs.Cores.{CoreState, reads_kept}
use Rattle.commit.specs.Kept.{IsCore, IsKept, idle_core, pending_of}
use Rattle.commit.proofs.Locking.{kept_ended, kept_same}
use Rattle.commit.proofs.BeginNumbers.{fewer}

pub none_pending : (prepared : Option Prepared) → pending_of prepared ≡ None → prepared ≡ None
none_pending None e = refl
none_pending (Some p) e = let no : ⊥ = cc in absurd no

-- nothing is prepared in a core that is said to be idle
pub is_idle : (core now : CoreState) (prepared : Option Prepared) → record core { prepared = pending_of prepared } ≡ now → now.prepared ≡ None → prepared ≡ None
is_idle core now prepared view idle = none_pending prepared (ap (λ (s : CoreState). s.prepared) view ∙ idle)

pub idle_view : (core now : CoreState) (prepared : Option Prepared) → record core { prepared = pending_of prepared } ≡ now → now.prepared ≡ None → record core { prepared = None } ≡ now
idle_view core now prepared view idle = ap (λ (s : CoreState). record s { prepared = None }) view ∙ (λ i. record now { prepared = sym idle i })

module _ (core : CoreState) (newest : ViewState) (places reaches order : List ℕ) (locks : Reads) (Room : Type 0) where
  -- where nothing is prepared, the readers are those of the commits
  pub kept_idle : (prepared : Option Prepared) → prepared ≡ None → IsCore core newest places reaches order → locks ≡ reads_kept core → IsKept core newest places reaches order locks prepared Room
  kept_idle None e h g = (h, tt, g, tt)
  kept_idle (Some p) e h g = let no : ⊥ = cc in absurd no

  pub locks_idle : (prepared : Option Prepared) → prepared ≡ None → IsKept core newest places reaches order locks prepared Room → locks ≡ reads_kept core
  locks_idle None e h = h.2
  locks_idle (Some p) e h = let no : ⊥ = cc in absurd no

  -- where one is, it is ready
  pub kept_ready : (p : Prepared) (prepared : Option Prepared) → prepared ≡ Some p → IsKept core newest places reaches order locks prepared Room → IsKept core newest places reaches order locks (Some p) Room
  kept_ready p prepared e h = subst (λ o. IsKept core newest places reaches order locks o Room) e h

  -- open transactions and refused commits leave what is kept of the commits as it is
  pub same_commits : (live : LiveState) (refused : List RefusedCommit) → AreBelow live.begun live.snapshots → IsCore core newest places reaches order
      → IsCore (record core { live = live; refused = refused }) newest places reaches order
  same_commits live refused begin_numbers h = record {
    epoch = h.epoch;
    newest_is = h.newest_is;
    places_are = h.places_are;
    reaches_are = h.reaches_are;
    order_is = h.order_is;
    within = h.within;
    small = h.small;
    begin_numbers = begin_numbers;
  }

-- the same of what is equal
pub same_core : (core core' : CoreState) (newest newest' : ViewState) (places places' reaches reaches' order order' : List ℕ)
    → core ≡ core' → newest ≡ newest' → places ≡ places' → reaches ≡ reaches' → order ≡ order'
    → IsCore core newest places reaches order → IsCore core' newest' places' reaches' order'
same_core core core' newest newest' places places' reaches reaches' order order' a b c d e h =
    subst (λ (X : Type 0). X) (λ i. IsCore (a i) (b i) (c i) (d i) (e i)) h

-- what is kept as a transaction has ended: of the readers, those that an open one may still ask for
pub kept_left : (core : CoreState) (newest : ViewState) (places reaches order : List ℕ) (locks : Reads) (Room Room' : Type 0) (prepared : Option Prepared)
    (begin_number : ℕ) (live : LiveState) (refused : List RefusedCommit) (count : ℕ) (after : Reads)
    → prepared ≡ None → live ≡ without begin_number core.live → count ≡ length core.records
    → after ≡ reads_above (least_writing count live.snapshots) reaches locks → IsKept core newest places reaches order locks prepared Room
    → IsKept (record core { live = live; refused = refused }) newest places reaches order after prepared Room'
kept_left core newest places reaches order locks Room Room' prepared begin_number live refused count after idle e same f kept =
    let left : after ≡ reads_kept (record core { live = live; refused = refused }) =
    f ∙ (λ i. reads_above (least_writing (same i) (e i).snapshots) (kept.0.reaches_are i) (locks_idle core newest places reaches order locks Room prepared idle kept i))
    ∙ kept_ended core.live core.records begin_number ∙ (λ i. reads_kept (record core { live = sym e i; refused = refused })) in
    kept_idle (record core { live = live; refused = refused }) newest places reaches order after Room' prepared idle
    (same_commits core newest places reaches order locks Room live refused
    (subst (λ (l : LiveState). AreBelow l.begun l.snapshots) (sym e) (fewer core.live begin_number kept.0.begin_numbers)) kept.0)
    left

-- while nothing is prepared, nobody goes where the least snapshot of those that may write stays
pub same_left : (core : CoreState) (newest : ViewState) (places reaches order : List ℕ) (locks : Reads) (Room : Type 0) (prepared : Option Prepared) (count : ℕ)
    → prepared ≡ None → count ≡ length core.records → IsKept core newest places reaches order locks prepared Room
    → reads_above (least_writing count core.live.snapshots) reaches locks ≡ locks
same_left core newest places reaches order locks Room prepared count idle same kept =
    let e = locks_idle core newest places reaches order locks Room prepared idle kept in
    (λ i. reads_above (least_writing (same i) core.live.snapshots) (kept.0.reaches_are i) (e i)) ∙ kept_same core.live core.records ∙ sym e

-- before the first commit
pub empty_kept : (limit : ℕ) (loaded : ViewState) → IsSound loaded.declared loaded.state → limit ≤ 4294967295 → IsCore (idle_core limit loaded [] [] none_live) loaded [] [] []
empty_kept limit loaded sound within = record {
  epoch = record { admitted = sound; accepted = tt; history = tt };
  newest_is = refl;
  places_are = refl;
  reaches_are = refl;
  order_is = refl;
  within = omega arith;
  small = within;
  begin_numbers = All-nil (λ (one : LiveSnapshot). one.begin_number < 0);
}
