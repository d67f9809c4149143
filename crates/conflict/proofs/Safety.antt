-- The commits past a snapshot, walked from the oldest on: none of them conflicts to one that it holds.
use Rattle.std.proofs.Common.{◌≡◌, ℕ, ◌+◌, ◌<◌, ◌≤◌, false, List, length, take, drop, get_or, reverse, sym, ◌∙◌, subst, arith}
use Rattle.std.specs.Prelude.{Contains}
use Rattle.std.proofs.lemmas.List.{get_or-drop, length-drop, take_all}
use Rattle.alone.proofs.Lists.{Each, each_at, each_weaker}
use Rattle.alone.specs.declared.records.Record.{Record}
use Rattle.alone.specs.Commits.{IsLog}
use Rattle.alone.specs.Order.{least_out}
use Rattle.alone.specs.Safe.{IsSafe}
use Rattle.alone.proofs.Snapshots.{parts}
use Rattle.alone.proofs.Turned.{in_turned}
use Rattle.conflict.proofs.Steps.{log_more}
use Rattle.conflict.proofs.Walks.{IsTurn}

module _ (commits : List Record) (snapshot : ℕ) where
  -- what is asked of a commit
  abbrev pub IsHarmless : Record → Type 0
  IsHarmless commit = commit.read_only ≡ false → snapshot < commit.number → snapshot < least_out (reverse commits) commit

  abbrev pub AreHarmless : ℕ → Type 0
  AreHarmless count = Each IsHarmless (reverse (take count commits))

  -- those that the snapshot holds are not past it
  pub held_harmless : IsLog (reverse commits) → snapshot ≤ length commits → AreHarmless (snapshot + 0)
  held_harmless log within =
      let none : snapshot ≡ snapshot + 0 = omega arith in
      subst AreHarmless none
      (each_weaker (λ w. w.number ≤ snapshot) IsHarmless (λ w held writes past. let no : ⊥ = omega arith in absurd no) (reverse (take snapshot commits)) (parts commits snapshot log within).held)

  -- one more of them
  pub one_harmless : (n m : ℕ) (commit : Record) → m ≡ n + 1 → snapshot + n < length commits → commit ≡ get_or commits (snapshot + n) commit → AreHarmless (snapshot + n)
      → IsHarmless commit → AreHarmless (snapshot + m)
  one_harmless n m commit e within there before harmless =
      let more : snapshot + n + 1 ≡ snapshot + m = omega arith in
      subst AreHarmless more (subst (Each IsHarmless) (sym (log_more commits (snapshot + n) commit within there)) (harmless, before))

  -- one that is past the snapshot and conflicts to one that it holds makes it unsafe
  pub not_safe : (n : ℕ) (commit : Record) (place : ℕ) → IsLog (reverse commits) → snapshot ≤ length commits → IsTurn commits (snapshot + n) commit place
      → commit.read_only ≡ false → place ≤ snapshot → IsSafe (reverse commits) snapshot → ⊥
  not_safe n commit place log within here writes low safe =
      let long = length-drop snapshot commits in
      let at = here.within in
      let later : Contains (drop snapshot commits) commit = (n, omega arith, get_or-drop snapshot commits n commit ∙ sym here.there) in
      let past : snapshot < commit.number =
      each_at (λ w. snapshot < w.number) (reverse (drop snapshot commits)) (parts commits snapshot log within).past commit (in_turned (drop snapshot commits) commit later) in
      let far = safe commit (in_turned commits commit (snapshot + n, here.within, sym here.there)) writes past in
      omega (arith, far, here.least)

  -- all of them
  pub all_harmless : (n : ℕ) → length commits ≤ snapshot + n → AreHarmless (snapshot + n) → IsSafe (reverse commits) snapshot
  all_harmless n past each commit m =
      each_at IsHarmless (reverse commits) (subst (λ (cs : List Record). Each IsHarmless (reverse cs)) (take_all (snapshot + n) commits past) each) commit m
