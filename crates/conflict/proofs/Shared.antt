-- Rows that a commit changes, and one after its snapshot too.
use Rattle.std.proofs.Common.{◌≡◌, ℕ, ◌+◌, ◌<◌, Bool, true, false, cond, ◌⊎◌, inl, inr, List, [], ◌∷◌, ◌++◌, length, take, drop, get_or, None, Some, find, refl, sym, ap, ◌∙◌, subst, arith}
use Rattle.std.specs.Prelude.{Contains}
use Rattle.std.specs.List.{list_any}
use mathlib.Core.List.{reverse}
use Rattle.std.proofs.lemmas.Bool.{cases_Bool, both_ways, or_from, or_left, or_parts}
use Rattle.std.proofs.Math.Bool.{or-false}
use Rattle.std.proofs.lemmas.List.{take-append-drop, drop_more, get_or_read}
use Rattle.std.proofs.lemmas.List.Folds.{list_any_more}
use Rattle.table.specs.declared.rows.Change.{Change}
use Rattle.siread.specs.Keys.{same_place, place_of}
use Rattle.siread.proofs.Members.{in_head, in_tail, in_cases}
use Rattle.alone.proofs.Lists.{Pairs, each_at}
use Rattle.alone.proofs.Members.{any_from}
use Rattle.alone.specs.declared.records.Record.{Record}
use Rattle.alone.specs.Commits.{HasNoWriteConflict, share_row}
use Rattle.alone.specs.Answer.{IsFirstConflict}
use Rattle.alone.proofs.Snapshots.{Parts, in_recent, recent_in, recent_past}
use Rattle.conflict.specs.Judged.{has_row_of, IsFirstShared}

-- the first element that passes a test
pub record IsFound {X : Type 0} (R : X → X → Type 0) (test : X → Bool) (xs : List X) (x : X) : Type 0 where
  pub listed : Contains xs x
  pub passes : test x ≡ true
  pub first : Pairs R xs → (y : X) → Contains xs y → test y ≡ true → (x ≡ y) ⊎ R x y

found : {X : Type 0} (R : X → X → Type 0) (test : X → Bool) (xs : List X) (x : X) → find test xs ≡ Some x → IsFound R test xs x
found R test [] x e = cc
found R test (v ∷ xs) x e = elim (cases_Bool (test v)) [
  | inl here ↦
      let same : Some v ≡ Some x = sym (ap (λ b. cond b (Some v) (find test xs)) here) ∙ e in
      let is : v ≡ x = cc in
      record {
        listed = subst (λ z. Contains (v ∷ xs) z) is (in_head v xs);
        passes = ap test (sym is) ∙ here;
        first = λ p y m t. elim (in_cases v xs y m) [
          | inl first ↦ inl (sym is ∙ first)
          | inr later ↦ inr (subst (λ z. R z y) is (each_at (R v) xs p.0 y later))
        ];
      }
  | inr fails ↦
      let rest = found R test xs x (sym (ap (λ b. cond b (Some v) (find test xs)) fails) ∙ e) in
      record {
        listed = in_tail v xs x rest.listed;
        passes = rest.passes;
        first = λ p y m t. elim (in_cases v xs y m) [
          | inl first ↦ absurd (both_ways (test v) fails (ap test first ∙ t))
          | inr later ↦ rest.first p.1 y later t
        ];
      }
]

none_found : {X : Type 0} (test : X → Bool) (v : X) (xs : List X) → find test (v ∷ xs) ≡ None → (test v ≡ false) × (find test xs ≡ None)
none_found test v xs e = elim (cases_Bool (test v)) [
  | inl here ↦ (let no : Some v ≡ None = sym (ap (λ b. cond b (Some v) (find test xs)) here) ∙ e in cc)
  | inr fails ↦ (fails, sym (ap (λ b. cond b (Some v) (find test xs)) fails) ∙ e)
]

-- the rows of one change more
row_more : (changes those : List Change) (i : ℕ) (change : Change) → i < length changes → change ≡ get_or changes i change → share_row (take i changes) those ≡ false
    → list_any (λ row. same_place (place_of change) (place_of row)) those ≡ false → share_row (take (i + 1) changes) those ≡ false
unfolding share_row
row_more changes those i change within is none fails =
    let shares : Change → Bool = λ c. list_any (λ row. same_place (place_of c) (place_of row)) those in
    list_any_more shares changes i change within ∙ or_from (list_any shares (take i changes)) (shares (get_or changes i change)) none (ap shares (sym is) ∙ fails)

pub shared_by_none : (others : List Record) → list_any (λ other. share_row [] other.changes) others ≡ false
unfolding share_row
shared_by_none [] = refl
shared_by_none (other ∷ others) = shared_by_none others

pub shared_more : (changes : List Change) (i : ℕ) (change : Change) → i < length changes → change ≡ get_or changes i change → (others : List Record)
    → list_any (λ other. share_row (take i changes) other.changes) others ≡ false → find (has_row_of change) others ≡ None
    → list_any (λ other. share_row (take (i + 1) changes) other.changes) others ≡ false
shared_more changes i change within is [] none fails = refl
shared_more changes i change within is (other ∷ others) none fails =
    let n = or_parts (share_row (take i changes) other.changes) (list_any (λ o. share_row (take i changes) o.changes) others) none in
    let f = none_found (has_row_of change) other others fails in
    or_from (share_row (take (i + 1) changes) other.changes) (list_any (λ o. share_row (take (i + 1) changes) o.changes) others)
    (row_more changes other.changes i change within is n.0 f.0) (shared_more changes i change within is others n.1 f.1)

-- one change alone
row_of_one : (change : Change) (other : Record) → has_row_of change other ≡ true → share_row (change ∷ []) other.changes ≡ true
unfolding share_row
row_of_one change other h = or_left (list_any (λ row. same_place (place_of change) (place_of row)) other.changes) false h

one_has_row : (change : Change) (other : Record) → share_row (change ∷ []) other.changes ≡ true → has_row_of change other ≡ true
unfolding share_row
one_has_row change other h = sym (or-false (has_row_of change other)) ∙ h

-- none of those after the snapshot
pub no_write_conflict : (commits : List Record) (commit : Record) → Parts commits commit.snapshot
    → list_any (λ other. share_row commit.changes other.changes) (drop commit.snapshot commits) ≡ false → HasNoWriteConflict (reverse commits) commit
no_write_conflict commits commit p none other m w =
    let test : Record → Bool = λ o. share_row commit.changes o.changes in
    let recent : List Record = drop commit.snapshot commits in
    both_ways (list_any test recent) none (any_from test recent other (in_recent commits commit.snapshot p other m w.after_snapshot) w.common)

-- the first row, and the least of those after the snapshot that have it
pub first_conflict : (commits : List Record) (commit : Record) → Parts commits commit.snapshot → (row by : ℕ) → IsFirstShared (drop commit.snapshot commits) commit.changes row by
    → (c : Change) → IsFirstConflict (reverse commits) commit (place_of (get_or commit.changes row c)) by
first_conflict commits commit p row by f c =
    let changes : List Change = commit.changes in
    let recent : List Record = drop commit.snapshot commits in
    let passes : Record → Bool = λ o. share_row (take row changes) o.changes in
    let ascends : Record → Record → Type 0 = λ a b. a.number < b.number in
    let found_other : IsFound ascends (has_row_of f.change) recent f.other = found ascends (has_row_of f.change) recent f.other f.first in
    record {
      before = take row changes;
      change = f.change;
      after = drop (row + 1) changes;
      split = sym (take-append-drop row changes) ∙ ap (λ o. take row changes ++ o) (drop_more changes row f.change f.within ∙ ap (λ x. x ∷ drop (row + 1) changes) (sym f.there));
      at = ap place_of (get_or_read changes row f.change f.within f.there c);
      free_before = λ other m l s. both_ways (list_any passes recent) f.free_before (any_from passes recent other (in_recent commits commit.snapshot p other m l) s);
      other = f.other;
      listed = recent_in commits commit.snapshot p f.other found_other.listed;
      after_snapshot = recent_past commits commit.snapshot p f.other found_other.listed;
      common = row_of_one f.change f.other found_other.passes;
      named = f.named;
      least = λ another m l s. elim (found_other.first p.rises another (in_recent commits commit.snapshot p another m l) (one_has_row f.change another s)) [
        | inl same ↦ omega (arith, f.named, ap (λ r. r.number) same)
        | inr later ↦ omega (arith, f.named, later)
      ];
    }
