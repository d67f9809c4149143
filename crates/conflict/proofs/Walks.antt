-- The first record of a walk from the oldest on that passes is the least that does.
use Rattle.std.proofs.Common.{◌≡◌, ℕ, ◌+◌, ◌-◌, Option, Some, Bor, Iter, ◌<◌, ◌≤◌, Bool, true, false, ltb, leb, List, [], ◌∷◌, ◌++◌, map, length, take, drop, get_or, sym, ap, ◌∙◌, subst, arith, append_assoc}
use Rattle.std.specs.Prelude.{Contains, ◌&&◌}
use Rattle.std.specs.List.{list_any}
use Rattle.std.specs.Iterator.{Yields}
use Rattle.std.specs.Iterator.Adapters.{zip_first, zip_second}
use Rattle.std.specs.declared.iter.Zip.{Zip}
use Rattle.std.specs.Slice.Iter.{iter_rest}
use Rattle.std.proofs.iter.Yields.{fronts}
use Rattle.std.proofs.lemmas.Iterator.{zips}
use Rattle.std.proofs.lemmas.Slice.Zip.{zip_turn}
use mathlib.Core.List.{reverse, reverse-cons}
use Rattle.std.proofs.lemmas.Bool.{both_ways, or_from}
use Rattle.std.proofs.lemmas.List.{drop_more, get_or-drop, get_or-map, length-drop, take_rest, take-append-drop, reverse-append}
use Rattle.alone.proofs.Lists.{Each, Pairs, each_append, each_put, each_at, each_from, each_weaker, pairs_before, in_middle}
use Rattle.alone.proofs.Members.{any_from}
use Rattle.alone.specs.declared.records.Record.{Record}
use Rattle.alone.specs.Commits.{IsLog, conflicts_to, reach}
use Rattle.alone.specs.Numbers.{is_reader_of, IsLeastPivot}
use Rattle.alone.specs.Order.{least_out}
use Rattle.alone.proofs.Ranks.{log_falls}
use Rattle.alone.proofs.Snapshots.{Parts, no_pivot_held}
use Rattle.conflict.proofs.Steps.{log_more}

pub split : (xs : List Record) (i : ℕ) (x : Record) → i < length xs → x ≡ get_or xs i x → reverse xs ≡ reverse (drop (i + 1) xs) ++ x ∷ reverse (take i xs)
split xs i x within is =
    ap reverse (sym (take-append-drop i xs))
    ∙ reverse-append (take i xs) (drop i xs)
    ∙ ap (λ o. reverse o ++ reverse (take i xs)) (drop_more xs i x within ∙ ap (λ y. y ∷ drop (i + 1) xs) (sym is))
    ∙ ap (λ o. o ++ reverse (take i xs)) (reverse-cons x (drop (i + 1) xs))
    ∙ append_assoc (reverse (drop (i + 1) xs)) (x ∷ []) (reverse (take i xs))

pub first_is_least : (xs : List Record) (i : ℕ) (x commit : Record) → IsLog (reverse xs) → i < length xs → x ≡ get_or xs i x
    → list_any (is_reader_of (reverse xs) commit) (reverse (take i xs)) ≡ false → is_reader_of (reverse xs) commit x ≡ true
    → IsLeastPivot (reverse xs) commit x
first_is_least xs i x commit log within is none passes =
    let test : Record → Bool = is_reader_of (reverse xs) commit in
    let newer = reverse (drop (i + 1) xs) in
    let older = reverse (take i xs) in
    let parts : reverse xs ≡ newer ++ x ∷ older = split xs i x within is in
    let Later : Record → Type 0 = λ w. test w ≡ true → x.number ≤ w.number in
    let falls : Pairs (λ a b. b.number < a.number) (newer ++ x ∷ older) = subst (Pairs (λ (a b : Record). b.number < a.number)) parts (log_falls (reverse xs) log) in
    let front : Each Later newer = each_weaker (λ w. x.number < w.number) Later (λ w l k. omega arith) newer (pairs_before (λ (a b : Record). b.number < a.number) newer x older falls) in
    let back : Each Later older = each_from Later older (λ w m k. absurd (both_ways (list_any test older) none (any_from test older w m k))) in
    let all : Each Later (reverse xs) = subst (Each Later) (sym parts) (each_put Later newer x older (λ k. omega arith) (each_append Later newer older front back)) in
    record {
      listed = subst (λ o. Contains o x) (sym parts) (in_middle newer x older);
      passes = passes;
      least = each_at Later (reverse xs) all;
    }

pub none_more : (test : Record → Bool) (xs : List Record) (i : ℕ) (x : Record) → reverse (take (i + 1) xs) ≡ x ∷ reverse (take i xs)
    → list_any test (reverse (take i xs)) ≡ false → test x ≡ false → list_any test (reverse (take (i + 1) xs)) ≡ false
none_more test xs i x more none fails = ap (list_any test) more ∙ or_from (test x) (list_any test (reverse (take i xs))) fails none

-- one turn of the walk over those after a snapshot, with the least conflicts out beside them
pub record IsTurn (commits : List Record) (place : ℕ) (pivot : Record) (writer : ℕ) : Type 0 where
  pub within : place < length commits
  pub there : pivot ≡ get_or commits place pivot
  pub least : writer ≡ least_out (reverse commits) pivot

pub turn : (commits : List Record) (places : List ℕ) (held n : ℕ) (pivot : Record) (writer : ℕ) → places ≡ map (least_out (reverse commits)) commits
    → n < length (drop held commits) → pivot ≡ get_or (drop held commits) n pivot → writer ≡ get_or (drop held places) n 0
    → IsTurn commits (held + n) pivot writer
turn commits places held n pivot writer kept l there here =
    let long = length-drop held commits in
    let within : held + n < length commits = omega arith in
    let is : pivot ≡ get_or commits (held + n) pivot = there ∙ get_or-drop held commits n pivot in
    record {
      within = within;
      there = is;
      least = here ∙ get_or-drop held places n 0 ∙ ap (λ o. get_or o (held + n) 0) kept
          ∙ get_or-map (least_out (reverse commits)) commits (held + n) pivot 0 within ∙ ap (least_out (reverse commits)) (sym is);
    }

pub zipped : (commits : List Record) (places : List ℕ) (held : ℕ) → places ≡ map (least_out (reverse commits)) commits
    → (xs : List (Bor Record × Bor ℕ)) (s t u : Zip (Iter Record) (Iter ℕ)) (r : Option (Bor Record × Bor ℕ))
    → iter_rest (zip_first s) ≡ take (length commits - held) (drop held commits) → iter_rest (zip_second s) ≡ take (length places - held) (drop held places)
    → Yields (zips fronts fronts) s xs t → (p : Bor Record × Bor ℕ) → r ≡ Some p → zips fronts fronts t r u
    → IsTurn commits (held + length xs) p.0.now p.1.now
zipped commits places held kept xs s t u r first second y p is steps =
    let at = zip_turn (drop held commits) (drop held places) xs s t u r (first ∙ take_rest commits held) (second ∙ take_rest places held) y p is steps in
    turn commits places held (length xs) p.0.now p.1.now kept at.0 (at.2 p.0.now) (at.3 0)

-- the test by the least conflict out that was kept
pub tested : (log : List Record) (commit pivot : Record) (writer : ℕ) (result answer : Bool) → writer ≡ least_out log pivot
    → result ≡ (conflicts_to commit pivot && (ltb writer pivot.number && leb writer (reach commit))) → result ≡ answer
    → is_reader_of log commit pivot ≡ answer
tested log commit pivot writer result answer kept is e =
    sym (ap (λ w. conflicts_to commit pivot && (ltb w pivot.number && leb w (reach commit))) kept) ∙ sym is ∙ e

-- before the first turn, and after one more
pub at_start : (commits : List Record) (commit : Record) → Parts commits commit.snapshot → list_any (is_reader_of (reverse commits) commit) (reverse (take (commit.snapshot + 0) commits)) ≡ false
at_start commits commit p =
    let none : commit.snapshot ≡ commit.snapshot + 0 = omega arith in
    subst (λ n. list_any (is_reader_of (reverse commits) commit) (reverse (take n commits)) ≡ false) none
    (no_pivot_held (reverse commits) commit (reverse (take commit.snapshot commits)) p.held)

pub one_on : (commits : List Record) (commit pivot : Record) (held n m : ℕ) → m ≡ n + 1 → held + n < length commits → pivot ≡ get_or commits (held + n) pivot
    → list_any (is_reader_of (reverse commits) commit) (reverse (take (held + n) commits)) ≡ false → is_reader_of (reverse commits) commit pivot ≡ false
    → list_any (is_reader_of (reverse commits) commit) (reverse (take (held + m) commits)) ≡ false
one_on commits commit pivot held n m e within there none fails =
    let more : held + n + 1 ≡ held + m = omega arith in
    subst (λ k. list_any (is_reader_of (reverse commits) commit) (reverse (take k commits)) ≡ false) more
    (none_more (is_reader_of (reverse commits) commit) commits (held + n) pivot (log_more commits (held + n) pivot within there) none fails)
