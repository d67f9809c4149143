-- What waits is read back from its lines.
use Rattle.std.proofs.Common.{◌≡◌, ◌<◌, ◌+◌, ℕ, List, [], ◌∷◌, ◌++◌, length, Option, Some, refl, sym, ap, ◌∙◌, subst, arith, append_assoc, length-append}
use Rattle.std.specs.Prelude.{◌^◌, map}
use Rattle.std.specs.List.{AllByRecursion}
use Rattle.std.proofs.lemmas.List.{append-nil}
use Rattle.table.specs.declared.rows.Change.{Change}
use Rattle.journal.specs.declared.entries.Entry.{Entry}
use Rattle.journal.specs.Fitting.{AreNext, AreNumbered, FitsEntry, IsBefore}
use Rattle.journal.specs.Recovery.{entries_from, recovered}
use Rattle.journal.specs.Spelling.{line, lines}
use Rattle.journal.specs.Tails.{fed}
use Rattle.journal.proofs.Crash.{all_lines, lines_again, lines_are}
use Rattle.journal.proofs.Torn.{whole_lines}
use Rattle.durable.specs.declared.batches.Batch.{Batch}
use Rattle.durable.specs.Batches.{AreWaiting, HasAdded, IsWaiting, entries_behind, entries_or_none, entry_behind}

-- lines are read as what they spell
read_back : (number : ℕ) (es : List Entry) → AreNumbered number es → AllByRecursion FitsEntry es → recovered number (lines es) ≡ Some es
read_back number es numbered fit =
    ap (recovered number) (lines_are es ∙ sym (append-nil (fed (map line es))))
    ∙ ap (entries_from number) (whole_lines (map line es) [] (all_lines es fit) ∙ append-nil (map line es))
    ∙ lines_again number es numbered fit

lines_append : (a b : List Entry) → lines (a ++ b) ≡ lines a ++ lines b
lines_append [] b = refl
lines_append (e ∷ es) b =
    ap (λ (l : List ℕ). 10 ∷ (line e ++ 10 ∷ l)) (lines_append es b)
    ∙ ap (λ (l : List ℕ). 10 ∷ l) (sym (append_assoc (line e) (10 ∷ lines es) (lines b)))

numbered_append : (number : ℕ) (es : List Entry) (e : Entry) → AreNumbered number es → e.number ≡ number + length es → AreNumbered number (es ++ e ∷ [])
numbered_append number [] e numbered is = (omega (arith, is), tt)
numbered_append number (x ∷ es) e numbered is = (numbered.0, numbered_append (number + 1) es e numbered.1 (omega (arith, is)))

all_append : {A : Type 0} (P : A → Type 0) (xs : List A) (x : A) → AllByRecursion P xs → P x → AllByRecursion P (xs ++ x ∷ [])
all_append P [] x all p = (p, tt)
all_append P (y ∷ xs) x all p = (all.0, all_append P xs x all.1 p)

-- none waits
pub none_waiting : (durable : ℕ) → AreWaiting durable durable []
none_waiting durable = record {
  spelled = refl;
  next = record { numbered = tt; fit = tt; before = tt };
  newest_is = omega arith;
  small = omega arith;
}

-- one more waits
record OneMore (durable newest : ℕ) (bytes : List ℕ) (e : Entry) : Type 0 where
  entries : entries_behind durable (bytes ++ lines (e ∷ [])) ≡ entries_behind durable bytes ++ e ∷ []
  waiting : AreWaiting durable (newest + 1) (bytes ++ lines (e ∷ []))

one_more : (durable newest : ℕ) (bytes : List ℕ) (e : Entry) → AreWaiting durable newest bytes → e.number ≡ newest + 1 → e.durable ≡ durable → FitsEntry e
    → length (bytes ++ lines (e ∷ [])) < 2 ^ 61 → OneMore durable newest bytes e
one_more durable newest bytes e w number behind fits small =
    let ws : List Entry = entries_behind durable bytes in
    let numbered : AreNumbered (durable + 1) (ws ++ e ∷ []) = numbered_append (durable + 1) ws e w.next.numbered (omega (arith, number, w.newest_is)) in
    let fit : AllByRecursion FitsEntry (ws ++ e ∷ []) = all_append FitsEntry ws e w.next.fit fits in
    let before : AllByRecursion (IsBefore (durable + 1)) (ws ++ e ∷ []) = all_append (IsBefore (durable + 1)) ws e w.next.before (omega (arith, behind)) in
    let is : bytes ++ lines (e ∷ []) ≡ lines (ws ++ e ∷ []) = ap (λ (b : List ℕ). b ++ lines (e ∷ [])) w.spelled ∙ sym (lines_append ws (e ∷ [])) in
    let entries : entries_behind durable (bytes ++ lines (e ∷ [])) ≡ ws ++ e ∷ [] = ap (λ (b : List ℕ). entries_behind durable b) is ∙ ap entries_or_none (read_back (durable + 1) (ws ++ e ∷ []) numbered fit) in
    let long : length (ws ++ e ∷ []) ≡ length ws + 1 = length-append ws (e ∷ []) in
    record {
      entries = entries;
      waiting = record {
        spelled = is ∙ ap lines (sym entries);
        next = subst (AreNext (durable + 1)) (sym entries) (record { numbered = numbered; fit = fit; before = before });
        newest_is = omega (arith, w.newest_is, ap length entries, long);
        small = small;
      };
    }

pub added : (old new : Batch) (changes : List Change) → IsWaiting old → new.durable ≡ old.durable → new.newest ≡ old.newest + 1
    → new.lines ≡ old.lines ++ lines (entry_behind old changes ∷ []) → FitsEntry (entry_behind old changes) → length new.lines < 2 ^ 61 → HasAdded old new changes
added old new changes waiting durable newest is fits small =
    let more = one_more old.durable old.newest old.lines (entry_behind old changes) waiting refl refl fits (subst (λ (l : List ℕ). length l < 2 ^ 61) is small) in
    record {
      entries = (λ i. entries_behind (durable i) (is i)) ∙ more.entries;
      durable = durable;
      newest = newest;
      waiting =
          subst (λ (d : ℕ). AreWaiting d new.newest new.lines) (sym durable)
          (subst (λ (n : ℕ). AreWaiting old.durable n new.lines) (sym newest)
          (subst (λ (l : List ℕ). AreWaiting old.durable (old.newest + 1) l) (sym is) more.waiting));
    }
