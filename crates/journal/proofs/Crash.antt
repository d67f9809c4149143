-- What a file says that a crash left while lines were written over its zeros.
use Rattle.std.proofs.Common.{◌≡◌, ℕ, zero, suc, ◌+◌, ◌≤◌, true, List, [], ◌∷◌, ◌++◌, length, take, Option, Some, None, refl, sym, ◌∙◌, ap, subst, arith, append_assoc, length-append}
use Rattle.std.specs.Prelude.{map, ◌==◌}
use Rattle.std.specs.List.{AllByRecursion}
use Rattle.std.proofs.lemmas.Bool.{and_from}
use Rattle.std.proofs.lemmas.Bool.Decides.{nat_tests}
use Rattle.journal.specs.declared.entries.Entry.{Entry}
use Rattle.journal.specs.Spelling as spelled
use Rattle.journal.specs.Tails.{fed, zeros, IsLine, IsMixed}
use Rattle.journal.specs.Fitting.{FitsEntry, AreNumbered, AreNext}
use Rattle.journal.specs.Reading.{◌>>=◌}
use Rattle.journal.specs.Recovery.{entry_at, entries_from, begins_torn, is_silent}
use Rattle.journal.proofs.Again.{entry_again}
use Rattle.journal.proofs.Plain.{line}
use Rattle.journal.proofs.Torn.{mixed_lines}
use Rattle.journal.proofs.Shapes.{Shape, fed_append}
use Rattle.journal.proofs.Silent.{torn_silent, silent_behind, zeros_silent, batch_quiet}

-- the lines of entries
pub lines_are : (es : List Entry) → spelled.lines es ≡ fed (map spelled.line es)
lines_are [] = refl
lines_are (e ∷ es) = ap (λ (l : List ℕ). 10 ∷ (spelled.line e ++ 10 ∷ l)) (lines_are es)

pub all_lines : (es : List Entry) → AllByRecursion FitsEntry es → AllByRecursion IsLine (map spelled.line es)
all_lines [] fit = tt
all_lines (e ∷ es) fit = (line e fit.0, all_lines es fit.1)

again_at : (number : ℕ) (e : Entry) → e.number ≡ number → FitsEntry e → entry_at number (spelled.line e) ≡ Some e
unfolding entry_at
again_at number e numbered fit =
    let same : (e.number == number) ≡ true = grind (arith, nat_tests, numbered) in
    rw (entry_again e fit, same) refl

-- they say these entries
pub lines_again : (number : ℕ) (es : List Entry) → AreNumbered number es → AllByRecursion FitsEntry es → entries_from number (map spelled.line es) ≡ Some es
lines_again number [] numbered fit = refl
lines_again number (e ∷ es) numbered fit =
    rw (again_at number e numbered.0 fit.0, lines_again (number + 1) es numbered.1 fit.1) refl

map_take : (n : ℕ) (es : List Entry) → map spelled.line (take n es) ≡ take n (map spelled.line es)
map_take zero es = refl
map_take (suc n) [] = refl
map_take (suc n) (e ∷ es) = ap (λ (ls : List (List ℕ)). spelled.line e ∷ ls) (map_take n es)

length_map : (es : List Entry) → length (map spelled.line es) ≡ length es
length_map [] = refl
length_map (e ∷ es) = omega (arith, length_map es)

numbered_take : (number n : ℕ) (es : List Entry) → AreNumbered number es → AreNumbered number (take n es)
numbered_take number zero es numbered = tt
numbered_take number (suc n) [] numbered = tt
numbered_take number (suc n) (e ∷ es) numbered = (numbered.0, numbered_take (number + 1) n es numbered.1)

fit_take : (n : ℕ) (es : List Entry) → AllByRecursion FitsEntry es → AllByRecursion FitsEntry (take n es)
fit_take zero es fit = tt
fit_take (suc n) [] fit = tt
fit_take (suc n) (e ∷ es) fit = (fit.0, fit_take n es fit.1)

pub each_both : (a b : List (List ℕ)) → AllByRecursion IsLine a → AllByRecursion IsLine b → AllByRecursion IsLine (a ++ b)
each_both [] b p q = q
each_both (l ∷ a) b p q = (p.0, each_both a b p.1 q)

abbrev held : Option (List Entry) → List Entry
held None = []
held (Some es) = es

-- lines that say entries: the first of them, and those behind it
record Split (first : Option Entry) (others : Option (List Entry)) (es : List Entry) : Type 0 where
  pub entry : Entry
  pub behind : List Entry
  pub first_is : first ≡ Some entry
  pub others_are : others ≡ Some behind
  pub is : es ≡ entry ∷ behind

split : (first : Option Entry) (others : Option (List Entry)) (es : List Entry) → (first >>= λ e. others >>= λ xs. Some (e ∷ xs)) ≡ Some es → Split first others es
split None others es is = absurd cc
split (Some e) None es is = absurd cc
split (Some e) (Some xs) es is = record { entry = e; behind = xs; first_is = refl; others_are = refl; is = sym (ap held is) }

-- lines behind lines
pub entries_append : (first : ℕ) (lines more : List (List ℕ)) (es fs : List Entry) → entries_from first lines ≡ Some es → entries_from (first + length es) more ≡ Some fs
    → entries_from first (lines ++ more) ≡ Some (es ++ fs)
entries_append first [] more es fs says then =
    let none : [] ≡ es = ap held says in
    let number : first + length es ≡ first = omega (arith, ap length none) in
    sym (ap (λ (n : ℕ). entries_from n more) number) ∙ then ∙ ap (λ (l : List Entry). Some (l ++ fs)) none
entries_append first (l ∷ ls) more es fs says then =
    let s = split (entry_at first l) (entries_from (first + 1) ls) es says in
    let number : first + length es ≡ first + 1 + length s.behind = omega (arith, ap length s.is) in
    let rest = entries_append (first + 1) ls more s.behind fs s.others_are (sym (ap (λ (n : ℕ). entries_from n more) number) ∙ then) in
    ap (λ (r : Option Entry). r >>= λ e. entries_from (first + 1) (ls ++ more) >>= λ xs. Some (e ∷ xs)) s.first_is
    ∙ ap (λ (r : Option (List Entry)). r >>= λ xs. Some (s.entry ∷ xs)) rest
    ∙ ap (λ (l : List Entry). Some (l ++ fs)) (sym s.is)

-- Lines that are on the disk, and a batch that was being written over zeros as the machine stopped: the file says their
-- entries and the first few of the batch, each whole, in their order.
pub crash : (first : ℕ) (es batch : List Entry) (lines : List (List ℕ)) (c : List ℕ) (room : ℕ) → AllByRecursion IsLine lines → entries_from first lines ≡ Some es → AreNext (first + length es) batch
    → IsMixed (spelled.lines batch) c → (count : ℕ) × (count ≤ length batch) × Shape first (es ++ take count batch) (fed lines ++ (c ++ 0 ∷ zeros room))
crash first es batch lines c room each says next mixed =
    let torn : IsMixed (fed (map spelled.line batch)) c = subst (λ (l : List ℕ). IsMixed l c) (lines_are batch) mixed in
    let read = mixed_lines (map spelled.line batch) c (zeros room) (all_lines batch next.fit) torn in
    let are : c ++ 0 ∷ zeros room ≡ fed (map spelled.line (take read.count batch)) ++ read.tail =
    read.is ∙ ap (λ (ls : List (List ℕ)). fed ls ++ read.tail) (sym (map_take read.count batch)) in
    let later : first + length es ≤ first + length (es ++ take read.count batch) = omega (arith, length-append es (take read.count batch)) in
    let silent : is_silent (first + length (es ++ take read.count batch)) (c ++ 0 ∷ zeros room) ≡ true =
    torn_silent (first + length (es ++ take read.count batch)) c (zeros room) (map spelled.line batch) (all_lines batch next.fit)
    (batch_quiet (first + length es) (first + length (es ++ take read.count batch)) batch next.fit next.before later) torn (zeros_silent (first + length (es ++ take read.count batch)) room) in
    let behind : is_silent (first + length (es ++ take read.count batch)) read.tail ≡ true =
    silent_behind (first + length (es ++ take read.count batch)) (fed (map spelled.line (take read.count batch))) read.tail
    (subst (λ (l : List ℕ). is_silent (first + length (es ++ take read.count batch)) l ≡ true) are silent) in (
      read.count,
      omega (arith, read.within, length_map batch),
      record {
        lines = lines ++ map spelled.line (take read.count batch);
        tail = read.tail;
        is = ap (λ (l : List ℕ). fed lines ++ l) are ∙ sym (append_assoc (fed lines) (fed (map spelled.line (take read.count batch))) read.tail)
            ∙ ap (λ (l : List ℕ). l ++ read.tail) (sym (fed_append lines (map spelled.line (take read.count batch))));
        each = each_both lines (map spelled.line (take read.count batch)) each (all_lines (take read.count batch) (fit_take read.count batch next.fit));
        says = entries_append first lines (map spelled.line (take read.count batch)) es (take read.count batch) says
            (lines_again (first + length es) (take read.count batch) (numbered_take (first + length es) read.count batch next.numbered) (fit_take read.count batch next.fit));
        none = read.none;
        torn = and_from (begins_torn read.tail) (is_silent (first + length (es ++ take read.count batch)) read.tail) read.begins behind;
      },
    )
