-- The lines of assertions, written one by one beside their truths.
use Rattle.std.proofs.Common.{◌≡◌, ◌+◌, ◌<◌, ℕ, zero, suc, List, [], ◌∷◌, ◌++◌, length, drop, map, Option, Result, Ok, Err, ap, sym, subst, add-one, arith}
use Rattle.std.specs.Prelude.{OnOk, codes, slice_index_or}
use Rattle.std.specs.Io.KnownBytes.{Appends}
use Rattle.std.proofs.KnownBytes.{Appends-trans}
use Rattle.value.specs.declared.truths.Truth.{Truth}
use Rattle.assertion.specs.declared.assertions.Assertion.{Assertion}
use Rattle.report.specs.Closing.{count_line, verdict_line, verdict_lines, verdicts_part}

from : (truth : Assertion → Truth) (assertions : List Assertion) (i : ℕ) (a : Assertion) → i < length assertions → ((other : Assertion) → a ≡ slice_index_or assertions i other)
    → verdict_lines (drop i assertions) (map truth (drop i assertions)) ≡ verdict_line a.name (truth a) ++ verdict_lines (drop (suc i) assertions) (map truth (drop (suc i) assertions))
from truth [] i a within is = absurd (omega (arith, within))
from truth (x ∷ xs) zero a within is = ap (λ (y : Assertion). verdict_line y.name (truth y) ++ verdict_lines xs (map truth xs)) (sym (is x))
from truth (x ∷ xs) (suc i) a within is = from truth xs i a (omega (arith, within)) is

-- the line of the assertion at a place, and those behind it
pub one_more : (truth : Assertion → Truth) (assertions : List Assertion) (i : ℕ) (a : Assertion) → i < length assertions → ((other : Assertion) → a ≡ slice_index_or assertions i other)
    → verdict_lines (drop i assertions) (map truth (drop i assertions)) ≡ verdict_line a.name (truth a) ++ verdict_lines (drop (i + 1) assertions) (map truth (drop (i + 1) assertions))
one_more truth assertions i a within is = rw (add-one) (from truth assertions i a within is)

-- how many there are, and then the lines
pub counted : {T E : Type 0} (written : Result T E) (assertions : List Assertion) (truths : List Truth) (count : ℕ) (a b c : Option (List ℕ)) → count ≡ length assertions
    → Appends a b (count_line (codes "ASSERTIONS ") count) → OnOk written (Appends b c (verdict_lines assertions truths)) → OnOk written (Appends a c (verdicts_part assertions truths))
counted (Ok done) assertions truths count a b c same first second =
    Appends-trans a b c (count_line (codes "ASSERTIONS ") (length assertions)) (verdict_lines assertions truths) (subst (λ n. Appends a b (count_line (codes "ASSERTIONS ") n)) same first) second
counted (Err fault) assertions truths count a b c same first second = tt
