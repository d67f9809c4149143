-- No line of a commit has a zero or a line feed in it.
use Rattle.std.proofs.Common.{ℕ, suc, ◌+◌, ◌^◌, ◌<◌, ◌%◌, List, [], ◌∷◌, ◌++◌, length, Option, Some, None, arith}
use Rattle.std.specs.Prelude.{pos, negsuc}
use Rattle.std.specs.List.{AllByRecursion}
use Rattle.std.specs.Fmt.{decimal}
use Rattle.std.proofs.lemmas.Fmt.{decimal_by_steps}
use Rattle.value.specs.declared.values.Value.{Value}
use Rattle.value.specs.declared.values.Value.TheVariants.{Null, Int, Text}
use Rattle.table.specs.Rows.{RowValues}
use Rattle.table.specs.declared.rows.Change.{Change}
use Rattle.journal.specs.declared.entries.Entry.{Entry}
use Rattle.journal.specs.Spelling as spelled
use Rattle.journal.specs.Tails.{IsPlainByte, IsLine}
use Rattle.journal.specs.Fitting.{IsTextByte, FitsValue, FitsRow, FitsChange, FitsEntry}
use Rattle.journal.proofs.Again.{sum_fits}

byte : (b : ℕ) → 10 < b → IsPlainByte b
byte b high = (λ e. absurd (omega (arith, high, e)), λ e. absurd (omega (arith, high, e)))

tab : IsPlainByte 9
tab = (λ e. absurd (omega (arith, e)), λ e. absurd (omega (arith, e)))

both : (a b : List ℕ) → IsLine a → IsLine b → IsLine (a ++ b)
both [] b p q = q
both (x ∷ a) b p q = (p.0, both a b p.1 q)

digits : (n : ℕ) → n < 2 ^ 64 → IsLine (decimal n)
digits n fits =
    decimal_by_steps
    (λ n ds. IsLine ds)
    (λ n lt. (byte (48 + n) (omega arith), tt))
    (λ n ds le so_far. both ds ((48 + n % 10) ∷ []) so_far (byte (48 + n % 10) (omega arith), tt))
    n fits

number : (n : ℕ) → n < 2 ^ 64 → IsLine (spelled.number n)
number n fits = both (decimal n) (9 ∷ []) (digits n fits) (tab, tt)

text : (bytes : List ℕ) → AllByRecursion IsTextByte bytes → IsLine bytes
text [] fits = tt
text (b ∷ bytes) fits = (byte b (omega (arith, fits.0)), text bytes fits.1)

value : (v : Value) → FitsValue v → IsLine (spelled.value v)
value Null fits = (byte 78 (omega arith), (tab, tt))
value (Int (pos n)) fits = number n (omega (arith, fits))
value (Int (negsuc n)) fits = (byte 45 (omega arith), number (suc n) (omega (arith, fits)))
value (Text bytes) fits = (byte 39 (omega arith), both bytes (9 ∷ []) (text bytes fits) (tab, tt))

each : {A : Type 0} (spell : A → List ℕ) (Fits : A → Type 0) → ((x : A) → Fits x → IsLine (spell x)) → (xs : List A) → AllByRecursion Fits xs → IsLine (spelled.each spell xs)
each spell Fits plain [] fits = tt
each spell Fits plain (x ∷ xs) fits = both (spell x) (spelled.each spell xs) (plain x fits.0) (each spell Fits plain xs fits.1)

row : (r : Option RowValues) → FitsRow r → IsLine (spelled.row r)
row None fits = number 0 (omega arith)
row (Some r) fits = both (spelled.number (length r)) (spelled.values r) (number (length r) fits.1) (each spelled.value FitsValue value r fits.2)

change : (c : Change) → FitsChange c → IsLine (spelled.change c)
change c fits =
    both (spelled.number c.table) (spelled.value c.key ++ (spelled.row c.old ++ spelled.row c.new)) (number c.table fits.table)
    (both (spelled.value c.key) (spelled.row c.old ++ spelled.row c.new) (value c.key fits.key)
    (both (spelled.row c.old) (spelled.row c.new) (row c.old fits.old) (row c.new fits.new)))

body : (e : Entry) → FitsEntry e → IsLine (spelled.body e)
body e fits =
    both (spelled.number e.number) (spelled.number e.durable ++ (spelled.number (length e.changes) ++ spelled.changes e.changes)) (number e.number fits.number)
    (both (spelled.number e.durable) (spelled.number (length e.changes) ++ spelled.changes e.changes) (number e.durable fits.durable)
    (both (spelled.number (length e.changes)) (spelled.changes e.changes) (number (length e.changes) fits.count)
    (each spelled.change FitsChange change e.changes fits.changes)))

pub line : (e : Entry) → FitsEntry e → IsLine (spelled.line e)
line e fits = both (spelled.body e) (spelled.number (spelled.sum (spelled.body e))) (body e fits) (number (spelled.sum (spelled.body e)) (sum_fits (spelled.body e)))
