-- The commit of a line that was written is read again.
use Rattle.std.proofs.Common.{◌≡◌, ℕ, suc, ◌-◌, ◌^◌, ◌<◌, true, false, List, [], ◌∷◌, ◌++◌, length, take, Option, Some, None, refl, sym, ◌∙◌, ap, arith, append_assoc, length-append}
use Rattle.std.specs.Prelude.{◌==◌}
use Rattle.std.specs.List.{AllByRecursion}
use Rattle.std.proofs.lemmas.List.{take_at, append-nil}
use Rattle.std.proofs.lemmas.Bool.Decides.{nat_tests}
use Rattle.table.specs.Rows.{RowValues}
use Rattle.table.specs.declared.rows.Change.{Change}
use Rattle.journal.specs.declared.entries.Entry.{Entry}
use Rattle.journal.specs.Spelling as spelled
use Rattle.journal.specs.Fitting.{FitsValue, FitsRow, FitsChange, FitsEntry}
use Rattle.journal.specs.Reading.{number_from, value_at, items_in, row_at, change_at, body_at, entry_of}
use Rattle.journal.proofs.Fields.{number_again, value_again}

-- items that were written one behind the other are read, if each is
items_again : {A : Type 0} (at : List ℕ → Option (A × List ℕ)) (spell : A → List ℕ) (Fits : A → Type 0)
    → ((x : A) (rest : List ℕ) → Fits x → at (spell x ++ rest) ≡ Some (x, rest))
    → (xs : List A) (rest : List ℕ) → AllByRecursion Fits xs → items_in at (length xs) (spelled.each spell xs ++ rest) ≡ Some (xs, rest)
items_again at spell Fits again [] rest fits = refl
items_again at spell Fits again (x ∷ xs) rest fits =
    ap (items_in at (suc (length xs))) (append_assoc (spell x) (spelled.each spell xs) rest)
    ∙ rw (again x (spelled.each spell xs ++ rest) fits.0, items_again at spell Fits again xs rest fits.1) refl

row_again : (row : Option RowValues) (rest : List ℕ) → FitsRow row → row_at (spelled.row row ++ rest) ≡ Some (row, rest)
unfolding row_at
row_again None rest fits = rw (number_again 0 rest (omega arith)) refl
row_again (Some row) rest fits =
    let some : (length row == 0) ≡ false = grind (arith, nat_tests, fits.0) in
    ap row_at (append_assoc (spelled.number (length row)) (spelled.values row) rest)
    ∙ rw (number_again (length row) (spelled.values row ++ rest) fits.1, some, items_again value_at spelled.value FitsValue value_again row rest fits.2) refl

change_again : (c : Change) (rest : List ℕ) → FitsChange c → change_at (spelled.change c ++ rest) ≡ Some (c, rest)
unfolding change_at
change_again c rest fits =
    let regrouped : spelled.change c ++ rest ≡ spelled.number c.table ++ (spelled.value c.key ++ (spelled.row c.old ++ (spelled.row c.new ++ rest))) =
    append_assoc (spelled.number c.table) (spelled.value c.key ++ (spelled.row c.old ++ spelled.row c.new)) rest
    ∙ ap (λ (l : List ℕ). spelled.number c.table ++ l) (append_assoc (spelled.value c.key) (spelled.row c.old ++ spelled.row c.new) rest
    ∙ ap (λ (l : List ℕ). spelled.value c.key ++ l) (append_assoc (spelled.row c.old) (spelled.row c.new) rest)) in
    ap change_at regrouped
    ∙ rw (
      number_again c.table (spelled.value c.key ++ (spelled.row c.old ++ (spelled.row c.new ++ rest))) fits.table,
      value_again c.key (spelled.row c.old ++ (spelled.row c.new ++ rest)) fits.key,
      row_again c.old (spelled.row c.new ++ rest) fits.old,
      row_again c.new rest fits.new,
    ) refl

body_again : (e : Entry) (rest : List ℕ) → FitsEntry e → body_at (spelled.body e ++ rest) ≡ Some (e, rest)
unfolding body_at
body_again e rest fits =
    let regrouped : spelled.body e ++ rest ≡ spelled.number e.number ++ (spelled.number e.durable ++ (spelled.number (length e.changes) ++ (spelled.changes e.changes ++ rest))) =
    append_assoc (spelled.number e.number) (spelled.number e.durable ++ (spelled.number (length e.changes) ++ spelled.changes e.changes)) rest
    ∙ ap (λ (l : List ℕ). spelled.number e.number ++ l) (append_assoc (spelled.number e.durable) (spelled.number (length e.changes) ++ spelled.changes e.changes) rest
    ∙ ap (λ (l : List ℕ). spelled.number e.durable ++ l) (append_assoc (spelled.number (length e.changes)) (spelled.changes e.changes) rest)) in
    ap body_at regrouped
    ∙ rw (
      number_again e.number (spelled.number e.durable ++ (spelled.number (length e.changes) ++ (spelled.changes e.changes ++ rest))) fits.number,
      number_again e.durable (spelled.number (length e.changes) ++ (spelled.changes e.changes ++ rest)) fits.durable,
      number_again (length e.changes) (spelled.changes e.changes ++ rest) fits.count,
      items_again change_at spelled.change FitsChange change_again e.changes rest fits.changes,
    ) refl

sum_from_fits : (s : ℕ) (bytes : List ℕ) → s < 2 ^ 64 → spelled.sum_from s bytes < 2 ^ 64
unfolding spelled.with_byte
sum_from_fits s [] fits = fits
sum_from_fits s (b ∷ bytes) fits = sum_from_fits (spelled.with_byte s b) bytes (omega arith)

-- What was written is read: the commit of a line.
pub entry_again : (e : Entry) → FitsEntry e → entry_of (spelled.line e) ≡ Some e
unfolding entry_of
entry_again e fits =
    let s = spelled.sum (spelled.body e) in
    let read : number_from 0 (spelled.number s) ≡ Some (s, []) = ap (number_from 0) (sym (append-nil (spelled.number s))) ∙ number_again s [] (sum_from_fits 0 (spelled.body e) (omega arith)) in
    let long : length (spelled.line e) - length (spelled.number s) ≡ length (spelled.body e) = omega (arith, length-append (spelled.body e) (spelled.number s)) in
    let front : take (length (spelled.line e) - length (spelled.number s)) (spelled.line e) ≡ spelled.body e =
    ap (λ (n : ℕ). take n (spelled.line e)) long ∙ take_at (spelled.body e) (spelled.number s) (length (spelled.body e)) refl in
    let same : (s == s) ≡ true = grind (arith, nat_tests) in
    rw (body_again e (spelled.number s) fits, read, front, same) refl

pub sum_fits : (bytes : List ℕ) → spelled.sum bytes < 2 ^ 64
sum_fits bytes = sum_from_fits 0 bytes (omega arith)
