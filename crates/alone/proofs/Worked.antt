-- Short logs with a commit that is read only: X conflicts to P, and P to Y, which committed first.
use Rattle.std.proofs.Common.{◌≡◌, ℕ, Bool, true, false, List, [], ◌∷◌, Some, None, map, refl}
use Rattle.value.specs.declared.values.Value.TheVariants.{Null}
use Rattle.table.specs.declared.rows.Change.{Change}
use Rattle.siread.specs.declared.keys.LockKey.TheVariants.{Table as WholeTable}
use Rattle.alone.specs.declared.records.Record.{Record}
use Rattle.alone.specs.Commits.{conflicts_to, touch_any}
use Rattle.alone.specs.Numbers.{is_pivot, is_reader, greatest_in}
use Rattle.alone.specs.Order.{serial_order}

-- a row put into a table
abbrev one_row : ℕ → Change
one_row table = record { table = table; key = Null; old = None; new = Some [] }

-- a commit that reads some tables and writes others
abbrev commit : (number snapshot : ℕ) → Bool → (reads writes : List ℕ) → Record
commit number snapshot read_only reads writes = record {
  number = number;
  snapshot = snapshot;
  read_only = read_only;
  session = [];
  trace = [];
  reads = map WholeTable reads;
  changes = map one_row writes;
}

abbrev numbers : List Record → List ℕ
numbers order = map (λ r. r.number) order

-- X commits between Y and P
abbrev between : List Record
between = commit 3 0 false (1 ∷ []) (2 ∷ []) ∷ commit 2 0 true (1 ∷ 2 ∷ []) [] ∷ commit 1 0 false [] (1 ∷ []) ∷ []

between_order : numbers (serial_order between) ≡ 2 ∷ 3 ∷ 1 ∷ []
unfolding conflicts_to touch_any
between_order = refl

-- X commits last
abbrev behind : List Record
behind = commit 3 0 true (1 ∷ 2 ∷ []) [] ∷ commit 2 0 false (1 ∷ []) (2 ∷ []) ∷ commit 1 0 false [] (1 ∷ []) ∷ []

behind_order : numbers (serial_order behind) ≡ 3 ∷ 2 ∷ 1 ∷ []
unfolding conflicts_to touch_any
behind_order = refl

-- were it not read only, X would be the reader of a triple in both
abbrev first_two : List Record
first_two = commit 2 0 false (1 ∷ []) (2 ∷ []) ∷ commit 1 0 false [] (1 ∷ []) ∷ []

reader_of_none : is_reader first_two (commit 3 0 true (1 ∷ 2 ∷ []) []) ≡ false
unfolding conflicts_to touch_any
reader_of_none = refl

reader_otherwise : is_reader first_two (commit 3 0 false (1 ∷ 2 ∷ []) []) ≡ true
unfolding conflicts_to touch_any
reader_otherwise = refl

-- with Y in its snapshot X is refused, read only or not
reader_after : is_reader first_two (commit 3 1 true (1 ∷ 2 ∷ []) []) ≡ true
unfolding conflicts_to touch_any
reader_after = refl

-- P as the pivot: of X with the snapshot 0 it makes no triple, of X with the snapshot 1 it does
abbrev before_pivot : ℕ → List Record
before_pivot snapshot = commit 2 snapshot true (1 ∷ 2 ∷ []) [] ∷ commit 1 0 false [] (1 ∷ []) ∷ []

no_pivot_between : is_pivot (before_pivot 0) (commit 3 0 false (1 ∷ []) (2 ∷ [])) ≡ false
unfolding conflicts_to touch_any
no_pivot_between = refl

pivot_after : is_pivot (before_pivot 1) (commit 3 0 false (1 ∷ []) (2 ∷ [])) ≡ true
unfolding conflicts_to touch_any
pivot_after = refl

-- of two that read what P writes, the later reaches less far
greatest_after : greatest_in (commit 3 0 true (2 ∷ []) [] ∷ before_pivot 1) (commit 4 0 false (1 ∷ []) (2 ∷ [])) ≡ 2
unfolding conflicts_to touch_any
greatest_after = refl
