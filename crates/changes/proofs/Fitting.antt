-- Values that are given to the columns of a row that fits.
use Rattle.std.proofs.Common.{◌≡◌, ℕ, ◌<◌, zero, suc, Bool, true, false, cond, List, [], ◌∷◌, Some, None, length, get_or, refl, sym, ap, subst, arith}
use Rattle.std.specs.Prelude.{◌&&◌, slice_get, slice_set}
use Rattle.std.specs.Option.{option_or}
use Rattle.value.specs.declared.values.Value.{Value}
use Rattle.value.specs.declared.refusals.Refusal.TheVariants.{TypeMismatch}
use Rattle.table.specs.declared.schemas.Column.{Column}
use Rattle.table.specs.Rows.{RowValues, FitsColumn, FitsColumns}
use Rattle.table.specs.Faults.{fault_in, is_typed}
use Rattle.table.proofs.RowLemmas.{FitsColumns-of}
use Rattle.alone.specs.Statements.{given_fault}

-- what a look-up by place finds
pub there : {X : Type 0} (xs : List X) (i : ℕ) (x : X) → i < length xs → ((d : X) → x ≡ get_or xs i d) → slice_get xs i ≡ Some x
there [] i x h e = absurd (omega arith)
there (y ∷ ys) zero x h e = ap (λ z. Some z) (sym (e y))
there (y ∷ ys) (suc i) x h e = there ys i x (omega arith) e

-- a value without fault fits its column
pub faultless_fits : (column : Column) (v : Value) → given_fault (Some column) v ≡ None → FitsColumn column v
faultless_fits column v h = go (is_typed column.kind v) refl h
  where
    go : (b : Bool) → is_typed column.kind v ≡ b → cond b (fault_in column v) (Some TypeMismatch) ≡ None → FitsColumn column v
    go true e f = (FitsColumns-of (column ∷ []) (v ∷ []) (ap (λ b. b && true) e) (ap (λ o. option_or o None) f)).0
    go false e f = cc

-- a column of the table is one of the row's
pub in_row : (cs : List Column) (vs : RowValues) (i : ℕ) (c : Column) → slice_get cs i ≡ Some c → FitsColumns cs vs → i < length vs
in_row [] vs i c h f = cc
in_row (c ∷ cs) [] i d h f = absurd f
in_row (c ∷ cs) (v ∷ vs) zero d h f = omega arith
in_row (c ∷ cs) (v ∷ vs) (suc i) d h f = (let l = in_row cs vs i d h f.1 in omega (arith, l))

-- what fits a column, in its place in a row that fits
pub fits_set : (cs : List Column) (vs : RowValues) (i : ℕ) (c : Column) (v : Value) → slice_get cs i ≡ Some c → FitsColumn c v → FitsColumns cs vs → FitsColumns cs (slice_set vs i v)
fits_set [] vs i c v h f g = cc
fits_set (c ∷ cs) [] i d v h f g = absurd g
fits_set (c ∷ cs) (w ∷ ws) zero d v h f g = (let e : d ≡ c = cc in subst (λ x. FitsColumn x v) e f, g.1)
fits_set (c ∷ cs) (w ∷ ws) (suc i) d v h f g = (g.0, fits_set cs ws i d v h f g.1)

-- a row has no column that its table hasn't
pub set_nothing : (cs : List Column) (vs : RowValues) (i : ℕ) (v : Value) → slice_get cs i ≡ None → FitsColumns cs vs → slice_set vs i v ≡ vs
set_nothing [] [] i v h f = refl
set_nothing [] (w ∷ ws) i v h f = absurd f
set_nothing (c ∷ cs) [] i v h f = absurd f
set_nothing (c ∷ cs) (w ∷ ws) zero v h f = cc
set_nothing (c ∷ cs) (w ∷ ws) (suc i) v h f = ap (λ rest. w ∷ rest) (set_nothing cs ws i v h f.1)
