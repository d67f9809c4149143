-- Of a transaction, conflicts look at its number, its snapshot, whether it is read only, its reads and its changes
-- alone.
use Rattle.std.proofs.Common.{◌≡◌, ℕ, Bool, cond, ltb, leb, eqb, not, min, max, List, [], ◌∷◌, refl, sym, ap, ◌∙◌}
use Rattle.std.specs.Prelude.{◌&&◌}
use Rattle.std.specs.List.{list_any}
use Rattle.alone.specs.declared.records.Record.{Record}
use Rattle.alone.specs.Commits.{conflicts_to, touch_any, reach}
use Rattle.alone.specs.Numbers.{greatest_in, greatest_reaching, is_reader, is_reader_of, IsLeastPivot}
use Rattle.alone.specs.Order.{least_out}

-- they differ in their sessions and statements at most
pub record Alike (one other : Record) : Type 0 where
  pub number : one.number ≡ other.number
  pub snapshot : one.snapshot ≡ other.snapshot
  pub read_only : one.read_only ≡ other.read_only
  pub reads : one.reads ≡ other.reads
  pub changes : one.changes ≡ other.changes

out_alike : (a b w : Record) → Alike a b → conflicts_to a w ≡ conflicts_to b w
unfolding conflicts_to
out_alike a b w e = λ i.
    (not (eqb (e.number i) w.number) && (ltb w.snapshot (e.number i) && ltb (e.snapshot i) w.number)) && touch_any w.changes (e.reads i)

in_alike : (a b w : Record) → Alike a b → conflicts_to w a ≡ conflicts_to w b
unfolding conflicts_to
in_alike a b w e = λ i.
    (not (eqb w.number (e.number i)) && (ltb (e.snapshot i) w.number && ltb w.snapshot (e.number i))) && touch_any (e.changes i) w.reads

pub least_out_alike : (log : List Record) (a b : Record) → Alike a b → least_out log a ≡ least_out log b
least_out_alike [] a b e = e.number
least_out_alike (w ∷ log) a b e =
    let out = out_alike a b w e in
    let rest = least_out_alike log a b e in
    λ i. cond (ltb w.number (e.number i) && out i) (min w.number (rest i)) (rest i)

greatest_alike : (least : ℕ) (log : List Record) (a b : Record) → Alike a b
    → greatest_reaching least log a ≡ greatest_reaching least log b
greatest_alike least [] a b e = refl
greatest_alike least (w ∷ log) a b e =
    let from = in_alike a b w e in
    let rest = greatest_alike least log a b e in
    λ i. cond (from i && leb least (reach w)) (max w.number (rest i)) (rest i)

pub greatest_in_alike : (log : List Record) (a b : Record) → Alike a b → greatest_in log a ≡ greatest_in log b
greatest_in_alike log a b e =
    ap (λ least. greatest_reaching least log a) (least_out_alike log a b e)
    ∙ greatest_alike (least_out log b) log a b e

pivot_alike : (log : List Record) (a b p : Record) → Alike a b → is_reader_of log a p ≡ is_reader_of log b p
pivot_alike log a b p e =
    let out = out_alike a b p e in
    let reaches : reach a ≡ reach b = λ i. cond (e.read_only i) (e.snapshot i) (e.number i) in
    λ i. out i && (ltb (least_out log p) p.number && leb (least_out log p) (reaches i))

any_same : {X : Type 0} (test other : X → Bool) (xs : List X) → ((x : X) → test x ≡ other x) → list_any test xs ≡ list_any other xs
any_same test other xs same = ap (λ t. list_any t xs) (λ i x. same x i)

pub is_reader_alike : (log : List Record) (a b : Record) → Alike a b → is_reader log a ≡ is_reader log b
is_reader_alike log a b e = any_same (is_reader_of log a) (is_reader_of log b) log (λ p. pivot_alike log a b p e)

pub least_pivot_alike : (log : List Record) (a b p : Record) → Alike a b → IsLeastPivot log a p → IsLeastPivot log b p
least_pivot_alike log a b p e h = record {
  listed = h.listed;
  passes = sym (pivot_alike log a b p e) ∙ h.passes;
  least = λ other m t. h.least other m (pivot_alike log a b other e ∙ t);
}
