-- The next commit put into the serial order by its rank, which was found from the end.
use Rattle.std.proofs.Common.{◌≡◌, ℕ, zero, suc, ◌+◌, ◌*◌, ◌-◌, ◌<◌, ◌≤◌, false, cond, eqb, List, [], ◌∷◌, ◌++◌, map, length, take, drop, get_or, insert, refl, sym, ap, ◌∙◌, subst, arith, eq-eqb, lt-ltb, le-ltb}
use Rattle.std.specs.Prelude.{Contains}
use Rattle.std.specs.List.{AllByRecursion}
use mathlib.Core.List.{reverse}
use Rattle.std.proofs.lemmas.List.{append-nil, drop_more, get_or-map, length-map, length-reverse, map-append, take-append-drop}
use Rattle.std.proofs.lemmas.List.Elements.{Contains-get_or}
use Rattle.alone.proofs.Lists.{Each, each_at, each_from}
use Rattle.alone.specs.declared.records.Record.{Record}
use Rattle.alone.specs.Commits.{IsLog}
use Rattle.alone.specs.Order.{least_out, put_by, rank, rank_at, serial_order}
use Rattle.alone.proofs.Arranged.{arranges_each}
use Rattle.alone.proofs.Ranks.{Ascends, ascends, clean, numbers_below, order_step, rank_high, sorted_arranges}
use Rattle.alone.proofs.Snapshots.{kept_at}
use Rattle.conflict.specs.Ordered.{numbers_of, IsPlaceOf}

-- any record
abbrev pub nobody : Record
nobody = record { number = 0; snapshot = 0; read_only = false; session = []; trace = []; reads = []; changes = [] }

-- the serial order with one commit more
pub numbers_after : (commit : Record) (earlier : List Record) → IsLog (commit ∷ earlier)
    → numbers_of (serial_order (commit ∷ earlier)) ≡ numbers_of (put_by (rank earlier) commit (serial_order earlier))
numbers_after commit earlier h = ap numbers_of (order_step commit earlier h)

-- what holds of each commit holds of each in the serial order
pub each_in_order : (P : Record → Type 0) (log : List Record) → Each P log → Each P (serial_order log)
each_in_order P log = arranges_each P (serial_order log) log (sorted_arranges (rank log) log)

in_order : (log : List Record) (w : Record) → Contains (serial_order log) w → Contains log w
in_order log =
    each_at (Contains log) (serial_order log)
    (each_in_order (Contains log) log (each_from (Contains log) log (λ w m. m)))

all_of : (P : Record → Type 0) (order : List Record) → Each P order → AllByRecursion P order
all_of P [] e = tt
all_of P (w ∷ order) e = (e.0, all_of P order e.1)

-- behind all of no greater key, where those after it have a greater one
put_between : (key : Record → ℕ) (c : Record) (before after : List Record) → AllByRecursion (λ w. key w ≤ key c) before
    → AllByRecursion (λ w. key c < key w) after → put_by key c (before ++ after) ≡ before ++ c ∷ after
put_between key c [] [] low high = refl
put_between key c [] (w ∷ after) low high =
    ap (λ b. cond b (c ∷ w ∷ after) (w ∷ put_by key c after)) (lt-ltb _ _ high.0)
put_between key c (w ∷ before) after low high =
    ap (λ b. cond b (c ∷ w ∷ before ++ after) (w ∷ put_by key c (before ++ after))) (le-ltb _ _ low.0)
    ∙ ap (λ o. w ∷ o) (put_between key c before after low.1 high)

insert_number : (order : List Record) (at : ℕ) (c : Record) → at ≤ length order
    → insert (numbers_of order) at c.number ≡ numbers_of (take at order ++ c ∷ drop at order)
insert_number [] zero c l = refl
insert_number [] (suc at) c l = absurd (omega arith)
insert_number (w ∷ order) zero c l = refl
insert_number (w ∷ order) (suc at) c l = ap (λ o. w.number ∷ o) (insert_number order at c (omega arith))

-- the number put in where the place of the rank was found
pub put_at_place : (log : List Record) (c : Record) (of at : ℕ) → of ≡ rank log c → IsPlaceOf of log at
    → insert (numbers_of (serial_order log)) at c.number ≡ numbers_of (put_by (rank log) c (serial_order log))
put_at_place log c of at e place =
    let order = serial_order log in
    let before : AllByRecursion (λ w. rank log w ≤ rank log c) (take at order)
    = subst (λ n. AllByRecursion (λ w. rank log w ≤ n) (take at order)) e place.before in
    let behind : AllByRecursion (λ w. rank log c < rank log w) (drop at order)
    = subst (λ n. AllByRecursion (λ w. n < rank log w) (drop at order)) e place.behind in
    insert_number order at c place.within
    ∙ ap numbers_of (sym (put_between (rank log) c (take at order) (drop at order) before behind))
    ∙ ap (λ o. numbers_of (put_by (rank log) c o)) (take-append-drop at order)

-- one that stands at its own number is the last
pub put_last : (log : List Record) (c : Record) → IsLog log → c.number ≡ suc (length log)
    → c.read_only ≡ false → least_out log c ≡ c.number
    → numbers_of (serial_order log) ++ c.number ∷ [] ≡ numbers_of (put_by (rank log) c (serial_order log))
put_last log c h last writes own =
    let order = serial_order log in
    let placed : rank log c ≡ 3 * c.number + 1
    = ap (λ b. cond b (3 * c.snapshot + 2)
    (cond (eqb (least_out log c) c.number) (3 * c.number + 1) (3 * least_out log c))) writes
    ∙ ap (λ b. cond b (3 * c.number + 1) (3 * least_out log c)) (eq-eqb _ _ own) in
    let low : Each (λ w. rank log w ≤ rank log c) order
    = each_in_order (λ w. rank log w ≤ rank log c) log (each_from (λ w. rank log w ≤ rank log c) log (λ w m.
    let high = rank_high log (clean log h) w m in
    let below : w.number < suc (length log)
    = each_at (λ w. w.number < suc (length log)) log (numbers_below log h) w m in
    omega (arith, placed, high, below, last))) in
    sym (map-append (λ (r : Record). r.number) order (c ∷ []))
    ∙ ap numbers_of (sym (put_between (rank log) c order [] (all_of (λ w. rank log w ≤ rank log c) order low) tt))
    ∙ ap (λ o. numbers_of (put_by (rank log) c o)) (append-nil order)

-- where keys ascend, none before one of no greater key has a greater one
low_up_to : (key : Record → ℕ) (of : ℕ) (order : List Record) (at : ℕ) (d : Record) → Ascends key order
    → at < length order → key (get_or order at d) ≤ of → AllByRecursion (λ w. key w ≤ of) (take (suc at) order)
low_up_to key of [] at d up l low = absurd (omega arith)
low_up_to key of (w ∷ order) zero d up l low = (low, tt)
low_up_to key of (w ∷ order) (suc at) d up l low =
    let before : key w ≤ key (get_or order at d)
    = each_at (λ v. key w ≤ key v) order up.0 (get_or order at d) (Contains-get_or order at d (omega arith)) in
    (omega arith, low_up_to key of order at d up.1 (omega arith) low)

-- what is looked at from the end: the commit before those that were
module _ (commits : List Record) (places : List ℕ) (h : IsLog (reverse commits))
    (kept : places ≡ map (least_out (reverse commits)) commits) where
  abbrev log : List Record
  log = reverse commits

  abbrev at_place : ℕ → Record
  at_place at = get_or (serial_order log) at nobody

  pub record IsAt (at number : ℕ) : Type 0 where
    pub inside : at < length (serial_order log)
    pub positive : 0 < number
    pub within : number ≤ length commits
    pub ranked : rank_at (get_or places (number - 1) 0) (get_or commits (number - 1) nobody) ≡ rank log (at_place at)

  is_at : (at number : ℕ) → at < length (serial_order log) → number ≡ get_or (numbers_of (serial_order log)) at 0
      → IsAt at number
  is_at at number l e =
      let w = at_place at in
      let m : Contains log w = in_order log w (Contains-get_or (serial_order log) at nobody l) in
      let is : number ≡ w.number = e ∙ get_or-map (λ (r : Record). r.number) (serial_order log) at nobody 0 l in
      let positive = (clean log h).snapshots w m in
      let below : w.number < suc (length log)
      = each_at (λ w. w.number < suc (length log)) log (numbers_below log h) w m in
      let long : length log ≡ length commits = length-reverse commits in
      let place : get_or places (number - 1) 0 ≡ least_out log w
      = ap (λ o. get_or o (number - 1) 0) kept ∙ ap (λ n. get_or (map (least_out log) commits) (n - 1) 0) is
      ∙ kept_at (least_out log) commits h w m 0 in
      let short : number - 1 < length commits = omega (arith, is, positive, below, long) in
      let commit : get_or commits (number - 1) nobody ≡ w
      = sym (get_or-map (λ (r : Record). r) commits (number - 1) nobody nobody short)
      ∙ ap (λ n. get_or (map (λ (r : Record). r) commits) (n - 1) nobody) is
      ∙ kept_at (λ (r : Record). r) commits h w m nobody in
      record {
        inside = l;
        positive = omega (arith, is, positive);
        within = omega (arith, is, below, long);
        ranked = λ i. rank_at (place i) (commit i);
      }

  pub last_left : (order : List ℕ) (left : ℕ) → order ≡ numbers_of (serial_order log) → 0 < left → left ≤ length order
      → IsAt (left - 1) (get_or order (left - 1) 0)
  last_left order left e some within =
      let long = length-map (serial_order log) (λ (r : Record). r.number) in
      is_at (left - 1) (get_or order (left - 1) 0) (omega (arith, some, within, ap length e, long))
      (ap (λ o. get_or o (left - 1) 0) e)

  -- all from so far on have a greater rank
  abbrev AreGreater : ℕ → ℕ → Type 0
  AreGreater of from = AllByRecursion (λ w. of < rank log w) (drop from (serial_order log))

  -- and so has this one
  pub one_less : (of left number found : ℕ) → IsAt (left - 1) number → 0 < left
      → found ≡ rank_at (get_or places (number - 1) 0) (get_or commits (number - 1) nobody) → of < found
      → AreGreater of left → AreGreater of (left - 1)
  one_less of left number found here some is greater behind =
      let next : left ≡ left - 1 + 1 = omega (arith, some) in
      let own : of < rank log (at_place (left - 1)) = omega (arith, greater, is ∙ here.ranked) in
      subst (AllByRecursion (λ w. of < rank log w)) (sym (drop_more (serial_order log) (left - 1) nobody here.inside))
      (own, subst (AreGreater of) next behind)

  -- or it is the last that has not
  pub found_at : (of left number found : ℕ) → IsAt (left - 1) number → 0 < left
      → found ≡ rank_at (get_or places (number - 1) 0) (get_or commits (number - 1) nobody) → found ≤ of
      → AreGreater of left → IsPlaceOf of log (left - 1 + 1)
  found_at of left number found here some is low behind =
      let next : left ≡ left - 1 + 1 = omega (arith, some) in
      let end : suc (left - 1) ≡ left - 1 + 1 = omega arith in
      let inside = here.inside in
      let own : rank log (at_place (left - 1)) ≤ of = omega (arith, low, is ∙ here.ranked) in
      record {
        within = omega (arith, inside);
        before = subst (λ n. AllByRecursion (λ w. rank log w ≤ of) (take n (serial_order log))) end
            (low_up_to (rank log) of (serial_order log) (left - 1) nobody (ascends (rank log) log) inside own);
        behind = subst (AreGreater of) next behind;
      }
