-- Why an order by ranks keeps the order law: each pair by itself, with no induction over the log.
use Rattle.std.proofs.Common.{◌≡◌, ◌≢◌, ℕ, suc, ◌+◌, ◌*◌, ◌<◌, ◌≤◌, Bool, true, false, cond, eqb, ltb, min, List, [], ◌∷◌, ◌++◌, length, ◌⊎◌, inl, inr, refl, sym, ap, ◌∙◌, subst, arith, ltb-true, ltb-false, lt-ltb, ne_eqb, eq-eqb, le-ltb}
use Rattle.std.specs.Prelude.{Contains, IsPermutation, ◌&&◌}
use Rattle.std.proofs.lemmas.Bool.{and_parts, and_from, cases_Bool, cases_lt}
use Rattle.alone.specs.declared.records.Record.{Record}
use Rattle.alone.specs.Commits.{IsLog, IsAccepted, IsDangerous, conflicts_to, reach, share_row}
use Rattle.alone.specs.Order.{least_out, rank, put_by, sort_by, serial_order, IsSerial, without}
use Rattle.siread.proofs.Members.{in_head, in_tail, in_cases, not_in_nil}
use Rattle.alone.proofs.Lists.{Each, Pairs, each_weaker, each_both, each_at, each_from, pairs_put}
use Rattle.alone.proofs.Arranged.{conflict_overlaps, no_conflict_to, Arranges, arranges_each, MayPrecede, serial_from, arranges_permutation, taken_out}

-- what a log says of all its commits
pub record Clean (log : List Record) : Type 0 where
  pub snapshots : (a : Record) → Contains log a → a.snapshot < a.number
  pub no_overwrite : (a b : Record) → Contains log a → Contains log b → b.number < a.number → a.snapshot < b.number → share_row a.changes b.changes ≡ true → ⊥
  pub no_danger : (x p y : Record) → Contains log x → Contains log p → Contains log y → IsDangerous x p y → ⊥
  pub changes_nothing : (a : Record) → Contains log a → a.read_only ≡ true → a.changes ≡ []

pub numbers_below : (log : List Record) → IsLog log → Each (λ w. w.number < suc (length log)) log
numbers_below [] h = tt
numbers_below (c ∷ log) h = (omega (arith, h.0.numbered), each_weaker (λ w. w.number < suc (length log)) (λ w. w.number < suc (suc (length log))) (λ w l. omega arith) log (numbers_below log h.1))

pub earlier_numbers : (c : Record) (earlier : List Record) → IsAccepted c earlier → IsLog earlier → (w : Record) → Contains earlier w → w.number < c.number
earlier_numbers c earlier ok h w m = omega (arith, ok.numbered, each_at (λ w. w.number < suc (length earlier)) earlier (numbers_below earlier h) w m)

pub clean : (log : List Record) → IsLog log → Clean log
clean [] h = record {
  snapshots = λ a m. absurd (not_in_nil a m);
  no_overwrite = λ a b m. absurd (not_in_nil a m);
  no_danger = λ x p y m. absurd (not_in_nil x m);
  changes_nothing = λ a m. absurd (not_in_nil a m);
}
clean (c ∷ log) h =
    let prev = clean log h.1 in
    let below = earlier_numbers c log h.0 h.1 in
    record {
      snapshots = λ a m. elim (in_cases c log a m) [ inl same ↦ subst (λ z. z.snapshot < z.number) same h.0.after_snapshot | inr there ↦ prev.snapshots a there ];
      no_overwrite = λ a b ma mb l s share.
          elim (in_cases c log b mb) [
            | inl cb ↦ elim (in_cases c log a ma) [
              | inl ca ↦ omega (arith, ap (λ z. z.number) ca, ap (λ z. z.number) cb)
              | inr there ↦ (let k = below a there in omega (arith, ap (λ z. z.number) cb))
            ]
            | inr tb ↦ elim (in_cases c log a ma) [
              | inl ca ↦ h.0.no_write_conflict b tb (record { after_snapshot = subst (λ z. z.snapshot < b.number) (sym ca) s; common = subst (λ z. share_row z.changes b.changes ≡ true) (sym ca) share })
              | inr ta ↦ prev.no_overwrite a b ta tb l s share
            ]
          ];
      no_danger = h.0.no_danger;
      changes_nothing = λ a m. elim (in_cases c log a m) [
        | inl same ↦ subst (λ z. z.read_only ≡ true → z.changes ≡ []) same h.0.changes_nothing
        | inr there ↦ prev.changes_nothing a there
      ];
    }

-- where a commit stands
pub least_out_up_to : (log : List Record) (c w : Record) → Contains log w → w.number < c.number → conflicts_to c w ≡ true → least_out log c ≤ w.number
least_out_up_to [] c w m l h = absurd (not_in_nil w m)
least_out_up_to (v ∷ log) c w m l h = elim (in_cases v log w m) [
  | inl same ↦ here (ltb v.number c.number && conflicts_to c v) (subst (λ z. (ltb z.number c.number && conflicts_to c z) ≡ true) (sym same) (and_from _ _ (lt-ltb _ _ l) h)) (ap (λ x. x.number) same)
  | inr there ↦ later (ltb v.number c.number && conflicts_to c v) (least_out_up_to log c w there l h)
]
  where
    here : (b : Bool) → b ≡ true → v.number ≡ w.number → cond b (min v.number (least_out log c)) (least_out log c) ≤ w.number
    here true t e = omega arith
    here false t e = cc

    later : (b : Bool) → least_out log c ≤ w.number → cond b (min v.number (least_out log c)) (least_out log c) ≤ w.number
    later true l = omega arith
    later false l = l

abbrev IsMet : Record → List Record → ℕ → Type 0
IsMet c log m = (m ≡ c.number) ⊎ ((y : Record) × Contains log y × (conflicts_to c y ≡ true) × (y.number < c.number) × (y.number ≡ m))

met_later : (c v : Record) (log : List Record) (m n : ℕ) → m ≡ n → IsMet c log n → IsMet c (v ∷ log) m
met_later c v log m n e h = elim h [ inl own ↦ inl (e ∙ own) | inr y ↦ inr (y.0, in_tail v log y.0 y.1, y.2, y.3, y.4 ∙ sym e) ]

pub least_out_met : (log : List Record) (c : Record) → IsMet c log (least_out log c)
least_out_met [] c = inl refl
least_out_met (v ∷ log) c = go (ltb v.number c.number && conflicts_to c v) refl (least_out_met log c)
  where
    go : (b : Bool) → (ltb v.number c.number && conflicts_to c v) ≡ b → IsMet c log (least_out log c) → IsMet c (v ∷ log) (cond b (min v.number (least_out log c)) (least_out log c))
    go false e h = met_later c v log _ _ refl h
    go true e h =
        let p = and_parts (ltb v.number c.number) (conflicts_to c v) e in
        elim (cases_lt (least_out log c) v.number) [
          | inl below ↦ met_later c v log _ (least_out log c) (omega arith) h
          | inr above ↦ inr (v, in_head v log, p.1, ltb-true _ _ p.0, omega arith)
        ]

-- the three ways in which a commit stands
pub record Follows (log : List Record) (c : Record) : Type 0 where
  pub read_only : c.read_only ≡ true
  pub at_rank : rank log c ≡ 3 * c.snapshot + 2
  pub reaches : reach c ≡ c.snapshot

pub record Stays (log : List Record) (c : Record) : Type 0 where
  pub at_rank : rank log c ≡ 3 * c.number + 1
  pub reaches : reach c ≡ c.number
  pub none : (w : Record) → Contains log w → w.number < c.number → conflicts_to c w ≡ true → ⊥

pub record Moves (log : List Record) (c y : Record) : Type 0 where
  pub listed : Contains log y
  pub conflict : conflicts_to c y ≡ true
  pub below : y.number < c.number
  pub at_rank : rank log c ≡ 3 * y.number
  pub reaches : reach c ≡ c.number
  pub least : (w : Record) → Contains log w → w.number < c.number → conflicts_to c w ≡ true → y.number ≤ w.number

abbrev pub Stands : List Record → Record → Type 0
Stands log c = Follows log c ⊎ Stays log c ⊎ ((y : Record) × Moves log c y)

abbrev pub at_place : List Record → Record → ℕ
at_place log c = cond (eqb (least_out log c) c.number) (3 * c.number + 1) (3 * least_out log c)

pub stands : (log : List Record) (c : Record) → Stands log c
stands log c = elim (cases_Bool c.read_only) [
  | inl only ↦ inl (record {
    read_only = only;
    at_rank = ap (λ b. cond b (3 * c.snapshot + 2) (at_place log c)) only;
    reaches = ap (λ b. cond b c.snapshot c.number) only;
  })
  | inr writes ↦ inr (
      let placed : rank log c ≡ at_place log c = ap (λ b. cond b (3 * c.snapshot + 2) (at_place log c)) writes in
      let reaches : reach c ≡ c.number = ap (λ b. cond b c.snapshot c.number) writes in
      elim (least_out_met log c) [
        | inl own ↦ inl (record {
          at_rank = placed ∙ ap (λ b. cond b (3 * c.number + 1) (3 * least_out log c)) (eq-eqb _ _ own);
          reaches = reaches;
          none = λ w m l h. let k = least_out_up_to log c w m l h in omega arith;
        })
        | inr y ↦ inr (
          y.0,
          record {
            listed = y.1;
            conflict = y.2;
            below = y.3;
            at_rank = placed
                ∙ ap (λ b. cond b (3 * c.number + 1) (3 * least_out log c)) (ne_eqb _ _ (let l = y.3 in let e = y.4 in λ q. omega arith))
                ∙ ap (λ n. 3 * n) (sym y.4);
            reaches = reaches;
            least = λ w m l h. let k = least_out_up_to log c w m l h in omega (arith, y.4);
          },
        )
      ]
      )
]

-- a commit stands after all numbers that its snapshot holds, and no later than its own
pub rank_low : (log : List Record) → Clean log → (a : Record) → Contains log a → 3 * a.snapshot + 2 ≤ rank log a
rank_low log clean a m =
    let s = clean.snapshots a m in
    elim (stands log a) [
      | inl follows ↦ omega (arith, follows.at_rank)
      | inr placed ↦ elim placed [
        | inl stays ↦ omega (arith, stays.at_rank)
        | inr y ↦ (let o = conflict_overlaps a y.0 y.1.conflict in omega (arith, o.second, y.1.at_rank))
      ]
    ]

pub rank_high : (log : List Record) → Clean log → (a : Record) → Contains log a → rank log a ≤ 3 * a.number + 1
rank_high log clean a m =
    let s = clean.snapshots a m in
    elim (stands log a) [
      | inl follows ↦ omega (arith, follows.at_rank)
      | inr placed ↦ elim placed [
        | inl stays ↦ omega (arith, stays.at_rank)
        | inr y ↦ omega (arith, y.1.below, y.1.at_rank)
      ]
    ]

-- and no later than just before the first number that it doesn't reach
pub rank_reach : (log : List Record) (a : Record) → rank log a < 3 * reach a + 3
rank_reach log a =
    elim (stands log a) [
      | inl follows ↦ omega (arith, follows.at_rank, follows.reaches)
      | inr placed ↦ elim placed [
        | inl stays ↦ omega (arith, stays.at_rank, stays.reaches)
        | inr y ↦ omega (arith, y.1.below, y.1.at_rank, y.1.reaches)
      ]
    ]

-- nor does it reach further than its own
pub reach_high : (log : List Record) → Clean log → (a : Record) → Contains log a → reach a ≤ a.number
reach_high log clean a m =
    let s = clean.snapshots a m in
    elim (cases_Bool a.read_only) [
      | inl only ↦ (let is = ap (λ b. cond b a.snapshot a.number) only in omega (arith, is, s))
      | inr writes ↦ (let is = ap (λ b. cond b a.snapshot a.number) writes in omega (arith, is))
    ]

-- of two commits, one that the other conflicts to stands later
module _ (log : List Record) (clean : Clean log) (a b : Record) (ma : Contains log a) (mb : Contains log b) (c : conflicts_to b a ≡ true) where
  -- the pivot conflicts to none that the reader reaches
  past_reader : (m : Record) → Contains log m → conflicts_to a m ≡ true → m.number < a.number → reach b < m.number
  past_reader m mm am l = elim (cases_lt (reach b) m.number) [
    | inl past ↦ past
    | inr within ↦ absurd (clean.no_danger b a m mb ma mm (record { first = c; second = am; before_pivot = l; up_to_reader = within }))
  ]

  rank_rises : rank log b < rank log a
  rank_rises =
      let o = conflict_overlaps b a c in
      let high = rank_reach log b in
      elim (stands log a) [
        | inl follows ↦ absurd (no_conflict_to b a (clean.changes_nothing a ma follows.read_only) c)
        | inr placed ↦ elim placed [
          | inl stays ↦ elim (stands log b) [
            | inl follows ↦ omega (arith, o.first, follows.at_rank, stays.at_rank)
            | inr placed' ↦ elim placed' [
              | inl still ↦ elim (cases_lt a.number b.number) [
                | inl earlier ↦ absurd (still.none a ma earlier c)
                | inr later ↦ (let d = o.differ in omega (arith, still.at_rank, stays.at_rank))
              ]
              | inr y ↦ elim (cases_lt a.number b.number) [
                | inl earlier ↦ (let l = y.1.least a ma earlier c in omega (arith, y.1.at_rank, stays.at_rank))
                | inr later ↦ omega (arith, y.1.at_rank, y.1.below, stays.at_rank)
              ]
            ]
          ]
          | inr m ↦
              let past = past_reader m.0 m.1.listed m.1.conflict m.1.below in
              omega (arith, past, high, m.1.at_rank)
        ]
      ]

pub may_precede : (log : List Record) → Clean log → (a b : Record) → Contains log a → Contains log b → rank log a ≤ rank log b → MayPrecede a b
may_precede log clean a b ma mb l =
    let low = rank_low log clean a ma in
    let high = rank_high log clean b mb in
    record {
      not_held = λ h. omega arith;
      not_overwritten = λ e s. elim (cases_lt a.snapshot b.number) [ inl after ↦ clean.no_overwrite a b ma mb e after s | inr held ↦ omega arith ];
      not_read = λ c. let rises = rank_rises log clean a b ma mb c in omega arith;
    }

-- a list sorted by a number of each
abbrev pub Ascends : (Record → ℕ) → List Record → Type 0
Ascends key order = Pairs (λ a b. key a ≤ key b) order

pub record Insertion (key : Record → ℕ) (c : Record) (order : List Record) : Type 0 where
  pub before : List Record
  pub after : List Record
  pub whole : order ≡ before ++ after
  pub put : put_by key c order ≡ before ++ c ∷ after
  pub small : Each (λ w. key w ≤ key c) before
  pub large : Each (λ w. key c < key w) after

pub insertion : (key : Record → ℕ) (c : Record) (order : List Record) → Ascends key order → Insertion key c order
insertion key c [] p = record { before = []; after = []; whole = refl; put = refl; small = tt; large = tt }
insertion key c (w ∷ rest) p = elim (cases_Bool (ltb (key c) (key w))) [
  | inl less ↦
      let l = ltb-true _ _ less in
      record {
        before = [];
        after = w ∷ rest;
        whole = refl;
        put = ap (λ b. cond b (c ∷ w ∷ rest) (w ∷ put_by key c rest)) less;
        small = tt;
        large = (l, each_weaker (λ v. key w ≤ key v) (λ v. key c < key v) (λ v k. omega arith) rest p.0);
      }
  | inr not_less ↦
      let k = insertion key c rest p.1 in
      record {
        before = w ∷ k.before;
        after = k.after;
        whole = ap (λ o. w ∷ o) k.whole;
        put = ap (λ b. cond b (c ∷ w ∷ rest) (w ∷ put_by key c rest)) not_less ∙ ap (λ o. w ∷ o) k.put;
        small = (ltb-false _ _ not_less, k.small);
        large = k.large;
      }
]

pub ascends : (key : Record → ℕ) (log : List Record) → Ascends key (sort_by key log)
ascends key [] = tt
ascends key (c ∷ log) =
    let k = insertion key c (sort_by key log) (ascends key log) in
    let large = each_weaker (λ w. key c < key w) (λ w. key c ≤ key w) (λ w l. omega arith) k.after k.large in
    subst (Ascends key) (sym k.put) (pairs_put (λ a b. key a ≤ key b) k.before c k.after k.small large
    (subst (Ascends key) k.whole (ascends key log)))

pub sorted_arranges : (key : Record → ℕ) (log : List Record) → Arranges (sort_by key log) log
sorted_arranges key [] = refl
sorted_arranges key (c ∷ log) =
    let k = insertion key c (sort_by key log) (ascends key log) in
    (k.before, k.after, k.put, subst (λ o. Arranges o log) k.whole (sorted_arranges key log))

pairs_listed : (log : List Record) (R Q : Record → Record → Type 0) → ((a b : Record) → Contains log a → Contains log b → R a b → Q a b) → (order : List Record) → Each (Contains log) order → Pairs R order → Pairs Q order
pairs_listed log R Q h [] m p = tt
pairs_listed log R Q h (x ∷ xs) m p =
    (each_weaker (λ y. Contains log y × R x y) (Q x) (λ y q. h x y m.0 q.0 q.1) xs (each_both (Contains log) (R x) xs m.1 p.0), pairs_listed log R Q h xs m.1 p.1)

-- any list of the log's commits by ascending rank keeps the law
pub ascending_is_lawful : (log order : List Record) → IsLog log → Arranges order log → Ascends (rank log) order → Pairs MayPrecede order
ascending_is_lawful log order h arr up =
    pairs_listed log (λ a b. rank log a ≤ rank log b) MayPrecede (may_precede log (clean log h)) order (arranges_each (Contains log) order log arr (each_from (Contains log) log (λ y m. m))) up

pub order_is_lawful : (log : List Record) → IsLog log → Pairs MayPrecede (serial_order log)
order_is_lawful log h = ascending_is_lawful log (serial_order log) h (sorted_arranges (rank log) log) (ascends (rank log) log)

pub order_is_serial : (log : List Record) → IsLog log → IsSerial log (serial_order log)
order_is_serial log h = serial_from log (serial_order log) (sorted_arranges (rank log) log) (order_is_lawful log h) (clean log h).snapshots

pub order_has_each_once : (log : List Record) → IsPermutation log (serial_order log)
order_has_each_once log = arranges_permutation (serial_order log) log (sorted_arranges (rank log) log)

-- ranks stay as the log grows
pub least_out_stays : (c : Record) (log : List Record) (w : Record) → w.number < c.number → least_out (c ∷ log) w ≡ least_out log w
least_out_stays c log w l = ap (λ b. cond (b && conflicts_to w c) (min c.number (least_out log w)) (least_out log w)) (le-ltb _ _ (let k = l in omega arith))

pub rank_stays : (c : Record) (log : List Record) (w : Record) → w.number < c.number → rank (c ∷ log) w ≡ rank log w
rank_stays c log w l =
    ap (λ p. cond w.read_only (3 * w.snapshot + 2) (cond (eqb p w.number) (3 * w.number + 1) (3 * p)))
    (least_out_stays c log w l)

-- the candidate has no conflict to itself
pub own_least : (c : Record) (log : List Record) → least_out (c ∷ log) c ≡ least_out log c
own_least c log =
    ap (λ b. cond (b && conflicts_to c c) (min c.number (least_out log c)) (least_out log c)) (le-ltb _ _ (omega arith))

pub own_rank : (c : Record) (log : List Record) → rank (c ∷ log) c ≡ rank log c
own_rank c log =
    ap (λ p. cond c.read_only (3 * c.snapshot + 2) (cond (eqb p c.number) (3 * c.number + 1) (3 * p)))
    (own_least c log)

put_by_same : (key other : Record → ℕ) (c : Record) (order : List Record) → key c ≡ other c → Each (λ w. key w ≡ other w) order → put_by key c order ≡ put_by other c order
put_by_same key other c [] e h = refl
put_by_same key other c (w ∷ rest) e h =
    (λ i. cond (ltb (e i) (h.0 i)) (c ∷ w ∷ rest) (w ∷ put_by key c rest)) ∙ ap (λ o. cond (ltb (other c) (other w)) (c ∷ w ∷ rest) (w ∷ o)) (put_by_same key other c rest e h.1)

pub sort_by_same : (key other : Record → ℕ) (log : List Record) → Each (λ w. key w ≡ other w) log → sort_by key log ≡ sort_by other log
sort_by_same key other [] h = refl
sort_by_same key other (c ∷ log) h =
    put_by_same key other c (sort_by key log) h.0 (arranges_each (λ w. key w ≡ other w) (sort_by key log) log (sorted_arranges key log) h.1)
    ∙ ap (put_by other c) (sort_by_same key other log h.1)

-- The order with one commit more: it is put in by its rank.
pub order_step : (c : Record) (earlier : List Record) → IsLog (c ∷ earlier)
    → serial_order (c ∷ earlier) ≡ put_by (rank earlier) c (serial_order earlier)
order_step c earlier h =
    sort_by_same (rank (c ∷ earlier)) (rank earlier) (c ∷ earlier) (
      own_rank c earlier,
      each_from (λ w. rank (c ∷ earlier) w ≡ rank earlier w) earlier (λ w m.
          rank_stays c earlier w (earlier_numbers c earlier h.0 h.1 w m)),
    )

pub order_is_kept : (c : Record) (earlier : List Record) → IsLog (c ∷ earlier) → without c.number (serial_order (c ∷ earlier)) ≡ serial_order earlier
order_is_kept c earlier h =
    let key : Record → ℕ = rank (c ∷ earlier) in
    let old = sort_by key earlier in
    let below = earlier_numbers c earlier h.0 h.1 in
    let same : old ≡ serial_order earlier = sort_by_same key (rank earlier) earlier (each_from (λ w. key w ≡ rank earlier w) earlier (λ w m. rank_stays c earlier w (below w m))) in
    let k : Insertion key c old = insertion key c old (ascends key earlier) in
    let differ : Each (λ w. w.number ≢ c.number) (k.before ++ k.after)
    = subst (Each (λ w. w.number ≢ c.number)) k.whole (arranges_each (λ w. w.number ≢ c.number) old earlier (sorted_arranges key earlier)
    (each_from (λ w. w.number ≢ c.number) earlier (λ w m e. omega (arith, below w m)))) in
    ap (without c.number) k.put ∙ taken_out c k.before k.after differ ∙ sym k.whole ∙ same

pub log_falls : (log : List Record) → IsLog log → Pairs (λ a b. b.number < a.number) log
log_falls [] h = tt
log_falls (c ∷ log) h = (each_from (λ w. w.number < c.number) log (earlier_numbers c log h.0 h.1), log_falls log h.1)
