-- Why the two numbers decide whether a commit completes a dangerous triple.
use Rattle.std.proofs.Common.{◌≡◌, ℕ, suc, ◌<◌, ◌≤◌, Bool, true, false, cond, leb, ltb, max, List, [], ◌∷◌, length, ◌⊎◌, ◌↔◌, inl, inr, refl, sym, ap, ◌∙◌, subst, arith, ltb-true, lt-ltb}
use Rattle.std.specs.Prelude.{Contains, ◌&&◌}
use Rattle.std.specs.List.{list_any}
use Rattle.std.proofs.lemmas.Bool.{and_parts, and_from, or_cases, leb-true, leb-false, le-leb, false_from_ne_true, both_ways, cases_Bool, cases_lt}
use Rattle.alone.specs.declared.records.Record.{Record}
use Rattle.alone.specs.Commits.{IsLog, IsDangerous, HasNoDanger, conflicts_to, reach}
use Rattle.alone.specs.Answer.{IsPivotNamed, IsNoPivot, IsReaderNamed}
use Rattle.alone.specs.Order.{least_out}
use Rattle.alone.specs.Numbers.{greatest_in, greatest_reaching, is_pivot, is_reader, is_reader_of, IsNeither, IsLeastPivot}
use Rattle.siread.proofs.Members.{in_head, in_tail, in_cases, not_in_nil}
use Rattle.alone.proofs.Lists.{each_at}
use Rattle.alone.proofs.Arranged.{conflict_overlaps}
use Rattle.alone.proofs.Members.{any_from}
use Rattle.alone.proofs.Ranks.{clean, least_out_up_to, least_out_met, numbers_below, reach_high}

pub greatest_in_up_to : (least : ℕ) (log : List Record) (c w : Record) → Contains log w
    → conflicts_to w c ≡ true → least ≤ reach w → w.number ≤ greatest_reaching least log c
greatest_in_up_to least [] c w m h l = absurd (not_in_nil w m)
greatest_in_up_to least (v ∷ log) c w m h l = elim (in_cases v log w m) [
  | inl same ↦
      here (conflicts_to v c && leb least (reach v))
      (subst (λ z. (conflicts_to z c && leb least (reach z)) ≡ true) (sym same) (and_from _ _ h (le-leb _ _ l)))
      (ap (λ z. z.number) same)
  | inr there ↦ later (conflicts_to v c && leb least (reach v)) (greatest_in_up_to least log c w there h l)
]
  where
    here : (b : Bool) → b ≡ true → v.number ≡ w.number
        → w.number ≤ cond b (max (v.number) (greatest_reaching least log c)) (greatest_reaching least log c)
    here true t e = omega arith
    here false t e = cc

    later : (b : Bool) → w.number ≤ greatest_reaching least log c
        → w.number ≤ cond b (max (v.number) (greatest_reaching least log c)) (greatest_reaching least log c)
    later true l = omega arith
    later false l = l

abbrev IsGreatestIn : ℕ → Record → List Record → ℕ → Type 0
IsGreatestIn least c log m =
    (m ≡ 0) ⊎ ((x : Record) × Contains log x × (conflicts_to x c ≡ true) × (least ≤ reach x) × (x.number ≡ m))

greatest_in_later : (least : ℕ) (c v : Record) (log : List Record) (m n : ℕ) → m ≡ n → IsGreatestIn least c log n
    → IsGreatestIn least c (v ∷ log) m
greatest_in_later least c v log m n e h = elim h [
  | inl own ↦ inl (e ∙ own)
  | inr y ↦ inr (y.0, in_tail v log y.0 y.1, y.2, y.3, y.4 ∙ sym e)
]

pub greatest_in_met : (least : ℕ) (log : List Record) (c : Record)
    → IsGreatestIn least c log (greatest_reaching least log c)
greatest_in_met least [] c = inl refl
greatest_in_met least (v ∷ log) c = go (conflicts_to v c && leb least (reach v)) refl (greatest_in_met least log c)
  where
    go : (b : Bool) → (conflicts_to v c && leb least (reach v)) ≡ b
        → IsGreatestIn least c log (greatest_reaching least log c)
        → IsGreatestIn least c (v ∷ log) (cond b (max (v.number) (greatest_reaching least log c)) (greatest_reaching least log c))
    go false e h = greatest_in_later least c v log _ _ refl h
    go true e h =
        let p = and_parts (conflicts_to v c) (leb least (reach v)) e in
        elim (cases_lt (v.number) (greatest_reaching least log c)) [
          | inl below ↦ greatest_in_later least c v log _ (greatest_reaching least log c) (omega arith) h
          | inr above ↦ inr (v, in_head v log, p.0, leb-true _ _ p.1, omega arith)
        ]

pub any_met : {X : Type 0} (test : X → Bool) (xs : List X) → list_any test xs ≡ true → (x : X) × Contains xs x × (test x ≡ true)
any_met test [] h = cc
any_met test (y ∷ xs) h = elim (or_cases (test y) (list_any test xs) h) [
  | inl here ↦ (y, in_head y xs, here)
  | inr there ↦ (let x = any_met test xs there in (x.0, in_tail y xs x.0 x.1, x.2))
]

-- a candidate over a log
module _ (log : List Record) (h : IsLog log) (c : Record) (number : c.number ≡ suc (length log)) where
  below : (w : Record) → Contains log w → w.number < c.number
  below w m = omega (arith, each_at (λ w. w.number < suc (length log)) log (numbers_below log h) w m)

  not_itself : conflicts_to c c ≡ true → ⊥
  not_itself e = (conflict_overlaps c c e).differ refl

  pub none_from_numbers : is_pivot log c ≡ false → is_reader log c ≡ false → HasNoDanger (c ∷ log)
  none_from_numbers no_pivot no_reader x p y mx mp my d =
      elim (in_cases c log p mp) [
        | inl cp ↦
            let xc : conflicts_to x c ≡ true = subst (λ z. conflicts_to x z ≡ true) (sym cp) d.first in
            let cy : conflicts_to c y ≡ true = subst (λ z. conflicts_to z y ≡ true) (sym cp) d.second in
            elim (in_cases c log x mx) [
              | inl cx ↦ not_itself (subst (λ z. conflicts_to z c ≡ true) (sym cx) xc)
              | inr tx ↦ elim (in_cases c log y my) [
                | inl cy' ↦ not_itself (subst (λ z. conflicts_to c z ≡ true) (sym cy') cy)
                | inr ty ↦
                    let low = least_out_up_to log c y ty (below y ty) cy in
                    let within : least_out log c ≤ reach x = let w = d.up_to_reader in omega arith in
                    let high = greatest_in_up_to (least_out log c) log c x tx xc within in
                    let reached = reach_high log (clean log h) x tx in
                    let past = leb-false _ _ no_pivot in
                    omega arith
              ]
            ]
        | inr tp ↦
            elim (in_cases c log y my) [
              | inl cy ↦ (let l = below p tp in let k = d.before_pivot in omega (arith, ap (λ z. z.number) cy))
              | inr ty ↦ elim (in_cases c log x mx) [
                | inr tx ↦ (clean log h).no_danger x p y tx tp ty d
                | inl cx ↦
                    let cp : conflicts_to c p ≡ true = subst (λ z. conflicts_to z p ≡ true) (sym cx) d.first in
                    let low = least_out_up_to log p y ty d.before_pivot d.second in
                    let within : y.number ≤ reach c = subst (λ z. y.number ≤ reach z) (sym cx) d.up_to_reader in
                    let k = d.before_pivot in
                    let early : least_out log p < p.number = omega arith in
                    let near : least_out log p ≤ reach c = omega arith in
                    both_ways (is_reader log c) no_reader
                    (any_from (is_reader_of log c) log p tp
                    (and_from _ _ cp (and_from _ _ (lt-ltb _ _ early) (le-leb _ _ near))))
              ]
            ]
      ]

  pub pivot_named : is_pivot log c ≡ true → IsPivotNamed log c (greatest_in log c) (least_out log c)
  pivot_named e =
      let l = leb-true _ _ e in
      elim (least_out_met log c) [
        | inl own ↦ elim (greatest_in_met (least_out log c) log c) [
          | inl none ↦ absurd (omega arith)
          | inr x ↦ absurd (let b = below x.0 x.1 in let r = reach_high log (clean log h) x.0 x.1 in omega (arith, x.3))
        ]
        | inr y ↦ elim (greatest_in_met (least_out log c) log c) [
          | inl none ↦ absurd (positive y.0 y.1 (omega (arith, y.4)))
          | inr x ↦ record {
            first = x.0;
            last = y.0;
            triple = record {
              reader_in = x.1;
              writer_in = y.1;
              danger = record { first = x.2; second = y.2; before_pivot = y.3; up_to_reader = omega (arith, x.3, y.4) };
              greatest = λ w v mw mv d.
                  let f = greatest_in_up_to (least_out log c) log c w mw d.first (reached w v mv d) in
                  omega (arith, x.4);
              least = λ w m k. let f = least_out_up_to log c w m (below w m) k in omega (arith, y.4);
            };
            reader_named = x.4;
            writer_named = y.4;
          }
        ]
      ]
    where
      reached : (w v : Record) → Contains log v → IsDangerous w c v → least_out log c ≤ reach w
      reached w v m d =
          let low = least_out_up_to log c v m (below v m) d.second in
          let within = d.up_to_reader in
          omega arith

      positive : (y : Record) → Contains log y → y.number ≡ 0 → ⊥
      positive y m z = omega (arith, (clean log h).snapshots y m)

  reader_with : (p : Record) → Contains log p → is_reader_of log c p ≡ true → (y : Record) × Contains log y × IsDangerous c p y × (y.number ≡ least_out log p)
  reader_with p m e =
      let a = and_parts (conflicts_to c p) (ltb (least_out log p) p.number && leb (least_out log p) (reach c)) e in
      let b = and_parts (ltb (least_out log p) p.number) (leb (least_out log p) (reach c)) a.1 in
      let l : least_out log p < p.number = ltb-true _ _ b.0 in
      let r : least_out log p ≤ reach c = leb-true _ _ b.1 in
      elim (least_out_met log p) [
        | inl own ↦ absurd (omega arith)
        | inr y ↦ (y.0, y.1, record { first = a.0; second = y.2; before_pivot = y.3; up_to_reader = omega (arith, y.4) }, y.4)
      ]

  pub reader_triple : is_reader log c ≡ true → (p : Record) × (y : Record) × Contains log p × Contains log y × IsDangerous c p y
  reader_triple e =
      let p = any_met (is_reader_of log c) log e in
      let y = reader_with p.0 p.1 p.2 in
      (p.0, y.0, p.1, y.1, y.2)

  pub numbers_decide : HasNoDanger (c ∷ log) ↔ IsNeither log c
  numbers_decide = (
    λ no. record {
      no_pivot = false_from_ne_true (is_pivot log c) (λ e. let t = pivot_named e in no t.first c t.last (in_tail c log t.first t.triple.reader_in) (in_head c log) (in_tail c log t.last t.triple.writer_in) t.triple.danger);
      no_reader = false_from_ne_true (is_reader log c) (λ e. let t = reader_triple e in no c t.0 t.1 (in_head c log) (in_tail c log t.0 t.2) (in_tail c log t.1 t.3) t.4);
    },
    λ no. none_from_numbers no.no_pivot no.no_reader,
  )

  -- a triple with the commit as its pivot passes the first test
  pub no_pivot_named : is_pivot log c ≡ false → IsNoPivot log c
  no_pivot_named fails x y mx my d =
      let low = least_out_up_to log c y my (below y my) d.second in
      let within : least_out log c ≤ reach x = let w = d.up_to_reader in omega arith in
      let high = greatest_in_up_to (least_out log c) log c x mx d.first within in
      let reached = reach_high log (clean log h) x mx in
      let past = leb-false _ _ fails in
      omega arith

  -- the least of those of a list that pass as its pivots
  pub record IsLeast (rest : List Record) (p : Record) : Type 0 where
    pub listed : Contains rest p
    pub passes : is_reader_of log c p ≡ true
    pub least : (q : Record) → Contains rest q → is_reader_of log c q ≡ true → p.number ≤ q.number

  least_from : (rest : List Record) → list_any (is_reader_of log c) rest ≡ true → (p : Record) × IsLeast rest p
  least_from [] h = cc
  least_from (v ∷ rest) h = elim (cases_Bool (list_any (is_reader_of log c) rest)) [
    | inl some ↦
        let p = least_from rest some in
        elim (cases_Bool (is_reader_of log c v)) [
          | inl also ↦ elim (cases_lt p.0.number v.number) [
            | inl below ↦ (
              p.0,
              record {
                listed = in_tail v rest p.0 p.1.listed;
                passes = p.1.passes;
                least = λ q m k. elim (in_cases v rest q m) [ inl same ↦ (let e = ap (λ z. z.number) same in omega arith) | inr there ↦ p.1.least q there k ];
              },
            )
            | inr above ↦ (
              v,
              record {
                listed = in_head v rest;
                passes = also;
                least = λ q m k. elim (in_cases v rest q m) [ inl same ↦ (let e = ap (λ z. z.number) same in omega arith) | inr there ↦ (let l = p.1.least q there k in omega arith) ];
              },
            )
          ]
          | inr other ↦ (
            p.0,
            record {
              listed = in_tail v rest p.0 p.1.listed;
              passes = p.1.passes;
              least = λ q m k. elim (in_cases v rest q m) [
                | inl same ↦ absurd (both_ways (is_reader_of log c v) other (subst (λ z. is_reader_of log c z ≡ true) (sym same) k))
                | inr there ↦ p.1.least q there k
              ];
            },
          )
        ]
    | inr none ↦ elim (or_cases (is_reader_of log c v) (list_any (is_reader_of log c) rest) h) [
      | inl here ↦ (
        v,
        record {
          listed = in_head v rest;
          passes = here;
          least = λ q m k. elim (in_cases v rest q m) [
            | inl same ↦ (let e = ap (λ z. z.number) same in omega arith)
            | inr there ↦ absurd (both_ways (list_any (is_reader_of log c) rest) none (any_from (is_reader_of log c) rest q there k))
          ];
        },
      )
      | inr there ↦ absurd (both_ways (list_any (is_reader_of log c) rest) none there)
    ]
  ]

  -- the numbers of a dangerous triple that the commit reads
  passes_from : (p y : Record) → Contains log y → IsDangerous c p y → is_reader_of log c p ≡ true
  passes_from p y my d =
      let low = least_out_up_to log p y my d.before_pivot d.second in
      let k = d.before_pivot in
      let within = d.up_to_reader in
      let early : least_out log p < p.number = omega arith in
      let near : least_out log p ≤ reach c = omega arith in
      and_from _ _ d.first (and_from _ _ (lt-ltb _ _ early) (le-leb _ _ near))

  pub reader_least : is_reader log c ≡ true → (pivot : Record) × IsLeastPivot log c pivot
  reader_least e = let p = least_from log e in (p.0, record { listed = p.1.listed; passes = p.1.passes; least = p.1.least })

  pub reader_named : (p : Record) → IsLeastPivot log c p → IsReaderNamed log c p.number (least_out log p)
  reader_named p h =
      let y = reader_with p h.listed h.passes in
      record {
        middle = p;
        last = y.0;
        middle_in = h.listed;
        last_in = y.1;
        danger = y.2;
        pivot_named = refl;
        writer_named = y.3;
        least_pivot = λ q w mq mw d. h.least q mq (passes_from q w mw d);
        least_writer = λ w mw d. least_out_up_to log p w mw d.before_pivot d.second;
      }
