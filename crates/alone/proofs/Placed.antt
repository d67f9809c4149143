-- The serial order goes by rank and, at one rank, by number.
use Rattle.std.proofs.Common.{◌≡◌, ℕ, ◌+◌, ◌*◌, ◌<◌, ◌≤◌, true, false, cond, eqb, List, [], ◌∷◌, ◌++◌, ◌⊎◌, inl, inr, sym, ap, ◌∙◌, subst, arith, eqb-true}
use Rattle.std.specs.Prelude.{Contains}
use Rattle.std.proofs.lemmas.Bool.{cases_Bool, cases_lt}
use Rattle.alone.specs.declared.records.Record.{Record}
use Rattle.alone.specs.Commits.{IsLog}
use Rattle.alone.specs.Order.{least_out, rank, sort_by, serial_order, Before, StandBySnapshot}
use Rattle.alone.proofs.Lists.{Each, Pairs, each_weaker, each_both, each_left, pairs_put}
use Rattle.alone.proofs.Arranged.{arranges_in, arranges_each, before_pairs, one_is_before}
use Rattle.alone.proofs.Ranks.{Insertion, insertion, ascends, at_place, sorted_arranges, log_falls}

abbrev pub Precedes : (Record → ℕ) → Record → Record → Type 0
Precedes key a b = (key a < key b) ⊎ ((key a ≡ key b) × (a.number < b.number))

low_precedes : (key : Record → ℕ) (w c : Record) → w.number < c.number → key w ≤ key c → Precedes key w c
low_precedes key w c l k = elim (cases_lt (key w) (key c)) [ inl less ↦ inl less | inr over ↦ inr (omega arith, l) ]

pub precede : (key : Record → ℕ) (log : List Record) → Pairs (λ a b. b.number < a.number) log
    → Pairs (Precedes key) (sort_by key log)
precede key [] falls = tt
precede key (c ∷ log) falls =
    let Less : Record → Type 0 = λ w. w.number < c.number in
    let Low : Record → Type 0 = λ w. key w ≤ key c in
    let k : Insertion key c (sort_by key log) = insertion key c (sort_by key log) (ascends key log) in
    let below : Each Less (k.before ++ k.after)
    = subst (Each Less) k.whole (arranges_each Less (sort_by key log) log (sorted_arranges key log) falls.0) in
    subst (Pairs (Precedes key)) (sym k.put)
    (pairs_put (Precedes key) k.before c k.after
    (each_weaker (λ w. Less w × Low w) (λ w. Precedes key w c) (λ w q. low_precedes key w c q.0 q.1) k.before
    (each_both Less Low k.before (each_left Less k.before k.after below) k.small))
    (each_weaker (λ w. key c < key w) (Precedes key c) (λ w l. inl l) k.after k.large)
    (subst (Pairs (Precedes key)) k.whole (precede key log falls.1)))

not_both : (key : Record → ℕ) (a b : Record) → Precedes key a b → Precedes key b a → ⊥
not_both key a b p q = elim p [
  | inl l ↦ elim q [ inl m ↦ omega arith | inr m ↦ (let e = m.0 in omega arith) ]
  | inr l ↦ elim q [ inl m ↦ (let e = l.0 in omega arith) | inr m ↦ (let x = l.1 in let y = m.1 in omega arith) ]
]

pub stands_before : (log : List Record) → IsLog log → (a b : Record) → Contains log a → Contains log b
    → Precedes (rank log) a b → Before (serial_order log) a b
stands_before log h a b ma mb p =
    let order = serial_order log in
    let member = arranges_in order log (sorted_arranges (rank log) log) in
    let differ : (a ≡ b) → ⊥
    = λ e.
    let own : Precedes (rank log) a a = subst (λ z. Precedes (rank log) a z) (sym e) p in
    not_both (rank log) a a own own in
    elim (one_is_before order a b (member a ma) (member b mb) differ) [
      | inl l ↦ l
      | inr r ↦
          let turned = before_pairs (Precedes (rank log)) order (precede (rank log) log (log_falls log h)) b a r in
          absurd (not_both (rank log) a b p turned)
    ]

reader_rank : (log : List Record) (r : Record) → r.read_only ≡ true → rank log r ≡ 3 * r.snapshot + 2
reader_rank log r e = ap (λ b. cond b (3 * r.snapshot + 2) (at_place log r)) e

-- the rank of another is three times its place, or one more
record IsRankOf (log : List Record) (a : Record) : Type 0 where
  pub low : 3 * least_out log a ≤ rank log a
  pub high : rank log a ≤ 3 * least_out log a + 1

other_rank : (log : List Record) (a : Record) → a.read_only ≡ false → IsRankOf log a
other_rank log a e =
    let placed : rank log a ≡ at_place log a = ap (λ b. cond b (3 * a.snapshot + 2) (at_place log a)) e in
    elim (cases_Bool (eqb (least_out log a) a.number)) [
      | inl own ↦
          let is = placed ∙ ap (λ b. cond b (3 * a.number + 1) (3 * least_out log a)) own in
          let same = eqb-true _ _ own in
          record { low = omega arith; high = omega arith }
      | inr moved ↦
          let is = placed ∙ ap (λ b. cond b (3 * a.number + 1) (3 * least_out log a)) moved in
          record { low = omega arith; high = omega arith }
    ]

pub readers_placed : (log : List Record) → IsLog log → StandBySnapshot log (serial_order log)
readers_placed log h = record {
  behind = λ a r ma mr ea er l.
      let x = other_rank log a ea in
      let y = reader_rank log r er in
      stands_before log h a r ma mr (inl (omega (arith, x.high)));
  before = λ r a mr ma er ea l.
      let x = other_rank log a ea in
      let y = reader_rank log r er in
      stands_before log h r a mr ma (inl (omega (arith, x.low)));
  by_snapshot = λ r q mr mq er eq l.
      let x = reader_rank log r er in
      let y = reader_rank log q eq in
      stands_before log h r q mr mq (inl (omega arith));
  by_number = λ r q mr mq er eq e l.
      let x = reader_rank log r er in
      let y = reader_rank log q eq in
      stands_before log h r q mr mq (inr (omega arith, l));
}
