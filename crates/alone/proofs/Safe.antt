-- A reader of a safe snapshot is accepted, and a snapshot stays safe.
use Rattle.std.proofs.Common.{◌≡◌, ℕ, ◌<◌, ◌≤◌, true, false, cond, List, [], ◌∷◌, inl, inr, refl, sym, ap, subst, arith}
use Rattle.std.specs.Prelude.{Contains}
use Rattle.std.proofs.lemmas.Bool.{cases_Bool}
use Rattle.siread.proofs.Members.{in_cases}
use Rattle.alone.specs.declared.records.Record.{Record}
use Rattle.alone.specs.Commits.{IsDangerous, IsLog, HasNoWriteConflict, share_row}
use Rattle.alone.specs.Answer.{IsAnswer, Number}
use Rattle.alone.specs.Order.{least_out}
use Rattle.alone.specs.Safe.{IsSafe}
use Rattle.alone.proofs.Arranged.{conflict_overlaps, no_conflict_to}
use Rattle.alone.proofs.Ranks.{clean, earlier_numbers, least_out_met, least_out_stays, least_out_up_to, own_least}

module _ (log : List Record) (x : Record) (h : IsLog log) (only : x.read_only ≡ true) (none : x.changes ≡ []) where
  -- it has changed no row that another changed too
  pub writes_no_row : HasNoWriteConflict log x
  unfolding share_row
  writes_no_row other m c = let e : share_row [] other.changes ≡ true = subst (λ changes. share_row changes other.changes ≡ true) none c.common in let no : ⊥ = cc in absurd no

  module _ (safe : IsSafe log x.snapshot) where
    -- as a reader it has no writer that its snapshot holds
    as_reader : (p y : Record) → Contains log p → Contains log y → IsDangerous x p y → ⊥
    as_reader p y mp my d = elim (cases_Bool p.read_only) [
      | inl reads ↦ no_conflict_to x p ((clean log h).changes_nothing p mp reads) d.first
      | inr writes ↦
          let past = (conflict_overlaps x p d.first).second in
          let low = safe p mp writes past in
          let least = least_out_up_to log p y my d.before_pivot d.second in
          let reached : y.number ≤ x.snapshot = subst (λ n. y.number ≤ n) (ap (λ b. cond b x.snapshot x.number) only) d.up_to_reader in
          omega arith
    ]

    pub in_no_triple : (a p y : Record) → Contains (x ∷ log) a → Contains (x ∷ log) p → Contains (x ∷ log) y → IsDangerous a p y → ⊥
    in_no_triple a p y ma mp my d = elim (in_cases x log p mp) [
      | inl pivot ↦ no_conflict_to a p (subst (λ z. z.changes ≡ []) pivot none) d.first
      | inr tp ↦ elim (in_cases x log y my) [
        | inl writer ↦ no_conflict_to p y (subst (λ z. z.changes ≡ []) writer none) d.second
        | inr ty ↦ elim (in_cases x log a ma) [
          | inl reader ↦ as_reader p y tp ty (subst (λ z. IsDangerous z p y) (sym reader) d)
          | inr ta ↦ (clean log h).no_danger a p y ta tp ty d
        ]
      ]
    ]

    pub is_accepted : IsAnswer log x (Number x.number)
    is_accepted = (refl, writes_no_row, in_no_triple)

-- a commit more leaves a snapshot safe that its own is no older than, or if it is read only
pub stays_safe : (log : List Record) (c : Record) (snapshot : ℕ) → IsLog (c ∷ log) → snapshot < c.number → (c.read_only ≡ false → snapshot ≤ c.snapshot)
    → IsSafe log snapshot → IsSafe (c ∷ log) snapshot
stays_safe log c snapshot h later began safe p m writes past = elim (in_cases c log p m) [
  | inl same ↦
      let own : snapshot < least_out log c = elim (least_out_met log c) [
        | inl itself ↦ (let number = later in omega (arith, itself))
        | inr y ↦
            let o = (conflict_overlaps c y.0 y.2).second in
            let old = began (subst (λ z. z.read_only ≡ false) (sym same) writes) in
            omega (arith, o, old, y.4)
      ] in
      subst (λ z. snapshot < least_out (c ∷ log) z) same (subst (λ n. snapshot < n) (sym (own_least c log)) own)
  | inr there ↦ subst (λ n. snapshot < n) (sym (least_out_stays c log p (earlier_numbers c log h.0 h.1 p there))) (safe p there writes past)
]
