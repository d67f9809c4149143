-- The order law as a law of pairs, and lists that arrange a log.
use Rattle.std.proofs.Common.{◌≡◌, ◌≢◌, ℕ, ◌<◌, ◌≤◌, Bool, true, false, cond, eqb, List, [], ◌∷◌, ◌++◌, ◌⊎◌, inl, inr, refl, sym, ap, ◌∙◌, subst, arith, ltb-true, lt-ltb, ne_eqb, eq-eqb}
use Rattle.std.specs.Prelude.{Contains, IsPermutation, not}
use Rattle.std.proofs.lemmas.List.Sorted.{IsPermutation-refl, IsPermutation-cons, IsPermutation-trans, IsPermutation-sym, IsPermutation-middle}
use Rattle.std.proofs.lemmas.List.Elements.{filter-append}
use Rattle.std.proofs.lemmas.Bool.{and_parts, and_from, both_ways, not-true, eqb-false}
use Rattle.std.specs.List.{list_any}
use Rattle.table.specs.declared.rows.Change.{Change}
use Rattle.siread.specs.declared.keys.LockKey.{LockKey}
use Rattle.siread.specs.Keys.{touches}
use Rattle.alone.specs.declared.records.Record.{Record}
use Rattle.alone.specs.Commits.{conflicts_to, share_row, touch_any}
use Rattle.alone.specs.Order.{Before, IsSerial, without}
use Rattle.siread.proofs.Members.{in_cases, not_in_nil}
use Rattle.alone.proofs.Lists.{Each, Pairs, each_left, each_right, each_put, each_at, in_put, in_middle}

-- what a conflict says of the numbers
pub record Overlaps (a b : Record) : Type 0 where
  pub differ : a.number ≢ b.number
  pub first : b.snapshot < a.number
  pub second : a.snapshot < b.number

pub conflict_overlaps : (a b : Record) → conflicts_to a b ≡ true → Overlaps a b
unfolding conflicts_to
conflict_overlaps a b h =
    let p = (and_parts _ _ h).0 in
    let q = and_parts _ _ p in
    let r = and_parts _ _ q.1 in
    record { differ = eqb-false _ _ (not-true _ q.0); first = ltb-true _ _ r.0; second = ltb-true _ _ r.1 }

pub conflict_from : (a b : Record) → a.number ≢ b.number → b.snapshot < a.number → a.snapshot < b.number → touch_any b.changes a.reads ≡ true → conflicts_to a b ≡ true
unfolding conflicts_to
conflict_from a b d l m t = and_from _ _ (and_from _ _ (ap not (ne_eqb _ _ d)) (and_from _ _ (lt-ltb _ _ l) (lt-ltb _ _ m))) t

no_keys_of_none : (keys : List LockKey)
    → list_any (λ key. list_any (λ (change : Change). touches change key) []) keys ≡ false
no_keys_of_none [] = refl
no_keys_of_none (key ∷ keys) = no_keys_of_none keys

-- what has changed nothing was conflicted to by none
pub no_conflict_to : (a b : Record) → b.changes ≡ [] → conflicts_to a b ≡ true → ⊥
unfolding conflicts_to touch_any
no_conflict_to a b none h =
    both_ways _ (no_keys_of_none a.reads)
    (subst (λ changes. list_any (λ key. list_any (λ (change : Change). touches change key) changes) a.reads ≡ true)
    none (and_parts _ _ h).1)

-- the list lists the log's commits, each once
abbrev pub Arranges : List Record → List Record → Type 0
Arranges order [] = order ≡ []
Arranges order (commit ∷ earlier) = (before : List Record) × (after : List Record) × (order ≡ before ++ commit ∷ after) × Arranges (before ++ after) earlier

pub arranges_in : (order log : List Record) → Arranges order log → (y : Record) → Contains log y → Contains order y
arranges_in order [] h y m = absurd (not_in_nil y m)
arranges_in order (c ∷ log) h y m = subst (λ o. Contains o y) (sym h.2) (elim (in_cases c log y m) [ inl same ↦ subst (λ z. Contains (h.0 ++ c ∷ h.1) z) same (in_middle h.0 c h.1) | inr there ↦ in_put h.0 c h.1 y (arranges_in (h.0 ++ h.1) log h.3 y there) ])

pub arranges_each : (P : Record → Type 0) (order log : List Record) → Arranges order log → Each P log → Each P order
arranges_each P order [] h e = subst (Each P) (sym h) tt
arranges_each P order (c ∷ log) h e = subst (Each P) (sym h.2) (each_put P h.0 c h.1 e.0 (arranges_each P (h.0 ++ h.1) log h.3 e.1))

-- the one may stand before the other
pub record MayPrecede (a b : Record) : Type 0 where
  pub not_held : b.number ≤ a.snapshot → ⊥
  pub not_overwritten : b.number < a.number → share_row a.changes b.changes ≡ true → ⊥
  pub not_read : conflicts_to b a ≡ true → ⊥

-- from pairs to places in the list
pub before_pairs : (R : Record → Record → Type 0) (order : List Record) → Pairs R order → (a b : Record) → Before order a b → R a b
before_pairs R [] p a b h = absurd h
before_pairs R (x ∷ rest) p a b h = elim h [
  | inl here ↦ subst (λ z. R z b) here.0 (each_at (R x) rest p.0 b here.1)
  | inr there ↦ before_pairs R rest p.1 a b there
]

pub one_is_before : (order : List Record) (a b : Record) → Contains order a → Contains order b → (a ≡ b → ⊥) → Before order a b ⊎ Before order b a
one_is_before [] a b ma mb d = absurd (not_in_nil a ma)
one_is_before (x ∷ rest) a b ma mb d =
    elim (in_cases x rest a ma) [
      | inl xa ↦ elim (in_cases x rest b mb) [
        | inl xb ↦ absurd (d (sym xa ∙ xb))
        | inr later ↦ inl (inl (xa, later))
      ]
      | inr here ↦ elim (in_cases x rest b mb) [
        | inl xb ↦ inr (inl (xb, here))
        | inr later ↦ elim (one_is_before rest a b here later d) [ inl l ↦ inl (inr l) | inr r ↦ inr (inr r) ]
      ]
    ]

pub serial_from : (log order : List Record) → Arranges order log → Pairs MayPrecede order → ((b : Record) → Contains log b → b.snapshot < b.number) → IsSerial log order
serial_from log order arr may snaps =
    let member = arranges_in order log arr in
    let place : (a b : Record) → Contains log a → Contains log b → (a ≡ b → ⊥) → (MayPrecede b a → ⊥) → Before order a b
    = λ a b ma mb d no. elim (one_is_before order a b (member a ma) (member b mb) d) [
      | inl l ↦ l
      | inr r ↦ absurd (no (before_pairs MayPrecede order may b a r))
    ] in
    record {
      after_snapshot = λ a b ma mb l.
          let held = snaps b mb in
          place a b ma mb (λ e. omega (arith, ap (λ x. x.number) e)) (λ p. p.not_held l);
      after_writers = λ a b ma mb l s. place a b ma mb (λ e. omega (arith, ap (λ x. x.number) e)) (λ p. p.not_overwritten l s);
      before_conflicts = λ a b ma mb c. place a b ma mb (λ e. (conflict_overlaps a b c).differ (ap (λ x. x.number) e)) (λ p. p.not_read c);
    }

pub arranges_permutation : (order log : List Record) → Arranges order log → IsPermutation log order
arranges_permutation order [] h = subst (IsPermutation []) (sym h) (IsPermutation-refl [])
arranges_permutation order (c ∷ log) h =
    let p = IsPermutation-cons c log (h.0 ++ h.1) (arranges_permutation (h.0 ++ h.1) log h.3) in
    subst (IsPermutation (c ∷ log)) (sym h.2) (IsPermutation-trans (c ∷ log) (c ∷ (h.0 ++ h.1)) (h.0 ++ c ∷ h.1) p (IsPermutation-sym (h.0 ++ c ∷ h.1) (c ∷ (h.0 ++ h.1)) (IsPermutation-middle h.0 c h.1)))

-- the order with one commit taken out
pub keeps_others : (number : ℕ) (order : List Record) → Each (λ w. w.number ≢ number) order → without number order ≡ order
keeps_others number [] e = refl
keeps_others number (w ∷ rest) e = ap (λ b. cond (not b) (w ∷ without number rest) (without number rest)) (ne_eqb _ _ e.0) ∙ ap (λ o. w ∷ o) (keeps_others number rest e.1)

pub takes_out : (c : Record) → without c.number (c ∷ []) ≡ []
takes_out c = ap (λ b. cond (not b) (c ∷ []) []) (eq-eqb c.number c.number refl)

pub taken_out : (c : Record) (before after : List Record) → Each (λ w. w.number ≢ c.number) (before ++ after) → without c.number (before ++ c ∷ after) ≡ before ++ after
taken_out c before after differ =
    let test : Record → Bool = λ r. not (eqb r.number c.number) in
    filter-append test before (c ∷ after)
    ∙ ap (λ o. o ++ without c.number (c ∷ after)) (keeps_others c.number before (each_left (λ w. w.number ≢ c.number) before after differ))
    ∙ ap (λ o. before ++ o) (filter-append test (c ∷ []) after ∙ ap (λ o. o ++ without c.number after) (takes_out c) ∙ keeps_others c.number after (each_right (λ w. w.number ≢ c.number) before after differ))
