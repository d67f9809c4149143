-- Sums and products of expressions, with their bounds, a part at a time.
use Rattle.std.proofs.Common.{◌≡◌, ℕ, ◌+◌, ◌*◌, ◌^◌, ◌<◌, ◌≤◌, Bool, true, false, ℤ, pos, ◌+ℤ◌, ◌*ℤ◌, List, ◌∷◌, Option, Some, None, map, drop, get_or, length, refl, sym, ◌∙◌, ap, subst, arith}
use Rattle.std.specs.Prelude.{IsSome, IfSome, nat_le}
use Rattle.std.proofs.lemmas.List.{drop_all}
use Rattle.std.proofs.lemmas.Bool.Decides.{nat_tests}
use Rattle.table.specs.Rows.{RowValues}
use Rattle.value.specs.declared.values.Value.{Value}
use Rattle.value.specs.declared.values.Value.TheVariants.{Int}
use Rattle.value.proofs.Lists.{drop_item}
use Rattle.table.specs.declared.slots.SlotKind.{SlotKind}
use Rattle.table.specs.declared.exprs.Expr.{Expr}
use Rattle.table.specs.declared.exprs.Expr.TheOpen.{Expr-F}
use Rattle.table.specs.declared.exprs.Expr.TheFolds.{fold-roll-Expr}
use Rattle.table.specs.declared.exprs.Expr.TheViews.{Sum, Product}
use Rattle.table.specs.declared.exprs.Expr.TheVariants.{Slot, rolls-Slot, rolls-Sum, rolls-Product}
use Rattle.table.specs.Bounds.{joined_bound, bound_step, bound_of, limit_at}
use Rattle.table.specs.Slots.{magnitude}
use Rattle.table.specs.Eval.{answer, expr_step}
use Rattle.table.specs.Values.{total, operation_value}
use Rattle.table.proofs.SlotLemmas.{limit_at_small}

module _ (row : RowValues) (slots : List Value) where
  pub answer-Sum : (parts : List Expr) → answer row slots (Sum parts) ≡ total (λ m n. m +ℤ n) (Int (pos 0)) (map (answer row slots) parts)
  answer-Sum parts = ap (answer row slots) (sym (rolls-Sum parts)) ∙ fold-roll-Expr Value (expr_step row slots) (Expr-F.Sum parts)

  pub answer-Product : (parts : List Expr) → answer row slots (Product parts) ≡ total (λ m n. m *ℤ n) (Int (pos 1)) (map (answer row slots) parts)
  answer-Product parts = ap (answer row slots) (sym (rolls-Product parts)) ∙ fold-roll-Expr Value (expr_step row slots) (Expr-F.Product parts)

pub bound-Sum : (kinds : List SlotKind) (parts : List Expr) → bound_of kinds (Sum parts) ≡ joined_bound (λ a b. a + b) 0 (map (bound_of kinds) parts)
bound-Sum kinds parts = ap (bound_of kinds) (sym (rolls-Sum parts)) ∙ fold-roll-Expr (Option ℕ) (bound_step kinds) (Expr-F.Sum parts)

pub bound-Product : (kinds : List SlotKind) (parts : List Expr) → bound_of kinds (Product parts) ≡ joined_bound (λ a b. a * b) 1 (map (bound_of kinds) parts)
bound-Product kinds parts = ap (bound_of kinds) (sym (rolls-Product parts)) ∙ fold-roll-Expr (Option ℕ) (bound_step kinds) (Expr-F.Product parts)

-- what was found so far is within a bound that the rest takes up
abbrev pub IsWithin : List SlotKind → (ℕ → ℕ → ℕ) → Value → List Expr → List Expr → ℕ → Type 0
IsWithin kinds g so_far rest items start = (b : ℕ) × ((magnitude so_far ≤ b) × (b ≤ 2 ^ 126) × (joined_bound g b (map (bound_of kinds) rest) ≡ joined_bound g start (map (bound_of kinds) items)))

-- a bound of a list has one of its first part
split : (g : ℕ → ℕ → ℕ) (b : ℕ) (o : Option ℕ) (rest : List (Option ℕ)) → IsSome (joined_bound g b (o ∷ rest)) → (q : ℕ) × ((o ≡ Some q) × (g b q ≤ 2 ^ 126) × (joined_bound g b (o ∷ rest) ≡ joined_bound g (g b q) rest))
split g b None rest h = cc
split g b (Some q) rest h =
    let case : (c : Bool) → nat_le (g b q) (2 ^ 126) ≡ c → (q' : ℕ) × ((Some q ≡ Some q') × (g b q' ≤ 2 ^ 126) × (joined_bound g b (Some q ∷ rest) ≡ joined_bound g (g b q') rest)) = λ c. elim c as (λ c. nat_le (g b q) (2 ^ 126) ≡ c → (q' : ℕ) × ((Some q ≡ Some q') × (g b q' ≤ 2 ^ 126) × (joined_bound g b (Some q ∷ rest) ≡ joined_bound g (g b q') rest))) [
      | true ↦ λ e. (q, (refl, grind (arith, nat_tests), rw e refl))
      | false ↦ λ e. let k : false ≡ true = rw e at h in cc
    ]
    in case (nat_le (g b q) (2 ^ 126)) refl

at_some : (o : Option ℕ) (q m : ℕ) → o ≡ Some q → IfSome o (λ b. (m ≤ b) × (b ≤ 2 ^ 126)) → m ≤ q
at_some None q m e h = cc
at_some (Some b) q m e h = let f : b ≡ q = cc in omega (arith, h.0)

module _ (kinds : List SlotKind) (g : ℕ → ℕ → ℕ) (mono : (a b c d : ℕ) → a ≤ b → c ≤ d → g a c ≤ g b d) (items : List Expr) (start i : ℕ) (part : Expr) (before given after : Value)
    (h : i < length items) (is : part ≡ get_or items i part) (whole : IsSome (joined_bound g start (map (bound_of kinds) items)))
    (within : IsWithin kinds g before (drop i items) items start) (small : IfSome (bound_of kinds part) (λ b. (magnitude given ≤ b) × (b ≤ 2 ^ 126))) where
  taken : (q : ℕ) × ((bound_of kinds part ≡ Some q) × (g within.0 q ≤ 2 ^ 126) × (joined_bound g within.0 (map (bound_of kinds) (part ∷ drop (i + 1) items)) ≡ joined_bound g (g within.0 q) (map (bound_of kinds) (drop (i + 1) items))))
  taken = split g within.0 (bound_of kinds part) (map (bound_of kinds) (drop (i + 1) items)) (subst IsSome (sym (rw (drop_item items i part h is) at within.1.2)) whole)

  -- the next step passes no limit
  pub room : g (magnitude before) (magnitude given) ≤ 2 ^ 126
  room = omega (arith, mono (magnitude before) within.0 (magnitude given) taken.0 within.1.0 (at_some (bound_of kinds part) taken.0 (magnitude given) taken.1.0 small), taken.1.1)

  -- and what is found then is within a bound
  pub within_more : magnitude after ≤ g (magnitude before) (magnitude given) → IsWithin kinds g after (drop (i + 1) items) items start
  within_more less =
      let most : g (magnitude before) (magnitude given) ≤ g within.0 taken.0 = mono (magnitude before) within.0 (magnitude given) taken.0 within.1.0 (at_some (bound_of kinds part) taken.0 (magnitude given) taken.1.0 small) in
      (g within.0 taken.0, (omega (arith, most, less), taken.1.1, sym taken.1.2 ∙ (rw (drop_item items i part h is) at within.1.2)))

-- one part more of the whole
pub total_more : (f : ℤ → ℤ → ℤ) (ans : Expr → Value) (items : List Expr) (i : ℕ) (part : Expr) (before start : Value) → i < length items → part ≡ get_or items i part
    → total f before (map ans (drop i items)) ≡ total f start (map ans items) → total f (operation_value f before (ans part)) (map ans (drop (i + 1) items)) ≡ total f start (map ans items)
total_more f ans items i part before start h is e = ap (λ (es : List Expr). total f before (map ans es)) (sym (drop_item items i part h is)) ∙ e

-- where no part is left
pub total_done : (f : ℤ → ℤ → ℤ) (ans : Expr → Value) (items : List Expr) (i : ℕ) (before start : Value) → length items ≤ i → total f before (map ans (drop i items)) ≡ total f start (map ans items) → before ≡ total f start (map ans items)
total_done f ans items i before start h e = rw (drop_all i items h) at e

pub within_done : (kinds : List SlotKind) (g : ℕ → ℕ → ℕ) (items : List Expr) (start i : ℕ) (so_far : Value) → length items ≤ i → IsWithin kinds g so_far (drop i items) items start → IfSome (joined_bound g start (map (bound_of kinds) items)) (λ b. (magnitude so_far ≤ b) × (b ≤ 2 ^ 126))
within_done kinds g items start i so_far h k = let e : Some k.0 ≡ joined_bound g start (map (bound_of kinds) items) = rw (drop_all i items h) at k.1.2 in subst (λ (o : Option ℕ). IfSome o (λ b. (magnitude so_far ≤ b) × (b ≤ 2 ^ 126))) e (k.1.0, k.1.1)

pub add_mono : (a b c d : ℕ) → a ≤ b → c ≤ d → a + c ≤ b + d
add_mono a b c d p q = omega arith

pub mul_mono : (a b c d : ℕ) → a ≤ b → c ≤ d → a * c ≤ b * d
mul_mono a b c d p q = grind arith

bound-Slot : (kinds : List SlotKind) (slot : ℕ) → bound_of kinds (Slot slot) ≡ Some (limit_at kinds slot)
bound-Slot kinds slot = ap (bound_of kinds) (sym (rolls-Slot slot)) ∙ fold-roll-Expr (Option ℕ) (bound_step kinds) (Expr-F.Slot slot)

-- what stands in a slot is within the slot's bound
pub within_slot : (kinds : List SlotKind) (slot : ℕ) (v : Value) → magnitude v ≤ limit_at kinds slot → IfSome (bound_of kinds (Slot slot)) (λ b. (magnitude v ≤ b) × (b ≤ 2 ^ 126))
within_slot kinds slot v h = subst (λ (o : Option ℕ). IfSome o (λ b. (magnitude v ≤ b) × (b ≤ 2 ^ 126))) (sym (bound-Slot kinds slot)) (h, limit_at_small kinds slot)
