-- There is one index of the same keys.
use Rattle.std.proofs.Common.{◌≡◌, ◌<◌, List, [], ◌∷◌, Some, None, length, refl, sym, ◌∙◌, ap, arith}
use Rattle.std.specs.Prelude.{All, unwrap_or}
use Rattle.std.specs.Option.{option_map}
use Rattle.std.proofs.lemmas.Cmp.{tied_itself}
use Rattle.std.proofs.lemmas.List.Elements.{All-head, All-tail}
use Rattle.std.specs.declared.cmp.Ordering.{Ordering}
use Rattle.std.specs.declared.cmp.Ordering.TheVariants.{Less, Equal, Greater}
use Rattle.value.specs.declared.values.Value.{Value}
use Rattle.value.specs.ValueOrder.{value_cmp}
use Rattle.value.specs.Ordered.{by_order, AreAbove, IsAscending, at}
use Rattle.value.proofs.ValueOrders.{value_cmp_total, value_exact}
use Rattle.value.proofs.OrderedLists.{AreAbove-below, AreAbove-tied, at-above, flipped}
use Rattle.pages.specs.Reach.{key_of, value_of}
use Rattle.groups.specs.Indexes.{ValueKeys, keys_at, IsIndexFor}

abbrev Entry : Type 0
Entry = Value × List Value

abbrev IsFilled : Entry → Type 0
IsFilled entry = 0 < length entry.1

-- the keys of a value, by how it stands beside the first
abbrev turn : Ordering → Entry → ValueKeys → Value → List Value
turn c e es v = unwrap_or (option_map value_of (by_order c None (Some e) (at value_cmp key_of v es))) []

turned : (c : Ordering) (v : Value) (e : Entry) (es : ValueKeys) → value_cmp v e.0 ≡ c → keys_at v (e ∷ es) ≡ turn c e es v
turned c v e es h = ap (λ d. turn d e es v) h

keys-first : (e : Entry) (es : ValueKeys) → keys_at e.0 (e ∷ es) ≡ e.1
keys-first e es = turned Equal e.0 e es (tied_itself value_cmp_total e.0)

keys-above : (v : Value) (es : ValueKeys) → AreAbove value_cmp key_of v es → keys_at v es ≡ []
keys-above v es a = ap (λ o. unwrap_or (option_map value_of o) []) (at-above value_cmp_total key_of v es a)

not_filled : (keys : List Value) → 0 < length keys → keys ≡ [] → ⊥
not_filled keys h e = let zero : length keys ≡ 0 = ap length e in omega (arith, h, zero)

-- the first entry of the one list is below those of the other: it has no keys there
not_below : (d e : Entry) (ds es : ValueKeys) → value_cmp d.0 e.0 ≡ Less → IsFilled d → ((v : Value) → keys_at v (d ∷ ds) ≡ keys_at v (e ∷ es)) → ⊥
not_below d e ds es l f h = not_filled d.1 f (sym (keys-first d ds) ∙ h d.0 ∙ turned Less d.0 e es l)

rest : (d e : Entry) (ds es : ValueKeys) → d.0 ≡ e.0 → AreAbove value_cmp key_of d.0 ds → AreAbove value_cmp key_of e.0 es → ((v : Value) → keys_at v (d ∷ ds) ≡ keys_at v (e ∷ es)) → (v : Value) → keys_at v ds ≡ keys_at v es
rest d e ds es same a b h v =
    let there : (c : Ordering) → value_cmp v d.0 ≡ c → value_cmp v e.0 ≡ c = λ c q. ap (value_cmp v) (sym same) ∙ q in
    let case : (c : Ordering) → value_cmp v d.0 ≡ c → keys_at v ds ≡ keys_at v es = λ c. elim c as (λ c. value_cmp v d.0 ≡ c → keys_at v ds ≡ keys_at v es) [
      | Less ↦ λ q. keys-above v ds (AreAbove-below value_cmp_total key_of v d.0 ds q a) ∙ sym (keys-above v es (AreAbove-below value_cmp_total key_of v e.0 es (there Less q) b))
      | Equal ↦ λ q. keys-above v ds (AreAbove-tied value_cmp_total key_of d.0 v ds q a) ∙ sym (keys-above v es (AreAbove-tied value_cmp_total key_of e.0 v es (there Equal q) b))
      | Greater ↦ λ q. sym (turned Greater v d ds q) ∙ h v ∙ turned Greater v e es (there Greater q)
    ]
    in case (value_cmp v d.0) refl

-- lists in order whose values all have keys are one where they have the same
same-lists : (ds es : ValueKeys) → IsAscending value_cmp key_of ds → IsAscending value_cmp key_of es → All IsFilled ds → All IsFilled es → ((v : Value) → keys_at v ds ≡ keys_at v es) → ds ≡ es
same-lists [] [] s t f g h = refl
same-lists [] (e ∷ es) s t f g h = absurd (not_filled e.1 (All-head IsFilled e es g) (sym (keys-first e es) ∙ sym (h e.0)))
same-lists (d ∷ ds) [] s t f g h = absurd (not_filled d.1 (All-head IsFilled d ds f) (sym (keys-first d ds) ∙ h d.0))
same-lists (d ∷ ds) (e ∷ es) s t f g h =
    let case : (c : Ordering) → value_cmp d.0 e.0 ≡ c → d ∷ ds ≡ e ∷ es = λ c. elim c as (λ c. value_cmp d.0 e.0 ≡ c → d ∷ ds ≡ e ∷ es) [
      | Less ↦ λ q. absurd (not_below d e ds es q (All-head IsFilled d ds f) h)
      | Equal ↦ λ q.
          let same : d.0 ≡ e.0 = value_exact d.0 e.0 q in
          let keys : d.1 ≡ e.1 = sym (keys-first d ds) ∙ h d.0 ∙ turned Equal d.0 e es q in
          let others : ds ≡ es = same-lists ds es s.1 t.1 (All-tail IsFilled d ds f) (All-tail IsFilled e es g) (rest d e ds es same s.0 t.0 h) in
          ap (λ (v : Value). (v, d.1) ∷ ds) same ∙ ap (λ (ks : List Value). (e.0, ks) ∷ ds) keys ∙ ap (λ (fs : ValueKeys). e ∷ fs) others
      | Greater ↦ λ q. absurd (not_below e d es ds (flipped value_cmp_total (key_of {V = List Value}) d.0 e.0 q) (All-head IsFilled e es g) (λ v. sym (h v)))
    ]
    in case (value_cmp d.0 e.0) refl

pub one_index : (keys : Value → List Value) (i j : ValueKeys) → IsIndexFor keys i → IsIndexFor keys j → i ≡ j
one_index keys i j a b = same-lists i j a.in_order b.in_order a.not_empty b.not_empty (λ v. a.right v ∙ sym (b.right v))
