-- A list of keys and values beside the list of records that they make: what stands at a key, and a change.
use Rattle.std.proofs.Common.{◌≡◌, List, [], ◌∷◌, ◌++◌, map, Option, Some, None, refl, ◌∙◌, ap, option_map}
use Rattle.std.specs.Prelude.{option_to_list}
use Rattle.std.specs.declared.cmp.Ordering.{Ordering}
use Rattle.std.specs.declared.cmp.Ordering.TheVariants.{Less, Equal, Greater}
use Rattle.value.specs.declared.values.Value.{Value}
use Rattle.value.specs.ValueOrder.{value_cmp}
use Rattle.value.specs.Ordered.{by_order, at, put}
use Rattle.pages.specs.Reach.{key_of, entry_of}

module _ {V X : Type 0} (make : Value × V → X) (key : X → Value) (same : (e : Value × V) → e.0 ≡ key (make e)) where
  abbrev none : Option X
  none = None

  -- what stands at a key
  pub at-made : (k : Value) (es : List (Value × V)) → option_map make (at value_cmp key_of k es) ≡ at value_cmp key k (map make es)
  at-made k [] = refl
  at-made k (e ∷ es) =
      let case : (c : Ordering) → option_map make (by_order c None (Some e) (at value_cmp key_of k es)) ≡ by_order c none (Some (make e)) (at value_cmp key k (map make es)) = λ c. elim c as (λ c. option_map make (by_order c None (Some e) (at value_cmp key_of k es)) ≡ by_order c none (Some (make e)) (at value_cmp key k (map make es))) [
        | Less ↦ refl
        | Equal ↦ refl
        | Greater ↦ at-made k es
      ]
      in case (value_cmp k e.0) ∙ ap (λ (v : Value). by_order (value_cmp k v) none (Some (make e)) (at value_cmp key k (map make es))) (same e)

  made-front : (k : Value) (new : Option V) (es : List (Value × V)) → map make (option_to_list (entry_of k new) ++ es) ≡ option_to_list (option_map (λ v. make (k, v)) new) ++ map make es
  made-front k None es = refl
  made-front k (Some v) es = refl

  made-alone : (k : Value) (new : Option V) → map make (option_to_list (entry_of k new)) ≡ option_to_list (option_map (λ v. make (k, v)) new)
  made-alone k None = refl
  made-alone k (Some v) = refl

  -- the list after a change at a key
  pub put-made : (k : Value) (new : Option V) (es : List (Value × V)) → map make (put value_cmp key_of k (entry_of k new) es) ≡ put value_cmp key k (option_map (λ v. make (k, v)) new) (map make es)
  put-made k new [] = made-alone k new
  put-made k new (e ∷ es) =
      let old : List (Value × V) = option_to_list (entry_of k new) in
      let made : List X = option_to_list (option_map (λ v. make (k, v)) new) in
      let rest : List X = put value_cmp key k (option_map (λ v. make (k, v)) new) (map make es) in
      let case : (c : Ordering) → map make (by_order c (old ++ e ∷ es) (old ++ es) (e ∷ put value_cmp key_of k (entry_of k new) es)) ≡ by_order c (made ++ make e ∷ map make es) (made ++ map make es) (make e ∷ rest) = λ c. elim c as (λ c. map make (by_order c (old ++ e ∷ es) (old ++ es) (e ∷ put value_cmp key_of k (entry_of k new) es)) ≡ by_order c (made ++ make e ∷ map make es) (made ++ map make es) (make e ∷ rest)) [
        | Less ↦ made-front k new (e ∷ es)
        | Equal ↦ made-front k new es
        | Greater ↦ ap (λ xs. make e ∷ xs) (put-made k new es)
      ]
      in case (value_cmp k e.0) ∙ ap (λ (v : Value). by_order (value_cmp k v) (made ++ make e ∷ map make es) (made ++ map make es) (make e ∷ rest)) (same e)
