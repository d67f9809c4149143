-- What the readers of a family's values are, and those of all keys, before and after a change of one of them.
use Rattle.std.proofs.Common.{◌≡◌, ℕ, Bool, true, false, cond, List, [], ◌∷◌, Option, refl, sym, ap, ◌∙◌, subst, inl, inr}
use Rattle.std.specs.Prelude.{◌&&◌, unwrap_or, Result, Ok, Err, OnErr}
use Rattle.std.specs.BTreeMap.{BTreeMap, get, is_at}
use Rattle.std.proofs.lemmas.Bool.{cases_Bool}
use Rattle.value.specs.declared.values.Value.{Value}
use Rattle.value.specs.contracts.values.ValueOrd.TheImpl.{cmp-value as value_order}
use Rattle.siread.specs.declared.keys.Family.{Family}
use Rattle.siread.specs.declared.keys.LockKey.{LockKey}
use Rattle.siread.specs.contracts.keys.FamilyOrd.TheImpl.{cmp-value as family_order}
use Rattle.siread.specs.Keys.{same_key, same_value}
use Rattle.siread.specs.Families.{ValueReaders, changed_value, family_of, is_no_entry, readers_of, same_family, value_of}
use Rattle.siread.specs.Readers.{is_none}
use Rattle.siread.specs.Locks.{Reads, changed_at, in_family, readers_at}
use Rattle.siread.proofs.Entries.{changed_by, found_by}
use Rattle.siread.proofs.KeyOrder.{is_eq-family, is_eq-value, same_family-true, same_key-true, same_parts, same_value-true, same_value-refl}

-- the readers of one family
abbrev Readers : Type 0
Readers = BTreeMap Value (List ℕ)

pub readers_are : (m : Readers) (v : Value) (found : Option (List ℕ)) → found ≡ get value_order.it m v → unwrap_or found [] ≡ readers_of m.entries v
readers_are m v found e = found_by value_order.it same_value is_eq-value m v found e

pub after : (old new : Readers) (value : Value) (w : Option (List ℕ)) (f : List ℕ → List ℕ)
    → ((v : Value) → get value_order.it new v ≡ cond (is_at (value_order.it value) v) w (get value_order.it old v))
    → unwrap_or w [] ≡ f (readers_of old.entries value)
    → readers_of new.entries ≡ changed_value value f (readers_of old.entries)
after old new value w f updates there = λ i v. changed_by value_order.it same_value is_eq-value same_value-true (λ readers. readers) old new value w f updates there v i

pub changed_same : (value : Value) (f : List ℕ → List ℕ) (readers : Value → List ℕ) → f (readers value) ≡ readers value → changed_value value f readers ≡ readers
changed_same value f readers stays = λ i v. at v i
  where
    at : (v : Value) → changed_value value f readers v ≡ readers v
    at v = elim (cases_Bool (same_value value v)) [
      | inl same ↦ ap (λ b. cond b (f (readers v)) (readers v)) same ∙ subst (λ u. f (readers u) ≡ readers u) (same_value-true value v same) stays
      | inr apart ↦ ap (λ b. cond b (f (readers v)) (readers v)) apart
    ]

pub changed_there : (value : Value) (f : List ℕ → List ℕ) (readers : Value → List ℕ) → changed_value value f readers value ≡ f (readers value)
changed_there value f readers = ap (λ b. cond b (f (readers value)) (readers value)) (same_value-refl value)

-- the readers of all keys
abbrev Table : Type 0
Table = BTreeMap Family ValueReaders

pub family_is : (m : Table) (family : Family) (found : Option ValueReaders) → found ≡ get family_order.it m family → unwrap_or found [] ≡ in_family m.entries family
family_is m family found e = found_by family_order.it same_family is_eq-family m family found e

-- a change of what one family has, at one value
after_key : (old new : Table) (key : LockKey) (w : Option ValueReaders) (f : List ℕ → List ℕ)
    → ((q : Family) → get family_order.it new q ≡ cond (is_at (family_order.it (family_of key)) q) w (get family_order.it old q))
    → readers_of (unwrap_or w []) ≡ changed_value (value_of key) f (readers_of (in_family old.entries (family_of key)))
    → readers_at new.entries ≡ changed_at key f (readers_at old.entries)
after_key old new key w f updates there = λ i q. at q i
  where
    both : (a b : Bool) (x y : List ℕ) → cond a (cond b x y) y ≡ cond (a && b) x y
    both true b x y = refl
    both false b x y = refl

    at : (q : LockKey) → readers_at new.entries q ≡ changed_at key f (readers_at old.entries) q
    at q =
        ap (λ (readers : Value → List ℕ). readers (value_of q))
        (changed_by family_order.it same_family is_eq-family same_family-true readers_of old new (family_of key) w (changed_value (value_of key) f) updates there (family_of q))
        ∙ go (same_family (family_of key) (family_of q))
        ∙ both (same_family (family_of key) (family_of q)) (same_value (value_of key) (value_of q)) (f (readers_at old.entries q)) (readers_at old.entries q)
        ∙ ap (λ b. cond b (f (readers_at old.entries q)) (readers_at old.entries q)) (sym (same_parts key q))
      where
        go : (b : Bool) → cond b (changed_value (value_of key) f (readers_of (in_family old.entries (family_of q)))) (readers_of (in_family old.entries (family_of q))) (value_of q)
            ≡ cond b (cond (same_value (value_of key) (value_of q)) (f (readers_at old.entries q)) (readers_at old.entries q)) (readers_at old.entries q)
        go true = refl
        go false = refl

-- the same, where the family and the value were found first
pub after_in : (old new : Table) (key : LockKey) (family : Family) (value : Value) → family ≡ family_of key → value ≡ value_of key
    → (w : Option ValueReaders) (f : List ℕ → List ℕ)
    → ((q : Family) → get family_order.it new q ≡ cond (is_at (family_order.it family) q) w (get family_order.it old q))
    → readers_of (unwrap_or w []) ≡ changed_value value f (readers_of (in_family old.entries family))
    → readers_at new.entries ≡ changed_at key f (readers_at old.entries)
after_in old new key family value e v w f updates there =
    after_key old new key w f
    (subst (λ o. (q : Family) → get family_order.it new q ≡ cond (is_at (family_order.it o) q) w (get family_order.it old q)) e updates)
    (there ∙ (λ i. changed_value (v i) f (readers_of (in_family old.entries (e i)))))

-- the readers of a key whose family is not there
pub none_there : (m : Table) (key : LockKey) (family : Family) → family ≡ family_of key → [] ≡ in_family m.entries family → [] ≡ readers_at m.entries key
none_there m key family e none = ap (λ readers. readers_of readers (value_of key)) (none ∙ ap (in_family m.entries) e)

pub left_same : (key : LockKey) (f : List ℕ → List ℕ) (reads : Reads) → f (reads key) ≡ reads key → changed_at key f reads ≡ reads
left_same key f reads stays = λ i q. at q i
  where
    at : (q : LockKey) → changed_at key f reads q ≡ reads q
    at q = elim (cases_Bool (same_key key q)) [
      | inl same ↦ ap (λ b. cond b (f (reads q)) (reads q)) same ∙ subst (λ k. f (reads k) ≡ reads k) (same_key-true key q same) stays
      | inr apart ↦ ap (λ b. cond b (f (reads q)) (reads q)) apart
    ]

pub on_err : {T E : Type 0} (r : Result T E) (P : Type 0) → P → OnErr r P
on_err (Ok x) P p = tt
on_err (Err e) P p = p

pub none_is_empty : (readers : List ℕ) → is_none readers ≡ true → readers ≡ []
none_is_empty [] e = refl
none_is_empty (x ∷ xs) e = cc

pub no_entry_is_empty : (family : ValueReaders) → is_no_entry family ≡ true → family ≡ []
no_entry_is_empty [] e = refl
no_entry_is_empty (x ∷ xs) e = cc
