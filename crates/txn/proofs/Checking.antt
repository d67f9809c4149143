-- Assertions that are looked at one after the other.
use Rattle.std.proofs.Common.{◌≡◌, ◌<◌, ◌+◌, ℕ, zero, suc, Bool, true, false, cond, List, [], ◌∷◌, Option, None, length, drop, refl, sym, ◌∙◌, ap, add-one, arith}
use Rattle.std.specs.Prelude.{slice_index_or}
use Rattle.value.specs.declared.values.Root.{Root}
use Rattle.table.specs.Rows.{Layout}
use Rattle.assertion.specs.declared.assertions.Assertion.{Assertion}
use Rattle.assertion.specs.Meaning.{State}
use Rattle.alone.specs.Modes.{immediate_ones}
use Rattle.alone.specs.Checks.{refusal_at, violation}
use Rattle.txn.specs.Checks.{least_bad_if_meant}

module _ (layouts : List Layout) (state : State) where
  head : (a : Assertion) (m : Bool) (ones : List Assertion) → violation layouts (cond m (a ∷ ones) ones) state ≡ refusal_at a.name (least_bad_if_meant layouts a m state) (violation layouts ones state)
  head a true ones = refl
  head a false ones = refl

  -- the refusal by those from a place on is that of the one there, or else of those behind it
  from : (assertions : List Assertion) (meant : List Bool) (i : ℕ) → i < length assertions → length meant ≡ length assertions → (a : Assertion) (root : Option Root)
      → ((b : Assertion) → root ≡ least_bad_if_meant layouts (slice_index_or assertions i b) (slice_index_or meant i true) state)
      → violation layouts (immediate_ones (drop i meant) (drop i assertions)) state
      ≡ refusal_at (slice_index_or assertions i a).name root (violation layouts (immediate_ones (drop (suc i) meant) (drop (suc i) assertions)) state)
  from [] meant i h e a root is = absurd (omega (arith, h))
  from (b ∷ assertions) [] i h e a root is = absurd (omega (arith, e))
  from (b ∷ assertions) (n ∷ meant) zero h e a root is =
      shown n ∙ ap (λ r. refusal_at b.name r (violation layouts (immediate_ones meant assertions) state)) (sym (is b))
    where
      shown : (n : Bool) → violation layouts (immediate_ones (n ∷ meant) (b ∷ assertions)) state ≡ refusal_at b.name (least_bad_if_meant layouts b n state) (violation layouts (immediate_ones meant assertions) state)
      shown true = head b true (immediate_ones meant assertions)
      shown false = head b false (immediate_ones meant assertions)
  from (b ∷ assertions) (n ∷ meant) (suc i) h e a root is = from assertions meant i (omega (arith, h)) (omega (arith, e)) a root is

  pub at_place : (assertions : List Assertion) (meant : List Bool) (i : ℕ) → i < length assertions → length meant ≡ length assertions → (a : Assertion) (root : Option Root)
      → ((b : Assertion) → root ≡ least_bad_if_meant layouts (slice_index_or assertions i b) (slice_index_or meant i true) state)
      → violation layouts (immediate_ones (drop i meant) (drop i assertions)) state
      ≡ refusal_at (slice_index_or assertions i a).name root (violation layouts (immediate_ones (drop (i + 1) meant) (drop (i + 1) assertions)) state)
  at_place assertions meant i h e a root is = rw (add-one) (from assertions meant i h e a root is)

  pub passed : (assertions : List Assertion) (meant : List Bool) (i : ℕ) → i < length assertions → length meant ≡ length assertions
      → ((b : Assertion) → None ≡ least_bad_if_meant layouts (slice_index_or assertions i b) (slice_index_or meant i true) state)
      → violation layouts (immediate_ones (drop i meant) (drop i assertions)) state ≡ violation layouts (immediate_ones (drop (i + 1) meant) (drop (i + 1) assertions)) state
  passed [] meant i h e is = absurd (omega (arith, h))
  passed (a ∷ assertions) meant i h e is = at_place (a ∷ assertions) meant i h e a None is
