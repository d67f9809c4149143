-- The keys of a list, one item after the other.
use Rattle.std.proofs.Common.{◌≡◌, ℕ, zero, suc, ◌<◌, Bool, true, false, cond, List, [], ◌∷◌, ◌++◌, length, map, drop, get_or, refl, sym, ap, ◌∙◌, arith, append_assoc}
use Rattle.std.specs.Prelude.{◌==◌, flat_map}
use Rattle.std.proofs.lemmas.Grind.{flat_map-append}
use Rattle.table.specs.declared.aggregates.Aggregate.{Aggregate}
use Rattle.table.specs.declared.conds.Cond.{Cond}
use Rattle.table.specs.declared.rows.Change.{Change}
use Rattle.table.specs.Rows.{Layout, RowValues, value_in}
use Rattle.assertion.specs.declared.assertions.Assertion.{Assertion}
use Rattle.assertion.specs.declared.forms.Form.{Form}
use Rattle.assertion.specs.declared.forms.Form.TheVariants.{ByGroup}
use Rattle.assertion.specs.Candidates.{candidates, candidates_of, group_candidates, rows_of_change}
use Rattle.assertion.specs.Meaning.{State}
use Rattle.siread.specs.declared.keys.LockKey.{LockKey}
use Rattle.siread.specs.declared.keys.LockKey.TheVariants.{Column as InColumn}
use Rattle.alone.specs.Modes.{immediate_ones}
use Rattle.alone.specs.Checks.{check_keys, checks_read, keys_for}
use Rattle.changes.specs.Lookups.{group_keys}

-- what a check of the assertions meant reads, by the first of them
first_one : (layouts : List Layout) (state : State) (m : Bool) (meant : List Bool) (a : Assertion) (assertions : List Assertion) (changes : List Change)
    → checks_read layouts state (immediate_ones (m ∷ meant) (a ∷ assertions)) changes
    ≡ cond m (check_keys layouts state a.form changes) [] ++ checks_read layouts state (immediate_ones meant assertions) changes
first_one layouts state true meant a assertions changes = refl
first_one layouts state false meant a assertions changes = refl

-- one assertion more
pub one_more : (layouts : List Layout) (state : State) (d : Bool) (meant : List Bool) (assertions : List Assertion) (changes : List Change)
    → (i : ℕ) (old new whole : List LockKey) → i < length meant → length meant ≡ length assertions
    → ((a : Assertion) → new ≡ old ++ cond (get_or meant i d) (check_keys layouts state (get_or assertions i a).form changes) [])
    → old ++ checks_read layouts state (immediate_ones (drop i meant) (drop i assertions)) changes ≡ whole
    → new ++ checks_read layouts state (immediate_ones (drop (suc i) meant) (drop (suc i) assertions)) changes ≡ whole
one_more layouts state d [] assertions changes i old new whole h e pushed rest = absurd (omega arith)
one_more layouts state d (m ∷ meant) [] changes i old new whole h e pushed rest = absurd (omega arith)
one_more layouts state d (m ∷ meant) (a ∷ assertions) changes zero old new whole h e pushed rest =
    ap (λ keys. keys ++ checks_read layouts state (immediate_ones meant assertions) changes) (pushed a)
    ∙ append_assoc old (cond m (check_keys layouts state a.form changes) []) (checks_read layouts state (immediate_ones meant assertions) changes)
    ∙ ap (λ keys. old ++ keys) (sym (first_one layouts state m meant a assertions changes)) ∙ rest
one_more layouts state d (m ∷ meant) (a ∷ assertions) changes (suc i) old new whole h e pushed rest =
    one_more layouts state d meant assertions changes i old new whole (omega arith) (omega arith) pushed rest

module _ (layouts : List Layout) (state : State) (table group : ℕ) (restriction having : Cond) (aggregates : List Aggregate) where
  abbrev form : Form
  form = ByGroup table restriction group having aggregates

  -- what is read of the groups of some rows
  groups_of : (b : Bool) (rows : List RowValues)
      → cond b (map (λ row. InColumn table group (value_in group row)) rows) [] ≡ flat_map (keys_for layouts state form) (cond b (group_candidates group rows) [])
  groups_of false rows = refl
  groups_of true [] = refl
  groups_of true (row ∷ rows) = ap (λ keys. InColumn table group (value_in group row) ∷ keys) (groups_of true rows)

  -- by groups what is read at the candidates are the groups
  pub groups_read : (changes : List Change) → flat_map (group_keys table group) changes ≡ flat_map (keys_for layouts state form) (candidates_of layouts state changes form)
  groups_read [] = refl
  groups_read (change ∷ changes) =
      ap (λ keys. keys ++ flat_map (group_keys table group) changes) (groups_of (table == change.table) (rows_of_change change))
      ∙ ap (λ keys. flat_map (keys_for layouts state form) (candidates layouts state change form) ++ keys) (groups_read changes)
      ∙ sym (flat_map-append (keys_for layouts state form) (candidates layouts state change form) (candidates_of layouts state changes form))
