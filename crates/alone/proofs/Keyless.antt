-- A checked UPDATE gives the key no value.
use Rattle.std.proofs.Common.{◌≡◌, ℕ, suc, Bool, true, false, cond, List, [], ◌∷◌, ◌++◌, Option, Some, None, Ok, Err, refl, sym, ap, ◌∙◌, ◌+◌, subst, arith}
use Rattle.std.specs.Prelude.{◌==◌, ◌||◌, ◌&&◌, nat_eq, nat_lt, not, length, slice_index_or}
use Rattle.std.specs.List.{position_or_len}
use Rattle.std.specs.Map.{lookup}
use Rattle.std.specs.Cmp.Lexicographic.{pointwise}
use Rattle.std.specs.List.{list_all}
use Rattle.value.specs.declared.refusals.Refusal.TheVariants.{KeyUpdate, TypeMismatch, TooWide}
use Rattle.table.specs.Rows.{Layout, Tables, layouts_of, layout_of, position_of, names_of, key_of}
use Rattle.syntax.specs.declared.trees.Condition.{Condition}
use Rattle.syntax.specs.declared.statements.Assignment.{Assignment}
use Rattle.table.specs.Bounds.{is_bounded}
use Rattle.form_check.specs.Scopes.{Scope}
use Rattle.form_check.specs.Queries.{Source, source_named, source_of, row_filter}
use Rattle.assertcheck.specs.Types.{is_typed_condition}
use Rattle.assertcheck.specs.declared.updates.Setting.{Setting}
use Rattle.assertcheck.specs.declared.updates.Update.{Update}
use Rattle.value.specs.Results.{and_then, if_holds, unless}
use Rattle.value.proofs.Results.{and_then_ok, found_ok, ok_same, provided_ok, unless_ok}
use Rattle.assertcheck.specs.Conditions.{target_of}
use Rattle.assertcheck.specs.Statements.{new_place}
use Rattle.assertcheck.specs.Updates.{not_key, assignable, assigned_places, value_of, settings_of, names_fault, fits, is_bounded_setting, sound_update, update_over, update_of}
use Rattle.alone.specs.Statements.{sets_key}
use Rattle.alone.proofs.Lists.{Each, each_append}

abbrev AreNotKey : ℕ → List ℕ → Type 0
AreNotKey key columns = Each (λ column. (column == key) ≡ false) columns

no_key : (key : ℕ) (name : List ℕ) (column new : ℕ) → not_key key name column ≡ Ok new → (new == key) ≡ false
no_key key name column new h = go (column == key) refl h
  where
    go : (b : Bool) → (column == key) ≡ b → cond b (Err (KeyUpdate name)) (Ok column) ≡ Ok new → (new == key) ≡ false
    go true e h = let no : ⊥ = cc in absurd no
    go false e h = let is : column ≡ new = cc in subst (λ c. (c == key) ≡ false) is e

places_not_key : (layout : Layout) (before : List ℕ) (sets : List Assignment) (columns : List ℕ) → assigned_places layout before sets ≡ Ok columns → AreNotKey layout.key before → AreNotKey layout.key columns
places_not_key layout before [] columns h each = let is : before ≡ columns = cc in subst (AreNotKey layout.key) is each
places_not_key layout before (a ∷ rest) columns h each =
    let step = and_then_ok (assignable layout before a.column) (λ new. assigned_places layout (before ++ new ∷ []) rest) columns h in
    let own = and_then_ok (new_place layout.columns before a.column) (not_key layout.key a.column) step.0 step.1.0 in
    places_not_key layout (before ++ step.0 ∷ []) rest columns step.1.1 (each_append (λ column. (column == layout.key) ≡ false) before (step.0 ∷ []) each (no_key layout.key a.column own.0 step.0 own.1.1, tt))

settings_keyless : (scope : Scope) (key : ℕ) (columns : List ℕ) (sets : List Assignment) (settings : List Setting) → settings_of scope columns sets ≡ Ok settings → AreNotKey key columns → sets_key key settings ≡ false
settings_keyless scope key [] sets settings h each = let is : [] ≡ settings = cc in ap (sets_key key) (sym is)
settings_keyless scope key (column ∷ columns) [] settings h each = let is : [] ≡ settings = cc in ap (sets_key key) (sym is)
settings_keyless scope key (column ∷ columns) (a ∷ rest) settings h each =
    let value = and_then_ok (value_of scope a.value) (λ value. and_then (settings_of scope columns rest) (λ others. Ok (record { column = column; value = value } ∷ others))) settings h in
    let more = and_then_ok (settings_of scope columns rest) (λ others. Ok (record { column = column; value = value.0 } ∷ others)) settings value.1.1 in
    let is : record { column = column; value = value.0 } ∷ more.0 ≡ settings = ok_same _ _ more.1.1 in
    ap (sets_key key) (sym is) ∙ ap (λ b. b || sets_key key more.0) each.0 ∙ settings_keyless scope key columns rest more.0 more.1.0 each.1

-- the table that is found has the layout that is found
layout_there : (test : List ℕ → Bool) (tables : Tables) (l none : Layout) → lookup test tables ≡ Some l → slice_index_or (layouts_of tables) (position_or_len test (names_of tables)) none ≡ l
layout_there test [] l none h = let no : ⊥ = cc in absurd no
layout_there test (e ∷ rest) l none h = go (test e.0) refl h (λ more. layout_there test rest l none more)
  where
    go : (b : Bool) → test e.0 ≡ b → cond (test e.0) (Some e.1) (lookup test rest) ≡ Some l → (lookup test rest ≡ Some l → slice_index_or (layouts_of rest) (position_or_len test (names_of rest)) none ≡ l)
        → slice_index_or (e.1 ∷ layouts_of rest) (cond (not (test e.0)) (1 + position_or_len test (names_of rest)) 0) none ≡ l
    go true is h more =
        let first : Some e.1 ≡ Some l = sym (ap (λ b. cond b (Some e.1) (lookup test rest)) is) ∙ h in
        let same : e.1 ≡ l = cc in
        ap (λ b. slice_index_or (e.1 ∷ layouts_of rest) (cond (not b) (1 + position_or_len test (names_of rest)) 0) none) is ∙ same
    go false is h more =
        ap (λ b. slice_index_or (e.1 ∷ layouts_of rest) (cond (not b) (1 + position_or_len test (names_of rest)) 0) none) is
        ∙ (let one : 1 + position_or_len test (names_of rest) ≡ suc (position_or_len test (names_of rest)) = omega arith in ap (λ k. slice_index_or (e.1 ∷ layouts_of rest) k none) one)
        ∙ more (sym (ap (λ b. cond b (Some e.1) (lookup test rest)) is) ∙ h)

place_is : (b : Bool) (n t : ℕ) → cond b (Some n) None ≡ Some t → n ≡ t
place_is true n t h = cc
place_is false n t h = let no : ⊥ = cc in absurd no

some_source : (label : List ℕ) (p : Option ℕ) (l : Option Layout) (target : Source) → source_named label p l ≡ Some target → (p ≡ Some target.table) × (l ≡ Some target.scope.layout)
some_source label None l target h = let no : ⊥ = cc in absurd no
some_source label (Some t) None target h = let no : ⊥ = cc in absurd no
some_source label (Some t) (Some l) target h =
    let is : record { table = t; scope = record { exposed_name = label; layout = l } } ≡ target = cc in
    (ap (λ (s : Source). Some s.table) is, ap (λ (s : Source). Some s.scope.layout) is)

target_key : (tables : Tables) (name : List ℕ) (target : Source) → target_of tables name ≡ Ok target → target.scope.layout.key ≡ key_of target.table (layouts_of tables)
target_key tables name target h =
    let parts = some_source name (position_of name tables) (layout_of name tables) target (found_ok name (source_of tables name None) target h) in
    let place : position_or_len (pointwise nat_eq name) (names_of tables) ≡ target.table = place_is (nat_lt (position_or_len (pointwise nat_eq name) (names_of tables)) (length (names_of tables))) _ target.table parts.0 in
    let there = layout_there (pointwise nat_eq name) tables target.scope.layout (record { columns = []; key = 0 }) parts.1 in
    ap (λ (l : Layout). l.key) (sym there) ∙ ap (λ t. key_of t (layouts_of tables)) place

-- a checked UPDATE gives the key no value
pub checked_keyless : (tables : Tables) (name : List ℕ) (sets : List Assignment) (condition : Option Condition) (u : Update) → update_of tables name sets condition ≡ Ok u
    → sets_key (key_of u.table (layouts_of tables)) u.sets ≡ false
checked_keyless tables name sets condition u h =
    let target = and_then_ok (target_of tables name) (λ target. and_then (assigned_places target.scope.layout [] sets) (λ columns. unless (names_fault tables target.scope sets condition) (update_over target columns sets condition))) u h in
    let places = and_then_ok (assigned_places target.0.scope.layout [] sets) (λ columns. unless (names_fault tables target.0.scope sets condition) (update_over target.0 columns sets condition)) u target.1.1 in
    let over : update_over target.0 places.0 sets condition ≡ Ok u = unless_ok (names_fault tables target.0.scope sets condition) (update_over target.0 places.0 sets condition) u places.1.1 in
    let settings = and_then_ok (settings_of target.0.scope places.0 sets) (λ settings. and_then (row_filter target.0.scope condition) (λ restriction. sound_update target.0.scope.layout.columns (record { table = target.0.table; sets = settings; filter = restriction }))) u over in
    let restriction = and_then_ok (row_filter target.0.scope condition) (λ restriction. sound_update target.0.scope.layout.columns (record { table = target.0.table; sets = settings.0; filter = restriction })) u settings.1.1 in
    let made : Update = record { table = target.0.table; sets = settings.0; filter = restriction.0 } in
    let columns = target.0.scope.layout.columns in
    let inner : if_holds (list_all is_bounded_setting made.sets && is_bounded [] made.filter) TooWide (Ok made) ≡ Ok u = provided_ok (list_all (fits columns) made.sets && is_typed_condition columns [] made.filter) TypeMismatch (if_holds (list_all is_bounded_setting made.sets && is_bounded [] made.filter) TooWide (Ok made)) u restriction.1.1 in
    let is : made ≡ u = ok_same made u (provided_ok (list_all is_bounded_setting made.sets && is_bounded [] made.filter) TooWide (Ok made) u inner) in
    let keyless : sets_key target.0.scope.layout.key settings.0 ≡ false = settings_keyless target.0.scope target.0.scope.layout.key places.0 sets settings.0 settings.1.0 (places_not_key target.0.scope.layout [] sets places.0 places.1.0 tt) in
    subst (λ (x : Update). sets_key (key_of x.table (layouts_of tables)) x.sets ≡ false) is (ap (λ k. sets_key k settings.0) (sym (target_key tables name target.0 target.1.0)) ∙ keyless)
