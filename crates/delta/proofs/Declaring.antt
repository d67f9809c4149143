-- What is declared with an assertion more or less.
use Rattle.std.proofs.Common.{◌≡◌, ℕ, ◌+◌, ◌<◌, zero, suc, Bool, true, false, List, [], ◌∷◌, ◌++◌, Some, None, length, get_or, take, drop, filter, nat_eq, cond, sym, ◌∙◌, ap, subst, length-append, append-nil}
use Rattle.std.specs.Prelude.{slice_get}
use Rattle.std.specs.List.{IsDistinct}
use Rattle.std.specs.Cmp.Lexicographic.{pointwise, nat_list_eq_equiv}
use Rattle.std.proofs.lemmas.List.{get_or_append_left}
use Rattle.std.proofs.lemmas.List.Elements.{All-filter, filter_more}
use Rattle.std.proofs.Math.Seq.{get_or-append_seam}
use Rattle.indexmap.proofs.MapLemmas.{absent_before}
use Rattle.table.specs.Rows.{Layout, Tables, layout_of, layouts_of, names_of}
use Rattle.assertion.specs.declared.assertions.Assertion.{Assertion}
use Rattle.assertion.specs.Bounded.{IsBounded}
use Rattle.assertion.specs.Meaning.{State}
use Rattle.delta.specs.declared.watches.Watch.{Watch}
use Rattle.delta.specs.Maintained.{IsWatched, AreWatched}
use Rattle.delta.specs.Views.{AreBounded}
use Rattle.delta.proofs.WatchLemmas.{AreWatched-more}

-- a list around an item
around : {X : Type 0} (xs : List X) (i : ℕ) (x : X) → slice_get xs i ≡ Some x → xs ≡ take i xs ++ x ∷ drop (suc i) xs
around [] i x e = cc
around (y ∷ ys) zero x e = let same : y ≡ x = cc in ap (λ z. z ∷ ys) same
around (y ∷ ys) (suc i) x e = ap (λ zs. y ∷ zs) (around ys i x e)

-- a table is found by its name and its columns
pub table_at : (tables : Tables) (i : ℕ) (name : List ℕ) (layout : Layout) → Some name ≡ slice_get (names_of tables) i → Some layout ≡ slice_get (layouts_of tables) i → Some (name, layout) ≡ slice_get tables i
table_at [] i name layout n l = cc
table_at ((m, k) ∷ ts) zero name layout n l = cc
table_at (t ∷ ts) (suc i) name layout n l = table_at ts i name layout n l

-- a table's name is not among those before it
pub new_name : (tables : Tables) (i : ℕ) (name : List ℕ) (layout : Layout) → Some (name, layout) ≡ slice_get tables i → IsDistinct (pointwise nat_eq) (names_of tables) → layout_of name (take i tables) ≡ None
new_name tables i name layout at distinct =
    absent_before nat_list_eq_equiv (take i tables) (drop (suc i) tables) (name, layout)
    (subst (λ (ts : Tables). IsDistinct (pointwise nat_eq) (names_of ts)) (around tables i (name, layout) (sym at)) distinct)

-- the watches of some assertions are also those of the first of more
among_more : (layouts : List Layout) (state : State) (assertions more : List Assertion) (ws : List Watch) → AreWatched layouts state assertions (length assertions) ws → AreWatched layouts state (assertions ++ more) (length assertions) ws
among_more layouts state assertions more ws k = record {
  long = k.long;
  right = λ i less a w. subst (λ (x : Assertion). IsWatched layouts state x.form (get_or ws i w)) (sym (get_or_append_left assertions more a i less)) (k.right i less a w);
}

-- an assertion more, and its watch
pub watched_more : (layouts : List Layout) (state : State) (assertions : List Assertion) (a : Assertion) (ws more : List Watch) (w : Watch) → more ≡ ws ++ w ∷ [] → IsWatched layouts state a.form w → AreWatched layouts state assertions (length assertions) ws
    → AreWatched layouts state (assertions ++ a ∷ []) (length (assertions ++ a ∷ [])) more
watched_more layouts state assertions a ws more w e t k =
    let all : List Assertion = assertions ++ a ∷ [] in
    let here : (d : Assertion) → IsWatched layouts state (get_or all (length assertions) d).form w = λ d. subst (λ (x : Assertion). IsWatched layouts state x.form w) (sym (get_or-append_seam assertions a [] d)) t in
    subst (λ n. AreWatched layouts state all n more) (sym (length-append assertions (a ∷ [])))
    (AreWatched-more layouts state all (length assertions) ws more w e here (among_more layouts state assertions (a ∷ []) ws k))

-- one item more is looked at, which stays or goes
looked_at : {X : Type 0} (keep : X → Bool) (xs : List X) (i : ℕ) (x : X) (b : Bool) → i < length xs → x ≡ get_or xs i x → keep x ≡ b → filter keep (take (i + 1) xs) ≡ filter keep (take i xs) ++ cond b (x ∷ []) []
looked_at {X} keep xs i x b less is k =
    filter_more keep xs i x less ∙ ap (λ (y : X). filter keep (take i xs) ++ cond (keep y) (y ∷ []) []) (sym is) ∙ ap (λ (b : Bool). filter keep (take i xs) ++ cond b (x ∷ []) []) k

pub stays : {X : Type 0} (keep : X → Bool) (xs : List X) (i : ℕ) (x : X) → i < length xs → x ≡ get_or xs i x → keep x ≡ true → filter keep (take (i + 1) xs) ≡ filter keep (take i xs) ++ x ∷ []
stays keep xs i x less is k = looked_at keep xs i x true less is k

pub goes : {X : Type 0} (keep : X → Bool) (xs : List X) (i : ℕ) (x : X) → i < length xs → x ≡ get_or xs i x → keep x ≡ false → filter keep (take (i + 1) xs) ≡ filter keep (take i xs)
goes keep xs i x less is k = looked_at keep xs i x false less is k ∙ append-nil (filter keep (take i xs))

-- those that are left are evaluated without overflow too
pub bounded_left : (keep : Assertion → Bool) (assertions : List Assertion) → AreBounded assertions → AreBounded (filter keep assertions)
bounded_left keep assertions bounded = All-filter keep (λ (a : Assertion). IsBounded a.form) assertions bounded
