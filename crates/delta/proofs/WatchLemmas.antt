-- What is maintained is right one by one.
use Rattle.std.proofs.Common.{◌≡◌, ℕ, zero, suc, ◌+◌, ◌<◌, false, Global, List, [], ◌∷◌, ◌++◌, map, length, get_or, set, refl, sym, ◌∙◌, ap, subst, length-append}
use Rattle.std.proofs.lemmas.List.{get_or_default, length-map, length-set, map-append}
use Rattle.std.proofs.Math.ListN.{get_or-map}
use Rattle.std.specs.Arc.{arc_value}
use Rattle.std.specs.declared.sync.Arc.{Arc}
use Rattle.value.proofs.Lists.{each_more}
use Rattle.table.specs.Rows.{Layout}
use Rattle.assertion.specs.declared.assertions.Assertion.{Assertion}
use Rattle.assertion.specs.declared.forms.Form.{Form}
use Rattle.assertion.specs.Meaning.{State}
use Rattle.assertion.specs.Changes.{IsOrdered, state_after}
use Rattle.table.specs.declared.rows.Change.{Change}
use Rattle.roots.specs.Maintained.{AreMaintained, IsStepOf}
use Rattle.assertion.specs.Roots.{AreBad}
use Rattle.roots.specs.Over.{is_over}
use Rattle.roots.proofs.ElsewhereLemmas.{maintained-elsewhere, bad-elsewhere, verdict-elsewhere}
use Rattle.delta.proofs.TableLemmas.{good_order, good_small, new_small, old_small}
use Rattle.delta.specs.declared.watches.Watch.{Watch}
use Rattle.delta.specs.Maintained.{AreAlike, AreAllAlike, AreWatched, IsStep, IsWatched}

-- one more watch
pub AreWatched-more : (layouts : List Layout) (state : State) (forms : List Assertion) (n : ℕ) (ws more : List Watch) (w : Watch) → more ≡ ws ++ w ∷ [] → ((a : Assertion) → IsWatched layouts state (get_or forms n a).form w) → AreWatched layouts state forms n ws → AreWatched layouts state forms (n + 1) more
AreWatched-more layouts state forms n ws more w e t k = record {
  long = ap length e ∙ length-append ws (w ∷ []) ∙ ap (λ m. m + 1) k.long;
  right = each_more (λ (a : Assertion) (w : Watch). IsWatched layouts state a.form w) forms n ws more w e k.long t k.right;
}

-- what is right for the assertion at a place is so whatever would stand past the end
pub watched_past : (layouts : List Layout) (state : State) (forms : List Assertion) (n : ℕ) (a : Assertion) (w : Watch) → n < length forms → IsWatched layouts state (get_or forms n a).form w → (d : Assertion) → IsWatched layouts state (get_or forms n d).form w
watched_past layouts state forms n a w h k d = subst (λ (s : Assertion). IsWatched layouts state s.form w) (get_or_default forms n a d h) k

-- the watch at a place of a list of right ones, for the assertion at that place
pub watched_for : (layouts : List Layout) (state : State) (forms : List Assertion) (n : ℕ) (ws : List Watch) (i : ℕ) (w : Watch) → AreWatched layouts state forms n ws → i < n → w ≡ get_or ws i w → (d : Assertion) → IsWatched layouts state (get_or forms i d).form w
watched_for layouts state forms n ws i w k h f d = subst (λ (x : Watch). IsWatched layouts state (get_or forms i d).form x) (sym f) (k.right i h d w)

-- the watch at a place where watches are shared
pub shared_at : (ws : List (Arc Watch Global)) (i : ℕ) (w : Arc Watch Global) → w ≡ get_or ws i w → arc_value w ≡ get_or (map arc_value ws) i (arc_value w)
shared_at ws i w e = ap arc_value e ∙ sym (get_or-map arc_value ws i w)

pub watched_here : (layouts : List Layout) (state : State) (forms : List Assertion) (n : ℕ) (ws : List (Arc Watch Global)) (i : ℕ) (x : Arc Watch Global) (w : Watch) → AreWatched layouts state forms n (map arc_value ws) → i < n → x ≡ get_or ws i x → w ≡ arc_value x
    → (d : Assertion) → IsWatched layouts state (get_or forms i d).form w
watched_here layouts state forms n ws i x w k h e f d = subst (λ (v : Watch). IsWatched layouts state (get_or forms i d).form v) (sym f) (watched_for layouts state forms n (map arc_value ws) i (arc_value x) k h (shared_at ws i x e) d)

-- one more of them
pub shared_more : (ws more : List (Arc Watch Global)) (w : Arc Watch Global) → more ≡ ws ++ w ∷ [] → map arc_value more ≡ map arc_value ws ++ arc_value w ∷ []
shared_more ws more w e = ap (map arc_value) e ∙ map-append arc_value ws (w ∷ [])

-- a watch stays right through a change of a table that its assertion isn't over
pub watched-elsewhere : (layouts : List Layout) (form : Form) (change : Change) (was after : State) (w : Watch) → IsStep layouts change was after → IsWatched layouts was form w → is_over change.table form ≡ false → IsWatched layouts after form w
watched-elsewhere layouts form change was after w step watched h =
    let before : IsOrdered layouts was = good_order layouts was step.good in
    let now : IsOrdered layouts (state_after layouts change was) = subst (IsOrdered layouts) step.changed (good_order layouts after step.good_after) in
    subst (λ (s : State). IsWatched layouts s form w) (sym step.changed) (record {
      totals = maintained-elsewhere layouts change was step.is form w.totals.items h watched.totals;
      bad = bad-elsewhere layouts change was step.is form w.bad before h watched.bad;
      truth = watched.truth ∙ verdict-elsewhere layouts change was step.is form w.bad before now h watched.bad;
    })

-- a step of tables is one within bounds and in key order
pub step_within : (layouts : List Layout) (change : Change) (before after : State) → IsStep layouts change before after → IsStepOf layouts change before after
step_within layouts change before after step = record {
  in_order = good_order layouts before step.good;
  is = step.is;
  changed = step.changed;
  small = good_small layouts before step.good;
  small_after = good_small layouts after step.good_after;
  old_small = old_small layouts change before step.is step.good;
  new_small = new_small layouts change step.fits;
}

alike_itself : (w : Watch) → AreAlike w w
alike_itself w = record { totals = refl; bad = refl; truth = refl }

alike_through : (u v w : Watch) → AreAlike u v → AreAlike v w → AreAlike u w
alike_through u v w a b = record { totals = a.totals ∙ b.totals; bad = a.bad ∙ b.bad; truth = a.truth ∙ b.truth }

-- lists are alike to themselves, and where one watch is put for another that is alike
pub all_themselves : (ws : List Watch) → AreAllAlike ws ws
all_themselves ws = record { long = refl; each = λ i w. alike_itself (get_or ws i w) }

each_set : (ws : List (Arc Watch Global)) (r : ℕ) (x y : Arc Watch Global) → x ≡ get_or ws r x → AreAlike (arc_value y) (arc_value x) → (i : ℕ) (w : Watch)
    → AreAlike (get_or (map arc_value (set ws r y)) i w) (get_or (map arc_value ws) i w)
each_set [] r x y e a i w = alike_itself (get_or [] i w)
each_set (z ∷ ws) zero x y e a zero w = subst (λ (v : Arc Watch Global). AreAlike (arc_value y) (arc_value v)) e a
each_set (z ∷ ws) zero x y e a (suc i) w = alike_itself (get_or (map arc_value ws) i w)
each_set (z ∷ ws) (suc r) x y e a zero w = alike_itself (arc_value z)
each_set (z ∷ ws) (suc r) x y e a (suc i) w = each_set ws r x y e a i w

pub all_set : (ws : List (Arc Watch Global)) (us : List Watch) (r : ℕ) (x y : Arc Watch Global) → x ≡ get_or ws r x → AreAlike (arc_value y) (arc_value x) → AreAllAlike (map arc_value ws) us
    → AreAllAlike (map arc_value (set ws r y)) us
all_set ws us r x y e a all = record {
  long = length-map (set ws r y) arc_value ∙ length-set ws r y ∙ sym (length-map ws arc_value) ∙ all.long;
  each = λ i w. alike_through (get_or (map arc_value (set ws r y)) i w) (get_or (map arc_value ws) i w) (get_or us i w) (each_set ws r x y e a i w) (all.each i w);
}

-- what is alike is right where the other is
pub watched_alike : (layouts : List Layout) (state : State) (forms : List Assertion) (n : ℕ) (vs ws : List Watch) → AreAllAlike vs ws → AreWatched layouts state forms n ws → AreWatched layouts state forms n vs
watched_alike layouts state forms n vs ws all k = record {
  long = all.long ∙ k.long;
  right = λ i h a w. one (get_or forms i a).form (get_or vs i w) (get_or ws i w) (all.each i w) (k.right i h a w);
}
  where
    one : (form : Form) (v w : Watch) → AreAlike v w → IsWatched layouts state form w → IsWatched layouts state form v
    one form v w a r = record {
      totals = subst (AreMaintained layouts state form) (sym a.totals) r.totals;
      bad = subst (AreBad layouts form state) (sym a.bad) r.bad;
      truth = a.truth ∙ r.truth;
    }
