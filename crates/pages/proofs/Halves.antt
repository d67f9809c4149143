-- A page or a list of nodes that is cut in two.
use Rattle.std.proofs.lemmas.List.{append-nil, take-append-drop, drop_more, length-drop}
use Rattle.std.proofs.Common.{◌≡◌, ℕ, ◌+◌, ◌<◌, List, [], ◌∷◌, ◌++◌, take, drop, length, refl, sym, ◌∙◌, ap, arith, slice_index_or, subst, map, Global}
use Rattle.std.specs.Arc.{arc_value}
use Rattle.std.specs.declared.sync.Arc.{Arc}
use Rattle.std.specs.Ordering.{is_gt}
use Rattle.std.proofs.lemmas.Cmp.{tied_itself}
use Rattle.value.specs.declared.values.Value.{Value}
use Rattle.value.specs.ValueOrder.{value_cmp}
use Rattle.value.specs.Ordered.{AreAbove}
use Rattle.value.proofs.ValueOrders.{value_cmp_total}
use Rattle.pages.specs.Reach.{key_of, reaches, AreInOrder}
use Rattle.pages.specs.Levels.{Tree}
use Rattle.pages.specs.Parts.{AreFrom, AreRising, Parted}
use Rattle.pages.specs.Shapes.{page_tree, IsPage, IsOver}
use Rattle.pages.specs.Cuts.{AreHalves}
use Rattle.pages.proofs.Orders.{before_equal, order_take, order_drop, length-take_le, long_take}

module _ {V : Type 0} where
  above_from : (k : Value) (xs : List (Value × V)) → AreAbove value_cmp key_of k xs → AreFrom k xs
  above_from k [] a = tt
  above_from k (x ∷ xs) a = (ap is_gt a.0, above_from k xs a.1)

  pub halves_page : (page front behind : List (Value × V)) (half : ℕ) (x : Value × V) (key : Value) → 0 < half → half < length page → x ≡ slice_index_or page half x → key ≡ x.0 → front ≡ take half page → behind ≡ drop half page
      → IsPage page → AreHalves (page_tree page) (page_tree front) key (page_tree behind)
  halves_page page front behind half x key n h e q f b s =
      let rest : drop half page ≡ x ∷ drop (half + 1) page = drop_more page half x h ∙ ap (λ z. z ∷ drop (half + 1) page) (sym e) in
      let whole : page ≡ take half page ++ x ∷ drop (half + 1) page = sym (take-append-drop half page) ∙ ap (λ es. take half page ++ es) rest in
      let order : AreInOrder (x ∷ drop (half + 1) page) = subst AreInOrder rest (order_drop half page s.order) in
      record {
        items = ap (λ es. es ++ behind) f ∙ ap (λ es. take half page ++ es) b ∙ take-append-drop half page;
        first_height = refl;
        second_height = refl;
        first_room = omega (arith, h, s.most, ap length f, length-take_le half page);
        second_room = omega (arith, n, h, s.most, ap length b, length-drop half page);
        first_some = omega (arith, n, ap length f, long_take half page (omega (arith, h)));
        second_some = omega (arith, ap length (b ∙ rest));
        below = ap (reaches key) f ∙ ap (λ k. reaches k (take half page)) q ∙ before_equal x.0 (take half page) x (drop (half + 1) page) (subst AreInOrder whole s.order) (tied_itself value_cmp_total x.0);
        from = subst (λ k. AreFrom k behind) (sym q) (subst (AreFrom x.0) (sym (b ∙ rest)) (ap is_gt (tied_itself value_cmp_total x.0), above_from x.0 (drop (half + 1) page) order.0));
      }

  -- the parts of a page
  pub page_front : (page part : List (Value × V)) (n : ℕ) → part ≡ take n page → n < length page → IsPage page → IsPage part
  page_front page part n e h s = record {
    most = omega (arith, h, s.most, ap length e, length-take_le n page);
    order = subst AreInOrder (sym e) (order_take n page s.order);
  }

  pub page_behind : (page part : List (Value × V)) (n : ℕ) → part ≡ drop n page → IsPage page → IsPage part
  page_behind page part n e s = record {
    most = omega (arith, s.most, ap length e, length-drop n page);
    order = subst AreInOrder (sym e) (order_drop n page s.order);
  }

  -- a node over one
  pub over_one : (seps : List Value) (nodes olds : List (Arc (Tree V) Global)) (x : Arc (Tree V) Global) (t : Tree V) (count : ℕ) → seps ≡ [] → olds ≡ [] → nodes ≡ olds ++ x ∷ [] → arc_value x ≡ t → count ≡ length t.1 → AreInOrder t.1
      → IsOver count seps (map arc_value nodes)
  over_one seps nodes olds x t count e o n f c s =
      let one : map arc_value nodes ≡ t ∷ [] = ap (map arc_value) (n ∙ ap (λ xs. xs ++ x ∷ []) o) ∙ ap (λ (u : Tree V). u ∷ []) f in
      subst (λ ts. IsOver count seps ts) (sym one) (record {
        count = c ∙ ap length (sym (append-nil t.1));
        below = record {
          most = omega arith;
          level = (omega arith, tt);
          order = subst AreInOrder (sym (append-nil t.1)) s;
          rising = subst AreRising (sym e) tt;
          parted = subst (λ ss. Parted ss (t ∷ [])) (sym e) tt;
        };
        filled = λ many. absurd (omega (arith, many));
      })
