use Rattle.std.proofs.Common.{◌≡◌, ℕ, ◌∙◌, ◌-◌, ◌++◌, ◌∷◌, [], ap, sym, subst, arith, take, length, List, Option, Some, slice_get}
use Rattle.std.proofs.lemmas.List.{length-append}
use Rattle.std.specs.Option.{option_copied}
use Rattle.value.specs.declared.values.Value.{Value}
use Rattle.value.specs.ValueOrder.{value_cmp}
use Rattle.value.specs.Ordered.{put}
use Rattle.pages.specs.Differences.{with_differences}
use Rattle.pages.specs.Reach.{key_of, entry_of, AreInOrder}
use Rattle.pages.proofs.Changes.{length_put}
use Rattle.pages.proofs.Merging.{last_with, order_front, split_last}
use Rattle.pages.proofs.differential.merge.Goals as goal

pub loop-last-preserved : goal.loop-last-preserved
loop-last-preserved g c =
    let ds : List (Value × Option g.row.V.Denot) = c.loop-last.differences.items in
    let d : Value × Option g.row.V.Denot = c.in-Some.last.now in
    let m : List (Value × g.row.V.Denot) = c.loop-last.main in
    let front : List (Value × Option g.row.V.Denot) = take (length ds - 1) ds in
    let found : slice_get ds (length ds - 1) ≡ Some d =
    ap (λ (es : List (Value × Option g.row.V.Denot)). slice_get es (length es - 1)) (sym c.deref.ensures.value) ∙ sym c.last.ensures.value ∙ ap option_copied c.in-Some.is in
    let split : ds ≡ front ++ d ∷ [] = split_last ds d found in
    let left : c.pop.new.self.items ≡ front =
    c.pop.ensures.rest ∙ ap (λ (n : ℕ). take (n - 1) ds) (sym c.deref.ensures.len ∙ ap length c.deref.ensures.value) in
    let changed : c.put.new.self ≡ put value_cmp key_of (key_of d) (entry_of (key_of d) d.1) m =
    c.in_ok-put.ensures.changed ∙ ap (λ (o : Option g.row.V.Denot). put value_cmp key_of (key_of d) (entry_of (key_of d) o) m) c.in_ok-value.ensures in
    record {
      same =
          ap (λ (es : List (Value × Option g.row.V.Denot)). with_differences es c.put.new.self) left ∙ ap (with_differences front) changed ∙ sym (last_with front d m)
          ∙ ap (λ (es : List (Value × Option g.row.V.Denot)). with_differences es m) (sym split) ∙ c.loop-last.invariant.same;
      page = record {
        most = omega (arith, c.loop-last.invariant.page.most, ap length left, ap length split, length-append front (d ∷ []));
        order = subst AreInOrder (sym left) (order_front front (d ∷ []) (subst AreInOrder split c.loop-last.invariant.page.order));
      };
      order = c.in_ok-put.ensures.order;
      short = omega (arith, c.loop-last.invariant.short, ap length left, ap length split, length-append front (d ∷ []), ap length changed, length_put (key_of d) (entry_of (key_of d) d.1) m);
    }
