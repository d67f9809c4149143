use Rattle.std.proofs.Common.{◌≡◌, ℕ, List, filter, not, refl, sym, ap, ◌∙◌}
use Rattle.value.specs.contracts.values.ValueOrd.TheImpl.{cmp-value as value_order}
use Rattle.std.proofs.lemmas.Bool.{not-false}
use Rattle.siread.specs.Keys.{same_value}
use Rattle.siread.specs.Families.{reaching_each, readers_of}
use Rattle.siread.specs.Readers.{is_none, reaches_above}
use Rattle.siread.proofs.Entries.{distinct_by, kept_by}
use Rattle.siread.proofs.KeyOrder.{is_eq-value, same_value-true}
use Rattle.siread.proofs.Lookups.{none_is_empty}
use Rattle.siread.proofs.by_value.ByValue.keep_reaching.Goals as goal

-- the closure keeps what it looks at from call to call
pub returns : goal.returns
returns c =
    let keep = filter (reaches_above c.args.low c.args.reaches.now) in
    let kept : (v : _) → _ = kept_by same_value same_value-true (λ (readers : List ℕ). readers) keep refl _
    (λ f. (f.0.now ≡ c.args.low) × (f.1.now ≡ c.args.reaches.now))
    (λ f k v b w f' i t.
    let said = t.called.met.1 in
    let left = sym t.leaves in (
      (λ goes.
          let some = said.1 ∙ ap (λ readers. not (is_none readers)) (sym left) in
          none_is_empty w (not-false (is_none w) (sym some ∙ goes))),
      left ∙ said.0 ∙ (λ j. filter (reaches_above (i.0 j) (i.1 j)) t.value.now) ∙ ap keep t.shows.1,
      (ap (λ x. x.now) t.called.met.0.0 ∙ i.0, ap (λ x. x.now) t.called.met.0.1 ∙ i.1),
    ))
    _ _ _ (refl, refl) (distinct_by value_order.it same_value is_eq-value _ c.retain.ensures.was_ordered)
    c.retain.ensures.filtered in
    (λ i v. kept v i)
    ∙ ap (λ es. reaching_each c.args.low c.args.reaches.now (readers_of es)) c.self.view_is
