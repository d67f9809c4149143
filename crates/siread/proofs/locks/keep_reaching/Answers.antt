use Rattle.std.proofs.Common.{◌≡◌, [], not, refl, sym, ap, ◌∙◌}
use Rattle.std.proofs.lemmas.Bool.{not-false}
use Rattle.siread.specs.contracts.keys.FamilyOrd.TheImpl.{cmp-value as family_order}
use Rattle.siread.specs.Families.{ValueReaders, family_of, is_no_entry, reaching_each, readers_of, same_family, value_of}
use Rattle.siread.proofs.Entries.{distinct_by, kept_by}
use Rattle.siread.proofs.KeyOrder.{is_eq-family, same_family-true}
use Rattle.siread.proofs.Lookups.{no_entry_is_empty}
use Rattle.siread.proofs.locks.keep_reaching.Goals as goal

-- the closure keeps what it looks at from call to call
pub returns : goal.returns
returns c =
    let keep = reaching_each c.args.low c.args.reaches.now in
    let kept : (family : _) → _ = kept_by same_family same_family-true readers_of keep (λ i v. []) _
    (λ f. (f.0.now ≡ c.args.low) × (f.1.now ≡ c.args.reaches.now))
    (λ f k v b w f' i t.
    let said = t.called.met.1 in
    let left = sym t.leaves in (
      (λ goes.
          let some = said.1 ∙ ap (λ (readers : ValueReaders). not (is_no_entry readers)) (sym left) in
          ap readers_of (no_entry_is_empty w (not-false (is_no_entry w) (sym some ∙ goes)))),
      ap readers_of left ∙ said.0 ∙ (λ j. reaching_each (i.0 j) (i.1 j) (readers_of t.value.now))
          ∙ ap (λ readers. keep (readers_of readers)) t.shows.1,
      (ap (λ x. x.now) t.called.met.0.0 ∙ i.0, ap (λ x. x.now) t.called.met.0.1 ∙ i.1),
    ))
    _ _ _ (refl, refl) (distinct_by family_order.it same_family is_eq-family _ c.retain.ensures.was_ordered)
    c.retain.ensures.filtered in
    λ i key. kept (family_of key) i (value_of key)
