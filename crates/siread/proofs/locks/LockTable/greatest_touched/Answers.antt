use Rattle.std.proofs.Common.{◌≡◌, ap, sym, subst, arith, ◌∷◌, []}
use Rattle.std.specs.List.{IsDistinct}
use Rattle.std.specs.Map.{keys_of}
use Rattle.siread.specs.contracts.keys.FamilyOrd.TheImpl.{cmp-value as family_order}
use Rattle.siread.specs.Families.{same_family}
use Rattle.siread.specs.Locks.{last_touched, readers_at, AreAscending, IsGreatestReader}
use Rattle.siread.specs.Readers.{last_reaching}
use Rattle.siread.proofs.Entries.{distinct_by}
use Rattle.siread.proofs.KeyOrder.{is_eq-family}
use Rattle.siread.proofs.Greatest.{greatest_touched}
use Rattle.siread.proofs.locks.LockTable.greatest_touched.Goals as goal

pub returns : goal.returns
returns c =
    let es = c.args.self.now in
    let change = c.args.change.now in
    let least = c.args.reach.now.least in
    let reaches = c.args.reach.now.reaches.now in
    let once : IsDistinct same_family (keys_of es)
    = subst (λ es. IsDistinct same_family (keys_of es)) c.self.view_is (distinct_by family_order.it same_family is_eq-family _ c.iter-family-items.ensures.ordered) in
    let none = ap (last_touched (last_reaching least reaches) change) c.in-None.ensures.steps.0 in
    let so_far = c.loop-family.invariant in
    let is : c.loop-family.greatest ≡ last_touched (last_reaching least reaches) change es
    = omega (arith, none, so_far) in
    subst (IsGreatestReader (readers_at es) (change ∷ []) least reaches) (sym is)
    (greatest_touched least reaches c.requires.no_further change es once
    (subst (λ es. AreAscending (readers_at es)) c.self.view_is c.self.invariant))
