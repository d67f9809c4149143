use Rattle.std.proofs.Common.{◌≡◌, List, [], ◌∷◌, length, map, refl, sym, ap, ◌∙◌, subst, arith}
use Rattle.std.specs.Prelude.{Contains}
use Rattle.table.specs.declared.rows.Change.{Change}
use Rattle.siread.specs.Keys.{place_of}
use Rattle.siread.proofs.Members.{in_head, in_tail}
use Rattle.changes.specs.Nets.{noted_at}
use Rattle.changes.proofs.Places.{noted_after_all, noted_put}
use Rattle.changes.proofs.touched.TouchedRows.put.Goals as goal

pub loop-change-init : goal.loop-change-init
loop-change-init c = (
  λ place. ap (λ (changes : List Change). noted_after_all changes place (noted_at c.args.self.now place)) c.into_iter-change-iterator.ensures.into_iter_gives.0,
  λ place m. c.requires.room place (subst (λ (changes : List Change). Contains (map place_of changes) place) c.into_iter-change-iterator.ensures.into_iter_gives.0 m),
)

pub put_one-requires : goal.put_one-requires
put_one-requires c = record {
  room = c.loop-change.invariant.1 (place_of c.in-Some.change)
      (subst (λ (changes : List Change). Contains (map place_of changes) (place_of c.in-Some.change)) (sym c.in-Some.ensures.steps.0) (in_head (place_of c.in-Some.change) (map place_of c.next.new.self.rest.items)));
}

pub loop-change-preserved : goal.loop-change-preserved
loop-change-preserved c = (
  λ place.
      ap (noted_after_all c.next.new.self.rest.items place) (c.put_one.ensures.noted place)
      ∙ ap (λ (changes : List Change). noted_after_all changes place (noted_at c.loop-change.self place)) (sym c.in-Some.ensures.steps.0)
      ∙ c.loop-change.invariant.0 place,
  λ place m. c.put_one.ensures.kept place
      (c.loop-change.invariant.1 place
      (subst (λ (changes : List Change). Contains (map place_of changes) place) (sym c.in-Some.ensures.steps.0) (in_tail (place_of c.in-Some.change) (map place_of c.next.new.self.rest.items) place m))),
)

-- a list of no length
none : (changes : List Change) → length changes ≡ 0 → [] ≡ changes
none [] e = refl
none (change ∷ changes) e = absurd (omega (arith, e))

pub returns : goal.returns
returns c = λ layouts start before after noted between.
    noted_put layouts start before after c.args.self.now c.loop-change.self c.args.changes.items noted between
    (λ place.
    ap (λ (changes : List Change). noted_after_all changes place (noted_at c.loop-change.self place))
    (none c.loop-change.change-iterator.rest.items (sym c.loop-change.change-iterator.rest.ok.0 ∙ c.in-None.ensures.steps.0))
    ∙ c.loop-change.invariant.0 place)
