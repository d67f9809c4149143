use Rattle.std.proofs.Common.{◌≡◌, ◌+◌, true, false, [], ◌∷◌, ◌++◌, length, sym, ap, ◌∙◌, arith}
use Rattle.std.specs.Iterator.Adapters.{zip_first, zip_second}
use Rattle.std.specs.Slice.Iter.{iter_rest}
use Rattle.std.proofs.lemmas.List.{length_push}
use Rattle.conflict.proofs.Safety.{IsHarmless, held_harmless, not_safe, one_harmless}
use Rattle.conflict.proofs.Walks.{IsTurn, zipped}
use Rattle.conflict.proofs.snapshots.is_safe.Goals as goal
use Rattle.conflict.proofs.snapshots.is_safe.Goals.{else-not-commit-via-then-not-commit+else-place-snapshot, else-not-commit-via-else-not-commit}

pub loop-commit-init : goal.loop-commit-init
loop-commit-init c = held_harmless c.args.committed.now c.args.snapshot c.requires.log c.requires.within

pub returns-then-place-snapshot : goal.returns-then-place-snapshot
returns-then-place-snapshot c =
    let commits = c.args.committed.now in
    let here : IsTurn commits (c.args.snapshot + length c.loop-commit.yielded) c.in-Some.commit.now c.in-Some.place.now
    = zipped commits c.args.places.now c.args.snapshot c.requires.places c.loop-commit.yielded c.into_iter-commit-iterator.result c.loop-commit.commit-iterator c.next.new.self c.next.result
    (ap (λ s. iter_rest (zip_first s)) c.into_iter-commit-iterator.ensures.into_iter_gives ∙ ap iter_rest c.zip-commit-items.ensures.first ∙ c.iter.ensures.rest)
    (ap (λ s. iter_rest (zip_second s)) c.into_iter-commit-iterator.ensures.into_iter_gives ∙ c.zip-commit-items.ensures.second.0)
    c.loop-commit.yielded_by (c.in-Some.commit, c.in-Some.place) c.in-Some.is c.next.ensures.steps in (
      λ no. let never : ⊥ = cc in absurd never,
      λ safe. absurd (not_safe commits c.args.snapshot (length c.loop-commit.yielded) c.in-Some.commit.now c.in-Some.place.now c.requires.log c.requires.within here
          c.if-not-commit.true c.if-place-snapshot.true safe),
    )

pub loop-commit-preserved : goal.loop-commit-preserved
loop-commit-preserved c =
    let commits = c.args.committed.now in
    let n = length c.loop-commit.yielded in
    let here : IsTurn commits (c.args.snapshot + n) c.in-Some.commit.now c.in-Some.place.now
    = zipped commits c.args.places.now c.args.snapshot c.requires.places c.loop-commit.yielded c.into_iter-commit-iterator.result c.loop-commit.commit-iterator c.next.new.self c.next.result
    (ap (λ s. iter_rest (zip_first s)) c.into_iter-commit-iterator.ensures.into_iter_gives ∙ ap iter_rest c.zip-commit-items.ensures.first ∙ c.iter.ensures.rest)
    (ap (λ s. iter_rest (zip_second s)) c.into_iter-commit-iterator.ensures.into_iter_gives ∙ c.zip-commit-items.ensures.second.0)
    c.loop-commit.yielded_by (c.in-Some.commit, c.in-Some.place) c.in-Some.is c.next.ensures.steps in
    let harmless : IsHarmless commits c.args.snapshot c.in-Some.commit.now = elim c.else-not-commit.branch [
      | else-not-commit-via-then-not-commit+else-place-snapshot w ↦ λ writes past. omega (arith, w.if-place-snapshot.false, here.least)
      | else-not-commit-via-else-not-commit w ↦ λ writes past. let no : true ≡ false = sym w.if-not-commit.false ∙ writes in let never : ⊥ = cc in absurd never
    ] in
    one_harmless commits c.args.snapshot n (length (c.loop-commit.yielded ++ (c.in-Some.commit, c.in-Some.place) ∷ [])) c.in-Some.commit.now
    (length_push c.loop-commit.yielded (c.in-Some.commit, c.in-Some.place)) here.within here.there c.loop-commit.invariant harmless
