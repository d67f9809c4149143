use Rattle.std.proofs.Common.{◌+◌, true, false, [], ◌∷◌, ◌++◌, length, reverse, ap, ◌∙◌, rules}
use Rattle.std.specs.Iterator.Adapters.{zip_first, zip_second}
use Rattle.std.specs.Slice.Iter.{iter_rest}
use Rattle.std.proofs.lemmas.List.{length_push}
use Rattle.conflict.specs.Candidates.{record_of}
use Rattle.conflict.proofs.Judging.{held_parts}
use Rattle.conflict.proofs.Walks.{IsTurn, zipped, tested, first_is_least, at_start, one_on}
use Rattle.conflict.proofs.dangers.find_pivot.Goals as goal

pub loop-pivot-init : goal.loop-pivot-init
loop-pivot-init c =
    at_start c.args.committed.now (record_of c.args.candidate.now) (held_parts c.args.committed.now c.args.candidate.now c.requires.log c.requires.next c.requires.after_snapshot)

pub returns-then-is_reader_of : goal.returns-then-is_reader_of
returns-then-is_reader_of c =
    let commits = c.args.committed.now in
    let plain = record_of c.args.candidate.now in
    let at = c.args.candidate.now.snapshot + length c.loop-pivot.yielded in
    let here : IsTurn commits at c.in-Some.pivot.now c.in-Some.place.now
    = zipped commits c.args.places.now c.args.candidate.now.snapshot c.requires.places c.loop-pivot.yielded c.into_iter-pivot-iterator.result c.loop-pivot.pivot-iterator c.next.new.self c.next.result
    (ap (λ s. iter_rest (zip_first s)) c.into_iter-pivot-iterator.ensures.into_iter_gives ∙ ap iter_rest c.zip-pivot-items.ensures.first ∙ c.iter.ensures.rest)
    (ap (λ s. iter_rest (zip_second s)) c.into_iter-pivot-iterator.ensures.into_iter_gives ∙ c.zip-pivot-items.ensures.second.0)
    c.loop-pivot.yielded_by (c.in-Some.pivot, c.in-Some.place) c.in-Some.is c.next.ensures.steps in
    record {
      found = first_is_least commits at c.in-Some.pivot.now plain c.requires.log here.within here.there c.loop-pivot.invariant
          (tested (reverse commits) plain c.in-Some.pivot.now c.in-Some.place.now c.is_reader_of.result true here.least c.is_reader_of.ensures c.if-is_reader_of.true);
      writer = here.least;
      none = search rules;
    }

pub loop-pivot-preserved : goal.loop-pivot-preserved
loop-pivot-preserved c =
    let commits = c.args.committed.now in
    let plain = record_of c.args.candidate.now in
    let n = length c.loop-pivot.yielded in
    let at = c.args.candidate.now.snapshot + n in
    let here : IsTurn commits at c.in-Some.pivot.now c.in-Some.place.now
    = zipped commits c.args.places.now c.args.candidate.now.snapshot c.requires.places c.loop-pivot.yielded c.into_iter-pivot-iterator.result c.loop-pivot.pivot-iterator c.next.new.self c.next.result
    (ap (λ s. iter_rest (zip_first s)) c.into_iter-pivot-iterator.ensures.into_iter_gives ∙ ap iter_rest c.zip-pivot-items.ensures.first ∙ c.iter.ensures.rest)
    (ap (λ s. iter_rest (zip_second s)) c.into_iter-pivot-iterator.ensures.into_iter_gives ∙ c.zip-pivot-items.ensures.second.0)
    c.loop-pivot.yielded_by (c.in-Some.pivot, c.in-Some.place) c.in-Some.is c.next.ensures.steps in
    one_on commits plain c.in-Some.pivot.now plain.snapshot n (length (c.loop-pivot.yielded ++ (c.in-Some.pivot, c.in-Some.place) ∷ []))
    (length_push c.loop-pivot.yielded (c.in-Some.pivot, c.in-Some.place)) here.within here.there c.loop-pivot.invariant
    (tested (reverse commits) plain c.in-Some.pivot.now c.in-Some.place.now c.is_reader_of.result false here.least c.is_reader_of.ensures c.if-is_reader_of.false)
