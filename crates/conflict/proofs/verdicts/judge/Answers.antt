use Rattle.std.proofs.Common.{subst, sym}
use Rattle.siread.specs.Readers.{ReachNoFurther}
use Rattle.conflict.proofs.Judging.{Asked, as_fine, as_pivot, as_reader, conflict_at, found, is_next}
use Rattle.conflict.proofs.Reading.{no_further}
use Rattle.conflict.proofs.verdicts.judge.Goals as goal

pub returns-in-Some : goal.returns-in-Some
returns-in-Some c = λ commit e.
    conflict_at c.args.committed.now c.args.candidate.now commit (record { log = c.requires.log; next = c.requires.next; after_snapshot = c.requires.after_snapshot; is = e })
    c.in-Some.row c.in-Some.by c.in-Some.ensures.found

pub returns-then-place-reader : goal.returns-then-place-reader
returns-then-place-reader c = λ commit e.
    let asked : Asked c.args.committed.now c.args.candidate.now commit
    = record { log = c.requires.log; next = c.requires.next; after_snapshot = c.requires.after_snapshot; is = e } in
    as_pivot c.args.committed.now c.args.candidate.now commit asked c.least_out-place.result c.greatest_in-reader.result
    (c.two_numbers_decide.ensures _ commit (is_next c.args.committed.now c.args.candidate.now commit asked)) c.in_default.ensures.none
    (found c.args.committed.now c.args.candidate.now commit asked _ _ c.least_out-place.ensures
    (λ next. c.greatest_in-reader.ensures c.args.committed.now next c.requires.readers c.requires.reaches)) c.if-place-reader.true

pub returns-in-None : goal.returns-in-None
returns-in-None c = λ commit e.
    let asked : Asked c.args.committed.now c.args.candidate.now commit
    = record { log = c.requires.log; next = c.requires.next; after_snapshot = c.requires.after_snapshot; is = e } in
    as_fine c.args.committed.now c.args.candidate.now commit asked c.least_out-place.result c.greatest_in-reader.result
    (c.two_numbers_decide.ensures _ commit (is_next c.args.committed.now c.args.candidate.now commit asked)) c.in_default.ensures.none
    (found c.args.committed.now c.args.candidate.now commit asked _ _ c.least_out-place.ensures
    (λ next. c.greatest_in-reader.ensures c.args.committed.now next c.requires.readers c.requires.reaches)) c.if-place-reader.false c.in-None.ensures.none

pub returns-in-Some-find_pivot : goal.returns-in-Some-find_pivot
returns-in-Some-find_pivot c = λ commit e.
    let asked : Asked c.args.committed.now c.args.candidate.now commit
    = record { log = c.requires.log; next = c.requires.next; after_snapshot = c.requires.after_snapshot; is = e } in
    as_reader c.args.committed.now c.args.candidate.now commit asked c.least_out-place.result c.greatest_in-reader.result
    (c.two_numbers_decide.ensures _ commit (is_next c.args.committed.now c.args.candidate.now commit asked)) c.in_default.ensures.none
    (found c.args.committed.now c.args.candidate.now commit asked _ _ c.least_out-place.ensures
    (λ next. c.greatest_in-reader.ensures c.args.committed.now next c.requires.readers c.requires.reaches)) c.if-place-reader.false
    c.in-Some-find_pivot.pivot.now c.in-Some-find_pivot.writer c.in-Some-find_pivot.ensures.found c.in-Some-find_pivot.ensures.writer

pub greatest_in-reader-requires-clause-no_further : goal.greatest_in-reader-requires-clause-no_further
greatest_in-reader-requires-clause-no_further c =
    subst ReachNoFurther (sym c.requires.reaches) (no_further c.args.committed.now c.requires.log)
