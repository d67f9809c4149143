use Rattle.std.proofs.Common.{◌≡◌, ◌∙◌, [], ap, refl, subst, sym}
use Rattle.std.specs.Prelude.{slice_set}
use Rattle.std.proofs.lemmas.List.{get_or_default}
use Rattle.value.specs.Ordered.{IsAscending}
use Rattle.value.specs.ValueOrder.{value_cmp}
use Rattle.table.specs.Rows.{value_in}
use Rattle.assertion.specs.Meaning.{State, rows_of}
use Rattle.delta.specs.Maintained.{IsStep}
use Rattle.delta.proofs.TableLemmas.{put_twice, step_set}
use Rattle.delta.proofs.versions.put_change.Goals as goal

pub with-requires-clause-ordered : goal.with-requires-clause-ordered
with-requires-clause-ordered c =
    let old : c.take_rows-old.result ≡ rows_of c.args.change.now.table c.args.tables.items = c.take_rows-old.ensures.taken ∙ get_or_default c.args.tables.items c.args.change.now.table c.take_rows-old.result [] c.requires.table_in in
    subst (IsAscending value_cmp (value_in c.args.key_column)) (sym old) c.requires.ordered

pub returns : goal.returns
returns c layouts column good is fits =
    let new = c.in_ok-made.field-0 in
    let once = ap (λ (xs : State). slice_set xs c.args.change.now.table new) c.take_rows-old.ensures.left ∙ put_twice c.args.tables.items c.args.change.now.table [] new in
    subst (IsStep layouts c.args.change.now c.args.tables.items) (sym once)
    (step_set layouts c.args.change.now c.args.tables.items is good fits c.args.tables.items new c.take_rows-old.result c.args.key_column refl c.in_ok-made.ensures.changed column c.take_rows-old.ensures.taken c.in_ok-made.ensures.short)
