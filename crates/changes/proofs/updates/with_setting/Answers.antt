use Rattle.std.proofs.Common.{◌∙◌, ap, sym, subst}
use Rattle.std.proofs.lemmas.Option.{slice_get_past}
use Rattle.table.specs.Rows.{FitsColumn, FitsColumns}
use Rattle.alone.specs.Statements.{given_fault, given_value}
use Rattle.changes.proofs.Fitting.{there, in_row, faultless_fits, fits_set, set_nothing}
use Rattle.changes.proofs.updates.with_setting.Goals as goal

pub with_value-requires : goal.with_value-requires
with_value-requires c =
    in_row c.args.columns.now c.args.values.items c.args.setting.now.column c.in-Some.column.now (there c.args.columns.now c.args.setting.now.column c.in-Some.column.now c.in-Some.ensures.lookup.3.0 c.in-Some.ensures.lookup.3.1) c.requires.fits

pub returns-in_ok-value-in-Some-clause-faultless : goal.returns-in_ok-value-in-Some-clause-faultless
returns-in_ok-value-in-Some-clause-faultless c =
    ap (λ o. given_fault o (given_value c.args.old.now c.args.setting.now.value)) (there c.args.columns.now c.args.setting.now.column c.in-Some.column.now c.in-Some.ensures.lookup.3.0 c.in-Some.ensures.lookup.3.1)
    ∙ c.in_ok-value-in-Some.ensures.faultless

pub returns-in_ok-value-in-Some-clause-fits : goal.returns-in_ok-value-in-Some-clause-fits
returns-in_ok-value-in-Some-clause-fits c =
    let fits : FitsColumn c.in-Some.column.now c.in_ok-value-in-Some.value = subst (FitsColumn c.in-Some.column.now) (sym c.in_ok-value-in-Some.ensures.made) (faultless_fits c.in-Some.column.now (given_value c.args.old.now c.args.setting.now.value) c.in_ok-value-in-Some.ensures.faultless) in
    subst (FitsColumns c.args.columns.now) (sym c.with_value.ensures)
    (fits_set c.args.columns.now c.args.values.items c.args.setting.now.column c.in-Some.column.now c.in_ok-value-in-Some.value (there c.args.columns.now c.args.setting.now.column c.in-Some.column.now c.in-Some.ensures.lookup.3.0 c.in-Some.ensures.lookup.3.1) fits c.requires.fits)

pub returns-in-None-clause-made : goal.returns-in-None-clause-made
returns-in-None-clause-made c =
    sym (set_nothing c.args.columns.now c.args.values.items c.args.setting.now.column (given_value c.args.old.now c.args.setting.now.value) (slice_get_past c.args.columns.now c.args.setting.now.column c.in-None.ensures.lookup.3) c.requires.fits)

pub returns-in-None-clause-faultless : goal.returns-in-None-clause-faultless
returns-in-None-clause-faultless c =
    ap (λ o. given_fault o (given_value c.args.old.now c.args.setting.now.value)) (slice_get_past c.args.columns.now c.args.setting.now.column c.in-None.ensures.lookup.3)
