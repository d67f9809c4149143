use Rattle.std.proofs.Common.{refl}
use Rattle.assertcheck.proofs.typed_forms.form_is_typed.Goals as goal

pub returns-in_ok-slots-in-ByGroup : goal.returns-in_ok-slots-in-ByGroup
returns-in_ok-slots-in-ByGroup c =
    rw (c.in-ByGroup.is, ← c.columns_of-columns-in-ByGroup.ensures, ← c.is_well_typed.ensures, c.if-not-is_well_typed.false)
    (rw (c.is_typed_over-in-ByGroup.ensures, c.group_columns.ensures, c.in_ok-slots-in-ByGroup.ensures, c.as_slice-in-ByGroup.ensures) refl)

pub returns-in_ok-slots-in-ByRow : goal.returns-in_ok-slots-in-ByRow
returns-in_ok-slots-in-ByRow c =
    rw (c.in-ByRow.is, ← c.columns_of-columns.ensures)
    (rw (c.is_typed_over.ensures, c.in_ok-slots-in-ByRow.ensures, c.as_slice-in-ByRow.ensures, c.as_slice.ensures, c.in_ok-types-in-ByRow.ensures) refl)
