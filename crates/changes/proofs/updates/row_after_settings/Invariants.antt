use Rattle.std.proofs.Common.{◌≡◌, drop}
use Rattle.table.specs.Rows.{FitsColumns}
use Rattle.alone.specs.Statements.{settings_fault, row_after_settings}
use Rattle.changes.proofs.updates.row_after_settings.Given as goal

-- what the assignments that are left make of the values so far, and whether one of those is at fault
abbrev pub invariant-loop-setting : goal.invariant-loop-setting
invariant-loop-setting l = record {
  fits : FitsColumns l.columns l.values.items;
  made : row_after_settings (drop l.setting-index l.sets) l.row l.values.items ≡ row_after_settings l.sets l.row l.row;
  fault : settings_fault l.columns l.sets l.row ≡ settings_fault l.columns (drop l.setting-index l.sets) l.row;
}
