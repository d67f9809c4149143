use Rattle.table.proofs.SmallRows.{IsSmallRow-fits}
use Rattle.changes.proofs.updates.row_after_settings.Goals as goal

pub with_setting-requires-clause-small : goal.with_setting-requires-clause-small
with_setting-requires-clause-small c = IsSmallRow-fits c.args.columns.now c.args.row.now c.requires.fits
