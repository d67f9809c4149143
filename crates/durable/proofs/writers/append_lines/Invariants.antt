use Rattle.std.proofs.Common.{[]}
use Rattle.durable.specs.Batches.{entries_behind}
use Rattle.durable.specs.Promise.{entries_in}
use Rattle.durable.proofs.writers.append_lines.Given as goal

abbrev pub ghost-put_room : goal.ghost-put_room
ghost-put_room g a = record { first = a._first; entries = entries_in a._first (g.D.Device.seen a.journal.now.device); batch = [] }

abbrev pub ghost-put_lines : goal.ghost-put_lines
ghost-put_lines g a = record {
  first = a._first;
  entries = entries_in a._first (g.D.Device.seen a.journal.now.device);
  batch = entries_behind a._durable a.lines.now;
}
