use Rattle.changes.proofs.Places.{noted_room}
use Rattle.changes.proofs.touched.TouchedRows.note.Goals as goal

pub returns-clause-noted : goal.returns-clause-noted
returns-clause-noted c = λ layouts start before after noted between.
    c.put.ensures layouts start before after (noted_room layouts start before c.args.self.now c.make_room.new.self c.make_room.ensures.same noted) between
