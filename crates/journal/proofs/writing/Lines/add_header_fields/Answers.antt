use Rattle.journal.proofs.Headed.{fields_written}
use Rattle.journal.proofs.writing.Lines.add_header_fields.Goals as goal

pub returns : goal.returns
returns c =
    fields_written c.add_number-2.result c.args.header.now c.args.self.now c.put.new.self c.add_number.new.self c.add_number-2.new.self
    c.in_ok-put.ensures c.in_ok-add_number.ensures c.add_number-2.ensures
