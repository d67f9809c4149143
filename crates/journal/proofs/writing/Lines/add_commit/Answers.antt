use Rattle.std.proofs.Common.{ap, length, drop, arith, length-append, ◌≡◌, ◌+◌, ◌∙◌, ◌++◌, ◌∷◌, [], List, ℕ}
use Rattle.journal.specs.declared.entries.Entry.{Entry}
use Rattle.journal.specs.Spelling as spelling
use Rattle.journal.proofs.Fields.{commit_line}
use Rattle.journal.proofs.writing.Lines.add_commit.Goals as goal

pub add_sum-requires : goal.add_sum-requires
add_sum-requires c =
    let entry : Entry = record { number = c.args.number; durable = c.args.durable; changes = c.args.changes.now } in
    let longer : length c.add_body.new.self ≡ length c.put.new.self + length (spelling.body entry) = ap length c.in_ok-add_body.ensures ∙ length-append c.put.new.self (spelling.body entry) in
    omega (arith, longer, c.len-from.ensures)

pub returns : goal.returns
returns c =
    let entry : Entry = record { number = c.args.number; durable = c.args.durable; changes = c.args.changes.now } in
    let from_is = c.len-from.ensures in
    commit_line c.put.new.self (spelling.body entry) c.add_body.new.self c.add_sum.new.self c.put-2.new.self c.in_ok-add_body.ensures
    (c.in_ok-add_sum.ensures ∙ ap (λ (n : ℕ). c.add_body.new.self ++ spelling.number (spelling.sum (drop n c.add_body.new.self))) from_is)
    c.in_ok-put-2.ensures
    ∙ ap (λ (l : List ℕ). (l ++ (spelling.body entry ++ spelling.number (spelling.sum (spelling.body entry)))) ++ 10 ∷ []) c.in_ok-put.ensures
