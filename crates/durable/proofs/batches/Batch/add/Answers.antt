use Rattle.std.proofs.Common.{rules, ◌≡◌, ◌+◌, ◌<◌, ◌^◌, ◌++◌, ◌∷◌, ◌∙◌, ℕ, List, [], length, ap, arith, length-append, refl, subst}
use Rattle.journal.specs.declared.entries.Entry.{Entry}
use Rattle.journal.specs.Fitting.{FitsEntry}
use Rattle.journal.specs.Spelling.{lines}
use Rattle.durable.specs.declared.batches.Batch.{Batch}
use Rattle.durable.proofs.Waiting.{added}
use Rattle.durable.proofs.batches.Batch.add.Goals as goal

pub returns-clause-added : goal.returns-clause-added
returns-clause-added c =
    let old : Batch = c.args.self.now in
    let entry : ℕ → Entry = λ number. record { number = number; durable = old.durable; changes = c.args.changes.now } in
    let number_is : c.in-Some.number ≡ old.newest + 1 = search rules in
    let spelled : c.spell.new.line ≡ lines (entry c.in-Some.number ∷ []) = search rules in
    let fits : FitsEntry (entry c.in-Some.number) = search rules in
    let longer : c.add_lines.new.self ≡ old.lines ++ c.spell.new.line = search rules in
    let short : length old.lines < 2 ^ 60 = search rules in
    let short_line : length c.spell.new.line < 2 ^ 60 = search rules in
    added old (record { durable = old.durable; newest = c.in-Some.number; lines = c.add_lines.new.self; line = c.spell.new.line }) c.args.changes.now
    c.requires.waiting refl number_is
    (longer ∙ ap (λ (l : List ℕ). old.lines ++ l) (spelled ∙ ap (λ (n : ℕ). lines (entry n ∷ [])) number_is))
    (subst (λ (n : ℕ). FitsEntry (entry n)) number_is fits)
    (omega (arith, ap length longer, length-append old.lines c.spell.new.line, short, short_line))
