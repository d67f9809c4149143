use Rattle.std.proofs.Common.{◌≡◌, ◌∙◌, ap, sym, arith, length}
use Rattle.mvrows.proofs.KeyedRows.{length-rows_of}
use Rattle.mvrows.proofs.rows.Rows.len.Goals as goal

pub returns : goal.returns
returns c =
    let same : length c.self.inside.pages ≡ length c.args.self.now = sym (length-rows_of c.self.inside.pages) ∙ ap length c.self.view_is in
    record { count = c.len.ensures.count ∙ same; short = omega (arith, same, c.len.ensures.short) }
