use Rattle.std.proofs.Common.{◌≡◌, None, Option, sym, ap, ◌∙◌, rules}
use Rattle.std.specs.Prelude.{unwrap_or}
use Rattle.std.specs.BTreeMap.Entry.{map_with_value}
use Rattle.changes.specs.declared.touched.RowsThere.{RowsThere}
use Rattle.changes.specs.Nets.{Noted, noted_after, noted_at}
use Rattle.changes.proofs.Places.{change_put}
use Rattle.changes.proofs.touched.TouchedRows.note_one.Goals as goal

pub returns-clause-noted : goal.returns-clause-noted
returns-clause-noted c = λ place.
    let put = c.put_rows.new.rows in
    let fact : noted_at (map_with_value c.in_ok-self-inside.field-0 put).entries place ≡ noted_after c.args.change place (noted_at c.args.self.now place) =
    change_put c.self.inside.rows.entries (map_with_value c.in_ok-self-inside.field-0 put).entries c.args.change c.or_insert-rows.result.now put
    (sym (c.or_insert-rows.ensures.value ∙ ap (λ (o : Option (Option RowsThere)). unwrap_or o None) c.in_ok-self-inside.ensures.value))
    c.put_rows.ensures (c.in_ok-self-inside.ensures.update.0 put).0 place
    ∙ ap (λ (entries : Noted). noted_after c.args.change place (noted_at entries place)) c.self.view_is
    in
    search (rules, fact)
