use Rattle.std.proofs.Common.{◌≡◌, Option, Some, None, refl, sym, ap, ◌∙◌, subst}
use Rattle.std.specs.Prelude.{IsSome, unwrap_or}
use Rattle.siread.specs.Keys.{place_of}
use Rattle.changes.specs.declared.touched.RowsThere.{RowsThere}
use Rattle.changes.specs.Nets.{Noted, entry_at, noted_after, noted_at}
use Rattle.changes.proofs.Places.{change_put}
use Rattle.changes.proofs.touched.TouchedRows.put_one.Goals as goal

-- there is room for the place, so it is found
found : (o : Option (Option RowsThere)) → None ≡ o → IsSome o → ⊥
found None e h = cc
found (Some rows) e h = cc

pub returns-in_default-clause-noted : goal.returns-in_default-clause-noted
returns-in_default-clause-noted c = λ place. absurd
    (found (entry_at c.self.inside.rows.entries (place_of c.args.change)) c.in_default.ensures.value
    (subst (λ (entries : Noted). IsSome (entry_at entries (place_of c.args.change))) (sym c.self.view_is) c.requires.room))

pub returns-clause-noted : goal.returns-clause-noted
returns-clause-noted c = λ place.
    let put = c.put_rows.new.rows in
    change_put c.self.inside.rows.entries (c.get_mut.follows.lender put).entries c.args.change c.in-Some.rows.now put (ap (λ (o : Option (Option RowsThere)). unwrap_or o None) (sym c.in-Some.ensures.value)) c.put_rows.ensures
    ((c.get_mut.follows.holds put).3 (subst IsSome c.in-Some.ensures.value refl)).0 place
    ∙ ap (λ (entries : Noted). noted_after c.args.change place (noted_at entries place)) c.self.view_is
