use Rattle.std.proofs.Common.{ap, sym, ◌∙◌}
use Rattle.changes.specs.Nets.{Noted, noted_at}
use Rattle.changes.proofs.Places.{room_same}
use Rattle.changes.proofs.touched.TouchedRows.make_place.Goals.{in-Some+in-Some-branch-4+in-Some-branch-6, in-Some+in-Some-branch-4+in-None-1, in-Some+in-None-1, in-None-2}
use Rattle.changes.proofs.touched.TouchedRows.make_place.Goals as goal

-- whatever was put out by the new entry
pub returns-in_ok-insert-clause-same : goal.returns-in_ok-insert-clause-same
returns-in_ok-insert-clause-same c = λ place.
    ap (λ (entries : Noted). noted_at entries place) (elim c.match-branch-3.branch [
      | in-Some+in-Some-branch-4+in-Some-branch-6 w ↦ w.self-is
      | in-Some+in-Some-branch-4+in-None-1 w ↦ w.self-is
      | in-Some+in-None-1 w ↦ w.self-is
      | in-None-2 w ↦ w.self-is
    ])
    ∙ room_same c.self.inside.rows.entries c.insert.new.self.entries (record { table = c.args.change.now.table; key = c.in_ok-copy.field-0 })
    (sym c.contains_key.ensures ∙ c.if-not-contains_key.true) c.in_ok-insert.ensures.updates.0 place
    ∙ ap (λ (entries : Noted). noted_at entries place) c.self.view_is
