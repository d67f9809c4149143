use Rattle.std.proofs.Common.{◌≡◌, ◌∙◌, ℕ, List, None, ap, inl, inr, sym, subst}
use Rattle.std.specs.Prelude.{All, option_to_list}
use Rattle.std.specs.Option.{option_copied}
use Rattle.table.specs.Rows.{RowValues, FitsColumns, row_at}
use Rattle.table.specs.Bounds.{IsSmallRow}
use Rattle.assertion.specs.Meaning.{filtered_rows}
use Rattle.changes.specs.Lookups.{looked_at}
use Rattle.changes.proofs.FilteredUnder.{all_under, all_with, filtered_at, filtered_under, filtered_with, one_looked}
use Rattle.changes.proofs.lookups.look_through.Goals as goal

pub returns-in-Row-clause-filtered : goal.returns-in-Row-clause-filtered
returns-in-Row-clause-filtered c =
    let place = c.in-Row.place in
    let key = c.args.filter.now.key in
    let looked : looked_at (option_copied c.get.result) None None ≡ option_to_list (row_at key place.key c.args.rows.now)
    = one_looked (option_copied c.get.result) key place.key c.args.rows.now (c.get.ensures ∙ ap (λ (k : ℕ). row_at k place.key c.args.rows.now) c.key_column.ensures) in
    ap (λ (rows : List RowValues). filtered_rows c.args.filter.now.condition rows) looked
    ∙ filtered_under c.args.filter.now.condition key place.key (filtered_at c.args.filter.now.table key c.args.filter.now.condition place (sym c.read.ensures ∙ c.in-Row.is)) c.args.rows.now c.requires

pub returns-in-Row-clause-small : goal.returns-in-Row-clause-small
returns-in-Row-clause-small c = λ all.
    let looked : looked_at (option_copied c.get.result) None None ≡ option_to_list (row_at c.key_column.result c.in-Row.place.key c.args.rows.now) = one_looked (option_copied c.get.result) c.key_column.result c.in-Row.place.key c.args.rows.now c.get.ensures in
    subst (λ (rows : List RowValues). All IsSmallRow rows) (sym looked) (all_under IsSmallRow c.key_column.result c.in-Row.place.key c.args.rows.now all)

pub returns-in-Row-clause-fit : goal.returns-in-Row-clause-fit
returns-in-Row-clause-fit c = λ columns all.
    let looked : looked_at (option_copied c.get.result) None None ≡ option_to_list (row_at c.key_column.result c.in-Row.place.key c.args.rows.now) = one_looked (option_copied c.get.result) c.key_column.result c.in-Row.place.key c.args.rows.now c.get.ensures in
    subst (λ (rows : List RowValues). All (FitsColumns columns) rows) (sym looked) (all_under (FitsColumns columns) c.key_column.result c.in-Row.place.key c.args.rows.now all)

pub returns-in-Column-clause-filtered : goal.returns-in-Column-clause-filtered
returns-in-Column-clause-filtered c =
    let filter = c.args.filter.now in
    let look : List RowValues → List RowValues = filtered_rows filter.condition in
    elim c.indexed_or_all.ensures [
      | inl e ↦ ap look e ∙ filtered_with filter.table filter.key filter.condition c.in-Column.table c.in-Column.column c.in-Column.value (sym c.read.ensures ∙ c.in-Column.is) c.args.rows.now
      | inr e ↦ ap look e
    ]

pub returns-in-Column-clause-small : goal.returns-in-Column-clause-small
returns-in-Column-clause-small c = λ all.
    elim c.indexed_or_all.ensures [
      | inl e ↦ subst (λ (rows : List RowValues). All IsSmallRow rows) (sym e) (all_with IsSmallRow c.in-Column.column c.in-Column.value c.args.rows.now all)
      | inr e ↦ subst (λ (rows : List RowValues). All IsSmallRow rows) (sym e) all
    ]

pub returns-in-Column-clause-fit : goal.returns-in-Column-clause-fit
returns-in-Column-clause-fit c = λ columns all.
    elim c.indexed_or_all.ensures [
      | inl e ↦ subst (λ (rows : List RowValues). All (FitsColumns columns) rows) (sym e) (all_with (FitsColumns columns) c.in-Column.column c.in-Column.value c.args.rows.now all)
      | inr e ↦ subst (λ (rows : List RowValues). All (FitsColumns columns) rows) (sym e) all
    ]
