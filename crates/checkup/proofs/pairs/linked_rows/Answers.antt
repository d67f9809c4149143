use Rattle.std.proofs.Common.{Bool, Err, List, Ok, Result, subst, sym, ◌≡◌}
use Rattle.std.specs.Prelude.{All, IfOk, filter}
use Rattle.std.proofs.lemmas.List.Elements.{All-filter}
use Rattle.table.specs.Bounds.{IsSmallRow}
use Rattle.table.specs.Rows.{RowValues}
use Rattle.checkup.proofs.pairs.linked_rows.Goals as goal

-- what holds of all rows holds of those that are found among them
found_small : {F E : Type 0} (held : F → List RowValues) (found : Result F E) (chosen : RowValues → Bool) (rows : List RowValues)
    → All IsSmallRow rows → IfOk found (λ rows_found. held rows_found ≡ filter chosen rows) → IfOk found (λ rows_found. All IsSmallRow (held rows_found))
found_small held (Ok rows_found) chosen rows small is = subst (All IsSmallRow) (sym is) (All-filter chosen IsSmallRow rows small)
found_small held (Err error) chosen rows small is = tt

pub returns-in-Some : goal.returns-in-Some
returns-in-Some c =
    record { small = found_small _ c.rows_with.result _ c.args.rows.now c.requires.small c.rows_with.ensures }
